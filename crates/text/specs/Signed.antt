-- Document 01, "The bench reader": signed numbers from -128 to 127, as a phase is. They are decimals, with a minus in front below 0. Assumes nothing.
use Rattle.std.specs.Prelude.{ℕ, suc, ◌&&◌, List, ◌∷◌, Option, Some, None, eqb, ltb, ℤ, pos, negsuc, neg_ℤ, get_or, drop}
use Rattle.laws.specs.Pick.{pick}
use Rattle.text.specs.Letters.{minus}
use Rattle.text.specs.Decimals.{value_of, is_up_to, decimal_of}

-- ---- reading
-- the number from -1 to -128 that the digits behind a minus give; 0 has no minus
unfoldable pub below_zero : List ℕ → Option ℤ
below_zero digits = pick (is_up_to 128 digits && ltb 0 (value_of digits)) (Some (neg_ℤ (pos (value_of digits)))) None

-- A field that begins with a minus is a number below 0. Any other is a decimal up to 127.
unfoldable pub signed_in : List ℕ → Option ℤ
signed_in field =
    pick (eqb (get_or field 0 0) minus) (below_zero (drop 1 field)) (pick (is_up_to 127 field) (Some (pos (value_of field))) None)

-- ---- writing
-- A number below 0 is written as a minus and its magnitude.
unfoldable pub signed_of : ℤ → List ℕ
signed_of (pos n) = decimal_of n
signed_of (negsuc n) = minus ∷ decimal_of (suc n)
