-- Document 01, "Refusal numbers": decimals without leading zeros, read up to a limit and written. Assumes nothing.
use Rattle.std.specs.Prelude.{ℕ, zero, suc, ◌+◌, ◌*◌, ◌-◌, ◌/◌, ◌%◌, Bool, true, false, not, ◌&&◌, List, [], ◌∷◌, ◌++◌, Option, Some, None, eqb, ltb, leb}
use Rattle.laws.specs.Pick.{pick}
use Rattle.text.specs.Letters.{letter}

-- ---- reading
-- A digit is one of the letters 0 to 9.
unfoldable pub is_digit : ℕ → Bool
is_digit byte = pick (ltb byte (letter "0")) false (leb byte (letter "9"))

-- Every byte of the field is a digit.
unfoldable pub all_digits : List ℕ → Bool
all_digits [] = true
all_digits (byte ∷ bytes) = is_digit byte && all_digits bytes

-- A decimal has only digits, and at least one. It begins with 0 only if that is its one digit.
unfoldable pub is_decimal : List ℕ → Bool
is_decimal [] = false
is_decimal (byte ∷ []) = is_digit byte
is_decimal (byte ∷ next ∷ rest) = not (eqb byte (letter "0")) && all_digits (byte ∷ next ∷ rest)

-- the value of these digits behind others of value n
unfoldable pub value_from : ℕ → List ℕ → ℕ
value_from n [] = n
value_from n (digit ∷ digits) = value_from (n * 10 + (digit - letter "0")) digits

-- the value of a decimal
abbrev pub value_of : List ℕ → ℕ
value_of field = value_from 0 field

-- The field is a decimal from 0 to `most`.
unfoldable pub is_up_to : ℕ → List ℕ → Bool
is_up_to most field = is_decimal field && leb (value_of field) most

-- the number in a field, if it is a decimal up to `most`
unfoldable pub number_in : ℕ → List ℕ → Option ℕ
number_in most field = pick (is_up_to most field) (Some (value_of field)) None

-- the same for a byte
abbrev pub byte_in : ℕ → List ℕ → Option ℕ
byte_in most field = number_in most field

-- ---- writing
-- the digit of a number below ten
abbrev pub digit_of : ℕ → ℕ
digit_of n = letter "0" + n

-- A number below ten is one digit. Any other is the digits of its tenth and then its last digit. At most `most` digits are written.
unfoldable pub decimal_in : ℕ → ℕ → List ℕ
decimal_in zero n = []
decimal_in (suc most) n = pick (ltb n 10) (digit_of n ∷ []) (decimal_in most (n / 10) ++ (digit_of (n % 10) ∷ []))

-- a number in decimal; ten digits are enough for 32 bits
abbrev pub decimal_of : ℕ → List ℕ
decimal_of n = decimal_in 10 n
