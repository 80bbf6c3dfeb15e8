-- The line that says a capture is read as that capture. Assumes nothing.
use Prim.Native.Nat.{ℕ, zero, suc, ◌*◌, ◌≤◌, ◌<◌}
use native.Mathlib.Omega.{arith}
use mathlib.Core.Bool.{true, false, false≢true}
use mathlib.Core.List.{List, [], ◌∷◌, ◌++◌}
use mathlib.Core.Path.{◌≡◌, refl, sym, ap, ◌∙◌}
use lib.Dec.{eqb, ltb}
use lib.Ieee.Bits.{is_true}
use lib.ListN.{length, get_or, length-append}
use borrow.Author.Tests.{le-leb, eq-eqb, ne_eqb}
use Rattle.std.specs.Prelude.{Ok}
use Rattle.laws.specs.Pick.{pick}
use Rattle.laws.proofs.Below.{below}
use Rattle.laws.proofs.Picked.{on_true}
use Rattle.text.specs.Letters.{word, tab}
use Rattle.text.specs.Fields.{fields_at, joined_by}
use Rattle.text.specs.Decimals.{is_digit, value_of, is_up_to, decimal_in, decimal_of}
use Rattle.text.specs.Hex.{digit_value, all_hex, is_hex, hex_digit, hex_of, hexes_of}
use Rattle.text.specs.ReadBack.{Without, AllBytes}
use Rattle.text.proofs.FieldLaws.{fields_back}
use Rattle.text.proofs.DecimalLaws.{both_true}
use Rattle.text.proofs.DecimalDigits.{length_decimal, decimal_back}
use Rattle.text.proofs.HexLaws.{length_hexes, hexes_hex, hexes_bytes}
use Rattle.bench_text.specs.Rules.{line_max, silence_max, count_max, is_short, has_fields, has_numbers, has_samples, judged_by}
use Rattle.bench_text.specs.Line.{capture_with, book_line_as, book_line_of}
use Rattle.bench_text.specs.ReadBack.{line_for, ReadBack}

-- ---- fields without a tab
hex_no_tab : (x : ℕ) → ltb (digit_value x) 16 ≡ true → eqb x tab ≡ false
unfolding digit_value is_digit pick
hex_no_tab x e = ne_eqb x tab (λ q. false≢true (ap (λ (y : ℕ). ltb (digit_value y) 16) (sym q) ∙ e))

hex_without : (f : List ℕ) → all_hex f ≡ true → Without tab f
unfolding all_hex
hex_without [] e i h = absurd (omega (arith, h))
hex_without (x ∷ f) e zero h = hex_no_tab x (both_true (ltb (digit_value x) 16) (all_hex f) e).0
hex_without (x ∷ f) e (suc i) h = hex_without f (both_true (ltb (digit_value x) 16) (all_hex f) e).1 i (omega arith)

-- ---- a number of one byte
module _ (n : ℕ) (h : n < 256) where
  value : value_of (decimal_of n) ≡ n
  value = (decimal_back n (omega arith)).1

  decimal_short : length (decimal_of n) ≤ 3
  decimal_short = length_decimal 10 2 n (omega arith)

  -- by a computed test of all 256
  decimal_hex : all_hex (decimal_of n) ≡ true
  unfolding all_hex digit_value is_digit decimal_in pick
  decimal_hex = is_true _ (below (λ n. all_hex (decimal_of n)) 256 tt n h)

  up_to : (most : ℕ) → n ≤ most → is_up_to most (decimal_of n) ≡ true
  unfolding is_up_to
  up_to most l = rw ((decimal_back n (omega arith)).0, value, le-leb n most l)

-- ---- the line
module _ (silence : ℕ) (samples : List ℕ) (low : silence ≤ silence_max) (few : length samples ≤ count_max) (bytes : AllBytes samples) where
  abbrev text : List ℕ
  text = line_for silence samples

  abbrev count : ℕ
  count = length samples

  low_byte : silence < 256
  low_byte = omega arith

  few_byte : count < 256
  few_byte = omega arith

  abbrev parts : List (List ℕ)
  parts = word "C" ∷ decimal_of silence ∷ decimal_of count ∷ hexes_of samples ∷ []

  no_tabs : (i : ℕ) → Without tab (get_or parts i [])
  no_tabs zero zero h = refl
  no_tabs zero (suc i) h = absurd (omega (arith, h))
  no_tabs (suc zero) j h = hex_without (decimal_of silence) (decimal_hex silence low_byte) j h
  no_tabs (suc (suc zero)) j h = hex_without (decimal_of count) (decimal_hex count few_byte) j h
  no_tabs (suc (suc (suc zero))) j h = hex_without (hexes_of samples) (hexes_hex samples bytes) j h
  no_tabs (suc (suc (suc (suc i)))) j h = absurd (omega (arith, h))

  four : fields_at tab text ≡ parts
  four = fields_back tab (word "C") (decimal_of silence ∷ decimal_of count ∷ hexes_of samples ∷ []) no_tabs

  short : length text ≤ line_max
  unfolding joined_by
  short =
      rw (
        length-append (decimal_of silence) (tab ∷ (decimal_of count ++ (tab ∷ hexes_of samples))),
        length-append (decimal_of count) (tab ∷ hexes_of samples),
        length_hexes samples,
      ) (omega (arith, decimal_short silence low_byte, decimal_short count few_byte))

  is_short_lem : is_short text ≡ true
  unfolding is_short
  is_short_lem = le-leb (length text) line_max short

  good_fields : has_fields text ≡ true
  unfolding has_fields
  good_fields = rw four

  good_numbers : has_numbers text ≡ true
  unfolding has_numbers
  good_numbers = rw (four, up_to silence low_byte silence_max low, up_to count few_byte count_max few)

  good_samples : has_samples text ≡ true
  unfolding has_samples is_hex
  good_samples =
      rw (four, value count few_byte, eq-eqb (length (hexes_of samples)) (2 * count) (length_hexes samples), hexes_hex samples bytes)

  back : book_line_of text ≡ Ok (capture_with silence count samples)
  unfolding judged_by book_line_as
  back =
      rw (
        on_true is_short_lem,
        on_true good_fields,
        on_true good_numbers,
        on_true good_samples,
        four,
        value silence low_byte,
        value count few_byte,
        hexes_bytes samples bytes,
      )

pub read_back : ReadBack
read_back = back

-- ---- a capture that meets the conditions: 16 ticks of silence and the bytes 0f, f0, ff
abbrev three : List ℕ
three = 0x0F ∷ 0xF0 ∷ 0xFF ∷ []

pub line_shown : line_for 16 three ≡ word "C\t16\t3\t0ff0ff"
unfolding joined_by decimal_in hexes_of hex_of hex_digit pick
line_shown = refl

three_bytes : AllBytes three
three_bytes zero = omega arith
three_bytes (suc zero) = omega arith
three_bytes (suc (suc zero)) = omega arith
three_bytes (suc (suc (suc i))) = omega arith

pub shown : book_line_of (word "C\t16\t3\t0ff0ff") ≡ Ok (capture_with 16 3 three)
shown = ap book_line_of (sym line_shown) ∙ read_back 16 three (omega arith) (omega arith) three_bytes
