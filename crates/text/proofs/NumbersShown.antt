-- Numbers and hex at work on short texts, by computing; and what is read back there, by the laws. Assumes nothing.
use Prim.Native.Nat.{zero, suc}
use native.Mathlib.Omega.{arith}
use mathlib.Core.List.{[], ◌∷◌}
use mathlib.Core.Path.{◌≡◌, refl}
use lib.IntN.{pos, negsuc}
use Rattle.laws.specs.Pick.{pick}
use Rattle.std.specs.Prelude.{Some, None}
use Rattle.text.specs.Letters.{word}
use Rattle.text.specs.Decimals.{is_digit, all_digits, is_decimal, value_from, is_up_to, number_in, decimal_in, decimal_of}
use Rattle.text.specs.Signed.{below_zero, signed_in, signed_of}
use Rattle.text.specs.Hex.{digit_value, hex_digit, all_hex, bytes_of, is_hex, filled_by, hex_of, hexes_of, hex_value_from, hex_number_in, hex_digits_of}
use Rattle.text.specs.ReadBack.{AllBytes}
use Rattle.text.proofs.DecimalDigits.{decimals_back}
use Rattle.text.proofs.SignedLaws.{signed_back}
use Rattle.text.proofs.HexLaws.{hex_back, hex_numbers_back}

-- ---- decimals
pub highest : number_in 64 (word "64") ≡ Some 64
unfolding number_in is_up_to is_decimal all_digits is_digit value_from pick
highest = refl

pub too_high : number_in 64 (word "65") ≡ None
unfolding number_in is_up_to is_decimal all_digits is_digit value_from pick
too_high = refl

pub zero_in_front : number_in 64 (word "07") ≡ None
unfolding number_in is_up_to is_decimal all_digits is_digit value_from pick
zero_in_front = refl

pub zero_alone : number_in 64 (word "0") ≡ Some 0
unfolding number_in is_up_to is_decimal all_digits is_digit value_from pick
zero_alone = refl

pub decimal_said : decimal_of 26520 ≡ word "26520"
unfolding decimal_in pick
decimal_said = refl

-- ---- signed numbers
pub lowest_signed : signed_in (word "-128") ≡ Some (negsuc 127)
unfolding signed_in below_zero is_up_to is_decimal all_digits is_digit value_from pick
lowest_signed = refl

pub highest_signed : signed_in (word "127") ≡ Some (pos 127)
unfolding signed_in below_zero is_up_to is_decimal all_digits is_digit value_from pick
highest_signed = refl

pub no_minus_zero : signed_in (word "-0") ≡ None
unfolding signed_in below_zero is_up_to is_decimal all_digits is_digit value_from pick
no_minus_zero = refl

pub signed_said : signed_of (negsuc 4) ≡ word "-5"
unfolding signed_of decimal_in pick
signed_said = refl

-- ---- hex
pub filled : filled_by (word "0ff0") (1 ∷ 2 ∷ []) ≡ 0x0F ∷ 0xF0 ∷ []
unfolding filled_by is_hex all_hex bytes_of digit_value is_digit pick
filled = refl

pub upper_case : filled_by (word "0FF0") (1 ∷ 2 ∷ []) ≡ 1 ∷ 2 ∷ []
unfolding filled_by is_hex all_hex bytes_of digit_value is_digit pick
upper_case = refl

pub hex_read : hex_number_in 3 (word "1ab") ≡ Some 0x1AB
unfolding hex_number_in hex_value_from all_hex digit_value is_digit pick
hex_read = refl

pub hex_short : hex_number_in 4 (word "1ab") ≡ None
unfolding hex_number_in hex_value_from all_hex digit_value is_digit pick
hex_short = refl

pub bytes_said : hexes_of (0x0F ∷ 0xF0 ∷ []) ≡ word "0ff0"
unfolding hexes_of hex_of hex_digit pick
bytes_said = refl

pub digits_said : hex_digits_of 2 0x1AB ≡ word "ab"
unfolding hex_digits_of hex_digit pick
digits_said = refl

-- ---- what the laws of reading back ask for can be met
pub number_back : number_in 64 (decimal_of 64) ≡ Some 64
number_back = (decimals_back 64 64 (omega arith) (omega arith)).0

pub signed_number_back : signed_in (signed_of (negsuc 4)) ≡ Some (negsuc 4)
signed_number_back = signed_back.1 4 (omega arith)

two_bytes : AllBytes (0x0F ∷ 0xF0 ∷ [])
two_bytes zero = omega arith
two_bytes (suc zero) = omega arith
two_bytes (suc (suc i)) = omega arith

pub bytes_back : filled_by (hexes_of (0x0F ∷ 0xF0 ∷ [])) (1 ∷ 2 ∷ []) ≡ 0x0F ∷ 0xF0 ∷ []
bytes_back = (hex_back (0x0F ∷ 0xF0 ∷ []) (1 ∷ 2 ∷ []) two_bytes refl).1

pub digits_back : hex_number_in 2 (hex_digits_of 2 0xAB) ≡ Some 0xAB
digits_back = hex_numbers_back 2 0xAB (omega arith) (omega arith)
