-- Document 01, "The bench reader": lower-case hex, two digits for a byte, and numbers of a fixed width. Assumes nothing.
use Rattle.std.specs.Prelude.{ℕ, zero, suc, ◌+◌, ◌*◌, ◌-◌, ◌/◌, ◌%◌, Bool, true, ◌&&◌, List, [], ◌∷◌, ◌++◌, Option, Some, None, eqb, ltb, leb, length}
use Rattle.laws.specs.Pick.{pick}
use Rattle.text.specs.Letters.{letter}
use Rattle.text.specs.Decimals.{is_digit}

-- ---- a digit
-- the value of a digit, 0 to 9 and a to f; 16 for any other byte
unfoldable pub digit_value : ℕ → ℕ
digit_value byte =
    pick (is_digit byte) (byte - letter "0")
    (pick (ltb byte (letter "a")) 16 (pick (ltb (letter "f") byte) 16 (byte - letter "a" + 10)))

-- the digit of a value below sixteen
unfoldable pub hex_digit : ℕ → ℕ
hex_digit value = pick (ltb value 10) (letter "0" + value) (letter "a" + (value - 10))

-- Every byte of the field is a hex digit.
unfoldable pub all_hex : List ℕ → Bool
all_hex [] = true
all_hex (byte ∷ bytes) = ltb (digit_value byte) 16 && all_hex bytes

-- ---- bytes
-- the bytes that the digits spell, two digits each, the upper one first
unfoldable pub bytes_of : List ℕ → List ℕ
bytes_of [] = []
bytes_of (top ∷ []) = []
bytes_of (top ∷ low ∷ rest) = (digit_value top * 16 + digit_value low) ∷ bytes_of rest

-- The field is two hex digits for each of `count` bytes, and nothing else.
unfoldable pub is_hex : ℕ → List ℕ → Bool
is_hex count field = eqb (length field) (2 * count) && all_hex field

-- If the field is the hex of as many bytes as the buffer has, they fill it. Any other field leaves it as it was.
unfoldable pub filled_by : List ℕ → List ℕ → List ℕ
filled_by field buffer = pick (is_hex (length buffer) field) (bytes_of field) buffer

-- a byte as two hex digits, the upper one first
unfoldable pub hex_of : ℕ → List ℕ
hex_of byte = hex_digit (byte / 16) ∷ hex_digit (byte % 16) ∷ []

-- the bytes in hex, the first byte first
unfoldable pub hexes_of : List ℕ → List ℕ
hexes_of [] = []
hexes_of (byte ∷ bytes) = hex_of byte ++ hexes_of bytes

-- ---- a number of a fixed width
-- the value of these digits behind others of value n
unfoldable pub hex_value_from : ℕ → List ℕ → ℕ
hex_value_from n [] = n
hex_value_from n (digit ∷ digits) = hex_value_from (n * 16 + digit_value digit) digits

-- the number in a field of exactly `width` hex digits, at most sixteen, since a number has 64 bits
unfoldable pub hex_number_in : ℕ → List ℕ → Option ℕ
hex_number_in width field =
    pick (leb width 16 && eqb (length field) width && all_hex field) (Some (hex_value_from 0 field)) None

-- the last `width` hex digits of a number
unfoldable pub hex_digits_of : ℕ → ℕ → List ℕ
hex_digits_of zero number = []
hex_digits_of (suc width) number = hex_digits_of width (number / 16) ++ (hex_digit (number % 16) ∷ [])
