-- Document 01, "The bench reader": a reader reads back what a writer writes. Assumes nothing.
use Rattle.std.specs.Prelude.{ℕ, ◌^◌, ◌≤◌, ◌<◌, true, false, List, [], ◌∷◌, Some, ◌≡◌, eqb, pos, negsuc, length, get_or}
use Rattle.text.specs.Fields.{fields_at, joined_by}
use Rattle.text.specs.Words.{same_text}
use Rattle.text.specs.Decimals.{number_in, byte_in, decimal_of}
use Rattle.text.specs.Signed.{signed_in, signed_of}
use Rattle.text.specs.Hex.{is_hex, filled_by, hexes_of, hex_number_in, hex_digits_of}

-- No byte of the text is the mark.
abbrev pub Without : ℕ → List ℕ → Type 0
Without mark text = (i : ℕ) → i < length text → eqb (get_or text i 0) mark ≡ false

-- Fields are read back if there is at least one, and none of them has the mark in it.
abbrev pub FieldsBack : Type 0
FieldsBack =
    (mark : ℕ) (field : List ℕ) (fields : List (List ℕ)) → ((i : ℕ) → Without mark (get_or (field ∷ fields) i []))
    → fields_at mark (joined_by mark (field ∷ fields)) ≡ field ∷ fields

-- A text is the same as itself, and as no other.
abbrev pub WordsBack : Type 0
WordsBack = ((word : List ℕ) → same_text word word ≡ true) × ((field word : List ℕ) → same_text field word ≡ true → field ≡ word)

-- A number of 32 bits is read back if it is not above the limit, as a number and as a byte.
abbrev pub DecimalsBack : Type 0
DecimalsBack =
    (most n : ℕ) → n ≤ most → n < 2 ^ 32 → (number_in most (decimal_of n) ≡ Some n) × (byte_in most (decimal_of n) ≡ Some n)

-- Every number from -128 to 127 is read back.
abbrev pub SignedBack : Type 0
SignedBack =
    ((n : ℕ) → n ≤ 127 → signed_in (signed_of (pos n)) ≡ Some (pos n))
    × ((n : ℕ) → n ≤ 127 → signed_in (signed_of (negsuc n)) ≡ Some (negsuc n))

-- No number of the list is above 255.
abbrev pub AllBytes : List ℕ → Type 0
AllBytes numbers = (i : ℕ) → get_or numbers i 0 < 256

-- Bytes are read back into a buffer of as many bytes.
abbrev pub HexBack : Type 0
HexBack =
    (bytes buffer : List ℕ) → AllBytes bytes → length buffer ≡ length bytes
    → (is_hex (length buffer) (hexes_of bytes) ≡ true) × (filled_by (hexes_of bytes) buffer ≡ bytes)

-- A number that its width has digits for is read back, up to a width of sixteen.
abbrev pub HexNumbersBack : Type 0
HexNumbersBack = (width number : ℕ) → width ≤ 16 → number < 16 ^ width → hex_number_in width (hex_digits_of width number) ≡ Some number
