-- Document 01, "Machine", Rx: the 64 bytes of a capture, and the eight words that keep them. Assumes nothing.
use Rattle.std.specs.Prelude.{ℕ, ◌+◌, ◌-◌, ◌*◌, ◌/◌, ◌%◌, ◌^◌, List, [], ◌∷◌, get_or, set}
use Rattle.laws.specs.Packed.{packed}
use Rattle.laws.specs.Tabulate.{tabulate}
use Rattle.capture.specs.declared.Samples.{Samples}

-- ---- from words to bytes
-- the eight words in their order
abbrev pub words_of : Samples → List ℕ
words_of s = s.w0 ∷ s.w1 ∷ s.w2 ∷ s.w3 ∷ s.w4 ∷ s.w5 ∷ s.w6 ∷ s.w7 ∷ []

-- Byte i of some words. A word holds eight bytes, the first at its low end. Past the last word the byte is 0.
unfoldable pub byte_in : List ℕ → ℕ → ℕ
byte_in words i = get_or words (i / 8) 0 / 256 ^ (i % 8) % 256

-- the 64 bytes of a capture
unfoldable pub bytes_of : Samples → List ℕ
bytes_of s = tabulate 64 (byte_in (words_of s))

-- ---- from bytes to words
-- Word j of some bytes. It holds the eight bytes from 8 * j on, the first at its low end.
unfoldable pub word_in : List ℕ → ℕ → ℕ
word_in bytes j = packed 256 8 (λ k. get_or bytes (8 * j + (7 - k)) 0)

-- a capture by its words
abbrev pub samples_with : (ℕ → ℕ) → Samples
samples_with word =
    record { w0 = word 0; w1 = word 1; w2 = word 2; w3 = word 3; w4 = word 4; w5 = word 5; w6 = word 6; w7 = word 7 }

-- the words that keep these bytes
unfoldable pub samples_of : List ℕ → Samples
samples_of bytes = samples_with (word_in bytes)

-- ---- one byte written
-- The new byte stands at i, and the others stay. If i is past the last byte, nothing changes.
unfoldable pub with_byte : Samples → ℕ → ℕ → Samples
with_byte s i byte = samples_of (set (bytes_of s) i byte)
