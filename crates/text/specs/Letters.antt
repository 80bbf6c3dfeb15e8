-- Document 01, "The bench reader": letters, words and marks as their bytes. Assumes nothing.
use Rattle.std.specs.Prelude.{ℕ, List, [], ◌∷◌}
use Prim.Native.Char.{Char, code}
use Prim.Native.String.{String, [] as no_letter, ◌∷◌ as ◌then◌}

-- the byte of a letter, `letter "C"`
abbrev pub letter : Char → ℕ
letter character = code character

-- the bytes of a word, one after the other, `word "BAD"`
abbrev pub word : String → List ℕ
word no_letter = []
word (first then rest) = letter first ∷ word rest

-- ---- the marks of the bench's texts
-- the mark between two fields
abbrev pub tab : ℕ
tab = letter "\t"

-- the mark that ends a line
abbrev pub lf : ℕ
lf = letter "\n"

-- the mark between two words
abbrev pub space : ℕ
space = letter " "

-- the sign of a number below 0
abbrev pub minus : ℕ
minus = letter "-"
