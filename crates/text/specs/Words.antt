-- Document 01, "The bench reader": a field that is a word, or one of a list of words. Assumes nothing.
use Rattle.std.specs.Prelude.{ℕ, suc, Bool, List, [], ◌∷◌, bytes_eq}
use Rattle.laws.specs.Pick.{pick}
use Rattle.text.specs.Letters.{space}
use Rattle.text.specs.Fields.{parted_at}

-- The two texts are equal byte for byte.
abbrev pub same_text : List ℕ → List ℕ → Bool
same_text field word = bytes_eq field word

-- the words of a list, which has a space between each two; an empty text has no word
abbrev pub words_of : List ℕ → List (List ℕ)
words_of text = parted_at space [] text

-- the place of the first word that is the field, counted from 0; if none is, the number of words
unfoldable pub place_among : List ℕ → List (List ℕ) → ℕ
place_among field [] = 0
place_among field (word ∷ words) = pick (same_text field word) 0 (suc (place_among field words))
