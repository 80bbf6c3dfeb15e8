-- Document 01, "The bench reader": the lines that end in a chunk, and the unfinished line after it. Assumes nothing.
use Rattle.std.specs.Prelude.{ℕ, List, [], ◌∷◌}
use Rattle.text.specs.Letters.{lf}
use Rattle.text.specs.Fields.{fields_at}
use Rattle.lines.specs.declared.Lines.{Lines}
use Rattle.lines.specs.Lines.{waiting, extended, emptied}

-- The LFs part a chunk. Each part but the last completes a line, and the last part belongs to the line that is then unfinished.
unfoldable pub ended_parts : Lines → List (List ℕ) → List (List ℕ)
ended_parts lines [] = []
ended_parts lines (part ∷ []) = []
ended_parts lines (part ∷ next ∷ rest) = waiting (extended lines part) ∷ ended_parts (emptied (extended lines part)) (next ∷ rest)

unfoldable pub after_parts : Lines → List (List ℕ) → Lines
after_parts lines [] = lines
after_parts lines (part ∷ []) = extended lines part
after_parts lines (part ∷ next ∷ rest) = after_parts (emptied (extended lines part)) (next ∷ rest)

-- the lines that end in a chunk, each as far as there is room for it
abbrev pub ended : Lines → List ℕ → List (List ℕ)
ended lines chunk = ended_parts lines (fields_at lf chunk)

-- the unfinished line after a chunk
abbrev pub after : Lines → List ℕ → Lines
after lines chunk = after_parts lines (fields_at lf chunk)
