-- Document 01, "The bench reader": the lines that end in any chunks are the lines of the whole input. Assumes nothing.
use Rattle.std.specs.Prelude.{ℕ, List, [], ◌∷◌, ◌++◌, ◌≡◌, eqb, take}
use Rattle.laws.specs.Pick.{pick}
use Rattle.lines.specs.declared.Lines.{Lines}
use Rattle.lines.specs.Lines.{lines_of, line_room, new_lines, waiting}
use Rattle.lines.specs.Chunk.{ended, after}

-- At the end of the input the unfinished line is a line, if it has a byte.
unfoldable pub last_of : Lines → List (List ℕ)
last_of lines = pick (eqb lines.len 0) [] (waiting lines ∷ [])

-- the lines that end in these chunks, one after the other, and then at the end of the input
unfoldable pub ended_over : Lines → List (List ℕ) → List (List ℕ)
ended_over lines [] = last_of lines
ended_over lines (chunk ∷ chunks) = ended lines chunk ++ ended_over (after lines chunk) chunks

-- the chunks as one input
unfoldable pub joined : List (List ℕ) → List ℕ
joined [] = []
joined (chunk ∷ chunks) = chunk ++ joined chunks

-- each line, cut to the bytes that there is room for
unfoldable pub shortened : List (List ℕ) → List (List ℕ)
shortened [] = []
shortened (text ∷ lines) = take line_room text ∷ shortened lines

-- It makes no difference where the input is cut into chunks.
abbrev pub LinesOfAnyChunks : Type 0
LinesOfAnyChunks = (chunks : List (List ℕ)) → ended_over new_lines chunks ≡ shortened (lines_of (joined chunks))
