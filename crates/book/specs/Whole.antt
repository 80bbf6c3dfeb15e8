-- Document 01, "The bench reader": a reader says the report of a book, wherever the book is cut into chunks. Assumes nothing.
use Rattle.std.specs.Prelude.{ℕ, List, [], ◌∷◌, ◌++◌, ◌≡◌, ltb, length}
use Rattle.lines.specs.Lines.{lines_of}
use Rattle.lines.specs.AnyChunks.{joined}
use Rattle.book.specs.declared.BookReader.{BookReader}
use Rattle.book.specs.Report.{lines_max, report}
use Rattle.book.specs.Reader.{new_reader, is_over, after, said, last_words}

-- what a reader says of these chunks, one after the other, and then at the end of the input
unfoldable pub said_of : BookReader → List (List ℕ) → List ℕ
said_of r [] = last_words r
said_of r (chunk ∷ chunks) = said r chunk ++ said_of (after r chunk) chunks

-- A new reader says the report of its whole input.
abbrev pub Reports : Type 0
Reports = (chunks : List (List ℕ)) → said_of new_reader chunks ≡ report (joined chunks)

-- the reader after these chunks
unfoldable pub after_all : BookReader → List (List ℕ) → BookReader
after_all r [] = r
after_all r (chunk ∷ chunks) = after_all (after r chunk) chunks

-- The reader tells that a byte came after the lines that it reads exactly if the input has more lines than these.
abbrev pub TellsMore : Type 0
TellsMore = (chunks : List (List ℕ)) → is_over (after_all new_reader chunks) ≡ ltb lines_max (length (lines_of (joined chunks)))
