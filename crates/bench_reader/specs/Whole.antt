-- Document 01, "The bench reader": a run that comes to the end of its input writes the report of all that came. Assumes nothing.
use Rattle.std.specs.Prelude.{ℕ, List, ◌++◌, ◌≡◌}
use Rattle.lines.specs.AnyChunks.{joined}
use Rattle.book.specs.declared.BookReader.{BookReader}
use Rattle.book.specs.Report.{report}
use Rattle.book.specs.Reader.{last_words}
use Rattle.bench_reader.specs.declared.Next.TheVariants.{End, Over}
use Rattle.bench_reader.specs.Run.{Ran, came_in, wrote_in}

-- What the run wrote and the last words are together the report of the chunks.
abbrev pub WritesTheReport : Type 0
WritesTheReport = (reads : ℕ) (r : BookReader) (run : Ran reads r End) → wrote_in run ++ last_words r ≡ report (joined (came_in run))

-- So does a run to which more lines came than are read: whatever else is in the input, the report stays the same.
abbrev pub WritesTheFullReport : Type 0
WritesTheFullReport =
    (reads : ℕ) (r : BookReader) (run : Ran reads r Over) (rest : List ℕ) → wrote_in run ++ last_words r ≡ report (joined (came_in run) ++ rest)
