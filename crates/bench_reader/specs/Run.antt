-- Document 01, "The bench reader": what the program promises. The marks `Came`, `Went` and `Complained` come from the calls of `stdio` and in no
-- other way. Assumes nothing.
use Rattle.std.specs.Prelude.{ℕ, suc, Bool, true, false, List, [], ◌∷◌, ◌++◌, ◌≡◌, take}
use Rattle.text.specs.Letters.{word}
use Rattle.stdio.specs.declared.Report.TheVariants.{Bytes, End as input_ended, Failed as read_failed}
use Rattle.stdio.specs.Marks.{Came, Went, Complained}
use Rattle.book.specs.declared.BookReader.{BookReader}
use Rattle.book.specs.Reader.{new_reader, is_over, after, said, last_words}
use Rattle.bench_reader.specs.declared.Next.{Next}
use Rattle.bench_reader.specs.declared.Next.TheVariants.{More, Over, End, Failed}

-- ---- what it says on standard error
-- One line each: a `note` if the program has done its work all the same, and an `error` if it has not.
abbrev pub more_lines : List ℕ
more_lines = word "note: no line after the 999,999th was read\n"

abbrev pub not_read : List ℕ
not_read = word "error: standard input can't be read, so there is no END line\n"

abbrev pub not_written : List ℕ
not_written = word "error: standard output can't be written\n"

-- ---- a run
-- A run: its reads one after the other, from a new reader on. It has the number of reads, the reader after them, and how the run goes on.
pub data Ran : ℕ → BookReader → Next → Type 0 where
  begun : Ran 0 new_reader More
  -- The read brought bytes. The reader was fed all of them and no other, and the program wrote what it said of them.
  fed : (reads : ℕ) (r : BookReader) (buffer : List ℕ) (count : ℕ)
      → Ran reads r More → Came reads buffer (Bytes count) → Went (said r (take count buffer)) true
      → is_over (after r (take count buffer)) ≡ false
      → Ran (suc reads) (after r (take count buffer)) More
  -- The same, but a byte came after the last line that is read, so no read follows.
  full : (reads : ℕ) (r : BookReader) (buffer : List ℕ) (count : ℕ)
      → Ran reads r More → Came reads buffer (Bytes count) → Went (said r (take count buffer)) true
      → is_over (after r (take count buffer)) ≡ true
      → Ran (suc reads) (after r (take count buffer)) Over
  -- The read reported the end of the input.
  ended : (reads : ℕ) (r : BookReader) (buffer : List ℕ) → Ran reads r More → Came reads buffer input_ended → Ran (suc reads) r End
  -- The read failed, and the program said so.
  unread : (reads : ℕ) (r : BookReader) (buffer : List ℕ)
      → Ran reads r More → Came reads buffer read_failed → Complained not_read
      → Ran (suc reads) r Failed
  -- The write failed, and the program said so.
  unwritten : (reads : ℕ) (r : BookReader) (buffer : List ℕ) (count : ℕ)
      → Ran reads r More → Came reads buffer (Bytes count) → Went (said r (take count buffer)) false → Complained not_written
      → Ran (suc reads) (after r (take count buffer)) Failed

-- A run that would read again is broken off after 2 ^ 64 - 1 reads, and not before.
abbrev pub reads_max : ℕ
reads_max = 18446744073709551615

abbrev pub Stops : ℕ → Next → Type 0
Stops reads next = next ≡ More → reads ≡ reads_max

-- ---- the whole program
-- The program wrote the reader's last words, or said that it could not.
pub record Finished (r : BookReader) (done : Bool) : Type 0 where
  pub went : Went (last_words r) done
  pub or_said : done ≡ false → Complained not_written

-- what the whole program has done
pub data Told : Type 0 where
  -- The program read the input to its end, and then the reader had its last words.
  to_the_end : (reads : ℕ) (r : BookReader) (done : Bool) → Ran reads r End → Finished r done → Told
  -- More lines came than are read. The reader had its last words, and the program said that more came.
  to_the_last_line : (reads : ℕ) (r : BookReader) (done : Bool) → Ran reads r Over → Finished r done → Complained more_lines → Told
  -- A read or a write failed.
  broken_off : (reads : ℕ) (r : BookReader) → Ran reads r Failed → Told
  -- The input had not ended after the largest number of reads.
  endless : (r : BookReader) → Ran reads_max r More → Told

-- ---- what came and what was written
-- the chunks that the reader was fed in a run, one after the other
unfoldable pub came_in : {reads : ℕ} {r : BookReader} {next : Next} → Ran reads r next → List (List ℕ)
came_in begun = []
came_in (fed reads r buffer count run came went more) = came_in run ++ (take count buffer ∷ [])
came_in (full reads r buffer count run came went over) = came_in run ++ (take count buffer ∷ [])
came_in (ended reads r buffer run came) = came_in run
came_in (unread reads r buffer run came told) = came_in run
came_in (unwritten reads r buffer count run came went told) = came_in run ++ (take count buffer ∷ [])

-- all that the program wrote in a run
unfoldable pub wrote_in : {reads : ℕ} {r : BookReader} {next : Next} → Ran reads r next → List ℕ
wrote_in begun = []
wrote_in (fed reads r buffer count run came went more) = wrote_in run ++ said r (take count buffer)
wrote_in (full reads r buffer count run came went over) = wrote_in run ++ said r (take count buffer)
wrote_in (ended reads r buffer run came) = wrote_in run
wrote_in (unread reads r buffer run came told) = wrote_in run
wrote_in (unwritten reads r buffer count run came went told) = wrote_in run
