-- Document 01, "The bench reader": a reader that is fed chunk by chunk, what it has counted, and what it says. Assumes nothing.
use Rattle.std.specs.Prelude.{ℕ, suc, ◌+◌, ◌*◌, ◌-◌, min, Bool, false, ◌&&◌, ◌||◌, List, [], ◌∷◌, ◌++◌, Result, Ok, Err, ltb, leb, length, take}
use Rattle.std.specs.Result.{result_unwrap_or}
use Rattle.std.proofs.lemmas.List.Edits.{sets}
use Rattle.laws.specs.Pick.{pick}
use Rattle.lines.specs.Lines.{new_lines}
use Rattle.lines.specs.Chunk.{ended, after as lines_after}
use Rattle.lines.specs.AnyChunks.{last_of}
use Rattle.bench_text.specs.declared.Capture.{Capture}
use Rattle.bench_text.specs.declared.Refusal.{Refusal}
use Rattle.bench_text.specs.Line.{book_line_of}
use Rattle.bench_answers.specs.declared.Counts.{Counts}
use Rattle.bench_answers.specs.Answer.{row_max, end_max, end_text}
use Rattle.book.specs.declared.BookReader.{BookReader}
use Rattle.book.specs.declared.Fed.{Fed}
use Rattle.book.specs.declared.NoRoom.{NoRoom}
use Rattle.book.specs.Report.{lines_max, answers_from, is_decoded_as, is_refused_as}

-- A new reader has read and counted nothing.
abbrev pub no_counts : Counts
no_counts = record { lines = 0; decoded = 0; refused = 0 }

unfoldable pub new_reader : BookReader
new_reader = record { lines = new_lines; counts = no_counts; over = false }

-- The reader has read 999,999 lines, the most that it reads.
unfoldable pub is_full : BookReader → Bool
is_full r = leb lines_max r.counts.lines

-- A byte has come after these lines: of a line that has ended, or of the unfinished one.
unfoldable pub is_over : BookReader → Bool
is_over r = r.over || (is_full r && ltb 0 r.lines.len)

-- ---- lines that have ended
-- No count goes past the most lines that are read.
abbrev pub one_more : ℕ → ℕ
one_more n = min (n + 1) lines_max

-- Each line counts once as a line, and once more if it is decoded or refused.
unfoldable pub counted_as : Counts → Result Capture Refusal → Counts
counted_as c answer =
    record {
      lines = c.lines + 1;
      decoded = pick (is_decoded_as answer) (one_more c.decoded) c.decoded;
      refused = pick (is_refused_as answer) (one_more c.refused) c.refused;
    }

-- the counts after one more line, and after several
abbrev pub counted : Counts → List ℕ → Counts
counted c text = counted_as c (book_line_of text)

unfoldable pub counted_over : Counts → List (List ℕ) → Counts
counted_over c [] = c
counted_over c (text ∷ lines) = counted_over (counted c text) lines

-- the first of these lines, as many as the reader still reads
abbrev pub read_of : BookReader → List (List ℕ) → List (List ℕ)
read_of r lines = take (lines_max - r.counts.lines) lines

-- ---- a chunk
-- The reader after a chunk. It has counted the lines that end in the chunk, as far as it reads lines, and has noted if more lines ended.
unfoldable pub after : BookReader → List ℕ → BookReader
after r chunk =
    record {
      lines = lines_after r.lines chunk;
      counts = counted_over r.counts (read_of r (ended r.lines chunk));
      over = r.over || ltb (lines_max - r.counts.lines) (length (ended r.lines chunk));
    }

-- what the reader says of a chunk: the answers to these lines
unfoldable pub said : BookReader → List ℕ → List ℕ
said r chunk = answers_from (suc r.counts.lines) (read_of r (ended r.lines chunk))

-- ---- what was written
-- how many bytes were written at the start of the buffer
abbrev pub bytes_in : Result ℕ NoRoom → ℕ
bytes_in said = result_unwrap_or said 0

-- Room for one row for each byte of the chunk is always enough. With less room nothing is done.
abbrev pub feed_max : List ℕ → ℕ
feed_max chunk = row_max * length chunk

abbrev pub no_room : NoRoom
no_room = record {}

-- what `feed` hands back, and the buffer after it
unfoldable pub fed : BookReader → List ℕ → ℕ → Fed
fed r chunk room =
    pick (leb (feed_max chunk) room) (record { reader = after r chunk; said = Ok (length (said r chunk)) }) (record { reader = r; said = Err no_room })

unfoldable pub buffer_fed : BookReader → List ℕ → List ℕ → List ℕ
buffer_fed r chunk buffer = pick (leb (feed_max chunk) (length buffer)) (sets buffer 0 (said r chunk)) buffer

-- ---- the end of the input
-- At the end of the input the reader answers a last line without its LF, and then tells the counts.
unfoldable pub last_words : BookReader → List ℕ
last_words r =
    answers_from (suc r.counts.lines) (read_of r (last_of r.lines))
    ++ end_text (counted_over r.counts (read_of r (last_of r.lines)))

-- Room for a row and an END line is always enough. With less room nothing is done.
abbrev pub finish_max : ℕ
finish_max = row_max + end_max

-- what `finish` hands back, and the buffer after it
unfoldable pub finished : BookReader → ℕ → Result ℕ NoRoom
finished r room = pick (leb finish_max room) (Ok (length (last_words r))) (Err no_room)

unfoldable pub buffer_finished : BookReader → List ℕ → List ℕ
buffer_finished r buffer = pick (leb finish_max (length buffer)) (sets buffer 0 (last_words r)) buffer
