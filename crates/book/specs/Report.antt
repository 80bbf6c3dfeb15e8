-- Document 01, "The bench reader": what the reader prints for a book. Assumes nothing.
use Rattle.std.specs.Prelude.{ℕ, suc, ◌+◌, Bool, true, false, List, [], ◌∷◌, ◌++◌, Result, Ok, Err, length, take}
use Rattle.laws.specs.Bit.{bit}
use Rattle.lines.specs.Lines.{lines_of}
use Rattle.bench_text.specs.declared.Capture.{Capture}
use Rattle.bench_text.specs.declared.Refusal.{Refusal}
use Rattle.bench_text.specs.Line.{book_line_of}
use Rattle.bench_reading.specs.Reading.{reading_of, is_decoded}
use Rattle.bench_answers.specs.declared.Counts.{Counts}
use Rattle.bench_answers.specs.Answer.{row_text, bad_text, end_text}

-- ---- the answer to a line
-- A good line is answered by a row, and a refused one by a BAD line.
unfoldable pub answer_as : ℕ → Result Capture Refusal → List ℕ
answer_as number (Ok capture) = row_text number capture (reading_of capture)
answer_as number (Err refusal) = bad_text number refusal

-- the answer to the text of a line
abbrev pub answer_text : ℕ → List ℕ → List ℕ
answer_text number text = answer_as number (book_line_of text)

-- ---- what is counted
-- A good line is decoded if its capture is read as a frame of 8, 16 or 24 bits. A refused line is not decoded.
unfoldable pub is_decoded_as : Result Capture Refusal → Bool
is_decoded_as (Ok capture) = is_decoded (reading_of capture)
is_decoded_as (Err refusal) = false

unfoldable pub is_refused_as : Result Capture Refusal → Bool
is_refused_as (Ok capture) = false
is_refused_as (Err refusal) = true

-- the same for the text of a line
abbrev pub is_decoded_line : List ℕ → Bool
is_decoded_line text = is_decoded_as (book_line_of text)

abbrev pub is_refused_line : List ℕ → Bool
is_refused_line text = is_refused_as (book_line_of text)

-- how many of the lines pass a test
unfoldable pub count_of : (List ℕ → Bool) → List (List ℕ) → ℕ
count_of test [] = 0
count_of test (text ∷ lines) = bit (test text) + count_of test lines

-- the counts that the END line tells
abbrev pub counts_of : List (List ℕ) → Counts
counts_of lines = record { lines = length lines; decoded = count_of is_decoded_line lines; refused = count_of is_refused_line lines }

-- ---- the book
-- the answers to these lines, which are numbered from n on
unfoldable pub answers_from : ℕ → List (List ℕ) → List ℕ
answers_from n [] = []
answers_from n (text ∷ lines) = answer_text n text ++ answers_from (suc n) lines

-- the answers to all lines, and then the END line
unfoldable pub report_of : List (List ℕ) → List ℕ
report_of lines = answers_from 1 lines ++ end_text (counts_of lines)

-- No line after the 999,999th is read or counted.
abbrev pub lines_max : ℕ
lines_max = 999999

-- the report of an input
unfoldable pub report : List ℕ → List ℕ
report input = report_of (take lines_max (lines_of input))
