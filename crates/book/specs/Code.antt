-- What the private functions promise. No public promise cites this file. Assumes nothing.
use Rattle.std.specs.Prelude.{ℕ, suc, ◌+◌, ◌≤◌, List, Result, ◌≡◌, length}
use Rattle.std.proofs.lemmas.List.Edits.{sets}
use Rattle.bench_text.specs.declared.Capture.{Capture}
use Rattle.bench_text.specs.declared.Refusal.{Refusal}
use Rattle.bench_text.specs.Line.{book_line_of}
use Rattle.bench_answers.specs.declared.Counts.{Counts}
use Rattle.bench_answers.specs.Answer.{row_max}
use Rattle.book.specs.declared.Ended.{Ended}
use Rattle.book.specs.Report.{answer_as}
use Rattle.book.specs.Reader.{counted_as}

-- A line was answered at a place of the buffer `before`, which left `after`, and was counted.
pub record Answered (c : Counts) (answer : Result Capture Refusal) (place : ℕ) (before after : List ℕ) (r : Ended) : Type 0 where
  pub counts : r.counts ≡ counted_as c answer
  pub past : r.at ≡ place + length (answer_as (suc c.lines) answer)
  pub within : r.at ≤ place + row_max
  pub left : after ≡ sets before place (answer_as (suc c.lines) answer)

-- the same for the text of a line
abbrev pub AnsweredLine : Counts → List ℕ → ℕ → List ℕ → List ℕ → Ended → Type 0
AnsweredLine c text place before after r = Answered c (book_line_of text) place before after r
