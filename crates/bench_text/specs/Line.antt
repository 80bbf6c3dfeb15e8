-- Document 01, "The bench reader": what a line of the book says. Assumes nothing.
use Rattle.std.specs.Prelude.{ℕ, ◌-◌, List, ◌++◌, Result, Ok, Err, replicate}
use Rattle.text.specs.Decimals.{value_of}
use Rattle.text.specs.Hex.{bytes_of}
use Rattle.bench_text.specs.declared.Capture.{Capture}
use Rattle.bench_text.specs.declared.Refusal.{Refusal}
use Rattle.bench_text.specs.Rules.{count_max, silence_field, count_field, samples_field, judged}

-- a capture: silence in ticks, count and samples, with zeros past the count
unfoldable pub capture_with : ℕ → ℕ → List ℕ → Capture
capture_with silence count samples = record { silence = silence; count = count; samples = samples ++ replicate (count_max - count) 0 }

-- the capture that the fields of a good line give
abbrev pub capture_in : List ℕ → Capture
capture_in text = capture_with (value_of (silence_field text)) (value_of (count_field text)) (bytes_of (samples_field text))

-- A refused line gives its refusal, and a good line its capture.
unfoldable pub book_line_as : Result (Unit {0}) Refusal → List ℕ → Result Capture Refusal
book_line_as (Ok good) text = Ok (capture_in text)
book_line_as (Err refusal) text = Err refusal

-- what a line says, once it is judged
abbrev pub book_line_of : List ℕ → Result Capture Refusal
book_line_of text = book_line_as (judged text) text
