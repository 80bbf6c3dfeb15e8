-- Document 01, "Refusal numbers": the number of each answer of a bench line. Assumes nothing.
use Rattle.std.specs.Prelude.{ℕ, Bool, false, eqb, leb, Result, Ok, Err, ⊤}
use Rattle.laws.specs.Pick.{pick}
use Rattle.fsm.specs.declared.StartError.{StartError}
use Rattle.fsm.specs.Refusals.{start_answer_number}
use Rattle.bench_line.specs.declared.LineError.{LineError}
use Rattle.bench_line.specs.declared.LineError.TheVariants.{NoStation, BadCount}

-- A line is made only for a count of 1 to 4.
unfoldable pub is_count : ℕ → Bool
is_count n = pick (eqb n 0) false (leb n 4)

-- ---- the number of each refusal
-- If the line has no station of the number that the call names, the number is 9. If no line is made, it is 10.
abbrev pub line_error_number : LineError → ℕ
line_error_number NoStation = 9
line_error_number BadCount = 10

-- ---- each answer with its number; 0 is no refusal
-- These are the answers of all calls but a start. Only the line refuses them.
unfoldable pub line_number : {A : Type 0} → Result A LineError → ℕ
line_number (Ok answer) = 0
line_number (Err e) = line_error_number e

-- A start is also refused if its station refuses it.
unfoldable pub line_start_number : Result (Result ⊤ StartError) LineError → ℕ
line_start_number (Ok answer) = start_answer_number answer
line_start_number (Err e) = line_error_number e
