-- Document 01, "Refusal numbers" 7 and 8, those of a start. Assumes nothing.
use Rattle.std.specs.Prelude.{ℕ, Bool, Result, Ok, Err}
use Rattle.laws.specs.Pick.{pick}
use Rattle.fsm.specs.declared.StartError.{StartError}
use Rattle.fsm.specs.declared.StartError.TheVariants.{Busy, BadLength}

-- the number of each refusal
abbrev pub start_error_number : StartError → ℕ
start_error_number Busy = 7
start_error_number BadLength = 8

-- the refusal number of each answer; 0 is no refusal
abbrev pub start_answer_number : {A : Type 0} → Result A StartError → ℕ
start_answer_number (Ok a) = 0
start_answer_number (Err e) = start_error_number e

-- The station refuses a start by 7 if its state doesn't allow it, and else by 8 if the length doesn't fit. So the lower number wins.
unfoldable pub start_number : Bool → Bool → ℕ
start_number allowed fits = pick allowed (pick fits 0 8) 7
