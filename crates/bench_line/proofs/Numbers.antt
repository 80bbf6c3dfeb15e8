-- The number of a start's answer is the refusal that its promise gives. Assumes nothing.
use Rattle.std.specs.Prelude.{ℕ, Result, ⊤}
use mathlib.Core.Bool.{Bool, true, false}
use mathlib.Core.Path.{◌≡◌, refl}
use Rattle.laws.specs.Pick.{pick}
use Rattle.fsm.specs.declared.Answered.{Answered}
use Rattle.fsm.specs.declared.StartError.{StartError}
use Rattle.fsm.specs.Refusals.{start_answer_number}
use Rattle.bench_line.specs.declared.BenchLine.{BenchLine}
use Rattle.bench_line.specs.declared.LineAnswered.{LineAnswered}
use Rattle.bench_line.specs.Line.{is_on}
use Rattle.bench_line.specs.Refusals.{line_start_number}
use Rattle.bench_line.specs.Calls.{answered_at}

picked : {A : Type 0} (number : A → ℕ) (t : Bool) (a b : A) → number (pick t a b) ≡ pick t (number a) (number b)
unfolding pick
picked number true a b = refl
picked number false a b = refl

pub started_number : (l : BenchLine) (number : ℕ) (r : Answered (Result ⊤ StartError))
    → line_start_number (answered_at l number r).answer ≡ pick (is_on l number) (start_answer_number r.answer) 9
unfolding line_start_number answered_at
started_number l number r = picked (λ (r : LineAnswered (Result ⊤ StartError)). line_start_number r.answer) (is_on l number) _ _
