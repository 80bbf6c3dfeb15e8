-- `BestPhaseSearch::run` meets its contract. The loop's invariant: what is left of the run gives the answer of the whole. Assumes nothing.
use mathlib.Core.Path.{refl}
use native.Mathlib.Omega.{arith}
use Rattle.search.proofs.Steps.{goes}
use Rattle.search.proofs.Runs.{run_next, run_done}
use Rattle.search.proofs.Telling.{tells_run}
use Rattle.search.proofs.BestPhaseSearch.run.Goals as goal

pub loop-answer-init : goal.loop-answer-init
loop-answer-init c = refl

pub loop-answer-smaller : goal.loop-answer-smaller
loop-answer-smaller c = let g = goes _ _ _ c.step-stepped.ensures.value c.in_default.is in omega arith

pub loop-answer-preserved : goal.loop-answer-preserved
loop-answer-preserved c = run_next _ _ _ _ c.step-stepped.ensures.value c.in_default.is c.loop-answer.invariant

pub returns : goal.returns
returns c =
    let told = tells_run _ _ _ (run_done _ _ _ _ _ c.step-stepped.ensures.value c.in-Done.is c.loop-answer.invariant) in
    record { value = told.0; window_value = told.1 }
