-- `BestPhaseSearch::run` meets its contract. The loop's invariant: what is left of the run gives the answer of the whole. Assumes nothing.
use mathlib.Core.Path.{◌≡◌}
use Prim.Native.Nat.{◌-◌}
use Rattle.search.specs.Search.{run_of}
use Rattle.search.proofs.BestPhaseSearch.run.Given as goal

abbrev pub invariant-loop-answer : goal.invariant-loop-answer
invariant-loop-answer l = run_of l.search l.window ≡ run_of l.initial.search l.window

abbrev pub decreases-loop-answer : goal.decreases-loop-answer
decreases-loop-answer l = 5 - l.search.step
