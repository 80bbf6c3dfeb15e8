-- `timed_ticks::timed_ticks` meets its contract. Assumes nothing.
use native.Mathlib.Omega.{arith}
use mathlib.Core.Path.{◌≡◌, ◌∙◌}
use Rattle.timed_ticks.proofs.Turns.{all_on, all_done}
use Rattle.timed_ticks.proofs.timed_ticks.Goals as goal

pub loop-left-init : goal.loop-left-init
loop-left-init c = rw c.new-station.ensures

pub loop-left-preserved : goal.loop-left-preserved
loop-left-preserved c =
    all_on _ _ c.loop-left.left _ _ (omega arith) c.one_pass-pass.ensures.value c.sum_of-sum.ensures ∙ c.loop-left.invariant

pub returns : goal.returns
returns c = let none : c.loop-left.left ≡ 0 = omega arith in all_done _ _ _ _ _ none c.loop-left.invariant
