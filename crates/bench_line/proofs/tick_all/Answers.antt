-- `bench_line::tick_all` meets its contract. Assumes nothing.
use native.Mathlib.Numerals.{add-one}
use Rattle.fsm.specs.Ticking.{ticked}
use Rattle.bench_line.proofs.Laws.{tick_next}
use Rattle.bench_line.proofs.tick_all.Goals as goal

pub loop-i-preserved : goal.loop-i-preserved
unfolding ticked
loop-i-preserved c = simp (add-one, c.tick.ensures, c.loop-i.invariant) (tick_next _ _ _ _)
