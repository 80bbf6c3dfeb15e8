-- `timed_ticks::one_pass` meets its contract. Assumes nothing.
use mathlib.Core.Path.{◌≡◌, refl, ◌∙◌}
use native.Mathlib.Omega.{arith}
use Rattle.timed_ticks.specs.Ticks.{frame, readied, pass_of}
use Rattle.timed_ticks.proofs.Turns.{bit_small, started, left_alone, pass_on, pass_done}
use Rattle.timed_ticks.proofs.one_pass.Goals as goal
use Rattle.timed_ticks.proofs.one_pass.Goals.{then-starts, else-starts}

pub loop-level-init : goal.loop-level-init
unfolding pass_of
loop-level-init c = (omega arith, refl)

pub loop-level-preserved : goal.loop-level-preserved
unfolding frame
loop-level-preserved c =
    let ready : c.if-starts.station ≡ readied c.args.sends c.loop-level.station =
    elim c.if-starts.branch [
      | then-starts w ↦ started _ _ c.starts.ensures w.if-starts.true w.start_tx.ensures.value w.station-is
      | else-starts w ↦ left_alone _ _ c.starts.ensures w.if-starts.false w.station-is
    ] in (
      omega (arith, bit_small c.tick-ticked.result.driven_high),
      pass_on _ _ _ _ c.loop-level.level-index (omega arith) ready (c.level_of.ensures ∙ rw c.driven_high.ensures) c.tick-ticked.ensures refl c.counted-highs.ensures
          ∙ c.loop-level.invariant.1,
    )

pub returns : goal.returns
returns c = record {
  value = pass_done _ _ _ c.loop-level.level-index (omega arith) c.loop-level.invariant.1;
  highs_bound = omega arith;
}
