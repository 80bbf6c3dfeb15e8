-- `SampleWindow::read_phase` meets its contract. Assumes nothing.
use native.Mathlib.Omega.{arith}
use Rattle.window.proofs.Turns.{from_the_start, at_its_most}
use Rattle.window.proofs.SampleWindow.read_phase.Goals as goal

pub loop-bitpos-init : goal.loop-bitpos-init
loop-bitpos-init c = record {
  within = c.min-bits.ensures;
  strides = omega arith;
  end = omega arith;
  weights = omega arith;
  room = omega arith;
  whole = from_the_start _ _ _;
}

pub returns-then-max_out_bits-read : goal.returns-then-max_out_bits-read
returns-then-max_out_bits-read c = at_its_most _ _ _ _ _ _ c.loop-bitpos.invariant.whole (omega arith) c.if-max_out_bits-read.true
