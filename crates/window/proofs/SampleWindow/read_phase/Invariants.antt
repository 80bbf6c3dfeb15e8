-- `SampleWindow::read_phase` meets its contract. The loop's invariant: what was read so far, joined with the bits from the position on, is what the
-- whole phase reads; a bit takes 7 ticks or more; the sums have room. Assumes nothing.
use mathlib.Core.Path.{◌≡◌}
use Prim.Native.Nat.{◌≤◌, ◌<◌, ◌-◌, ◌+◌, ◌*◌, ◌^◌, min}
use lib.IntN.{sub_ℕ}
use Rattle.window.specs.Phase.{bits_of}
use Rattle.window.specs.Code.{stored_of, summary_of}
use Rattle.window.proofs.Turns.{in_all}
use Rattle.window.proofs.SampleWindow.read_phase.Given as goal

abbrev pub invariant-loop-bitpos : goal.invariant-loop-bitpos
invariant-loop-bitpos l = record {
  within : l.bits ≡ min l.self.bits 512;
  strides : 1 + 7 * l.read.bit_len ≤ l.bitpos;
  end : l.bitpos ≤ 520;
  weights : l.read.score ≤ 255 * l.read.bit_len;
  room : l.read.bits < 2 ^ stored_of l.read.bit_len;
  whole : in_all l.self l.max_out_bits (sub_ℕ l.bias 128) l.bitpos l.read ≡ summary_of (bits_of l.self l.max_out_bits (sub_ℕ l.bias 128));
}

abbrev pub decreases-loop-bitpos : goal.decreases-loop-bitpos
decreases-loop-bitpos l = 520 - l.bitpos
