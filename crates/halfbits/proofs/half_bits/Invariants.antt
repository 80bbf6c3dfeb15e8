-- `half_bits` meets its contract. The loop's invariant: the number is that of the half-bits of the start and of the bits so far.
use mathlib.Core.Path.{◌≡◌}
use Rattle.halfbits.proofs.Halves.{begun}
use Rattle.halfbits.proofs.half_bits.Given as goal

abbrev pub invariant-loop-at : goal.invariant-loop-at
invariant-loop-at l = l.all ≡ begun l.bits l.bytes l.at
