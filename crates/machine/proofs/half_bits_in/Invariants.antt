-- `machine::half_bits_in` meets its contract. The loop's invariant: the number is that of the half-bits of the bytes so far. Assumes nothing.
use mathlib.Core.Path.{◌≡◌}
use Rattle.machine.proofs.Store.{taken}
use Rattle.machine.proofs.half_bits_in.Given as goal

abbrev pub invariant-loop-byte : goal.invariant-loop-byte
invariant-loop-byte l = l.bits ≡ taken l.fn.«data» l.byte-index
