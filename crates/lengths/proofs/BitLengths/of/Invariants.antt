-- `BitLengths::of` meets its contract. The loop's invariant: the set with what is left of the list is the set of the whole list.
use mathlib.Core.Path.{◌≡◌}
use lib.ListN.{drop}
use Rattle.lengths.specs.Lengths.{with_lengths, set_of}
use Rattle.lengths.proofs.BitLengths.of.Given as goal

abbrev pub invariant-loop-length : goal.invariant-loop-length
invariant-loop-length l = with_lengths l.set (drop l.length-index l.lengths) ≡ set_of l.lengths
