-- `book::BookReader::take_in` meets its contract. Assumes nothing.
use Prim.Native.Nat.{◌-◌}
use lib.ListN.{length}
use Rattle.book.proofs.Feeding.{Going}
use Rattle.book.proofs.BookReader.take_in.Given as goal

-- what is taken in of the chunk, from the reader that came to the one that goes on
abbrev pub invariant-loop-from : goal.invariant-loop-from
invariant-loop-from l = Going l.chunk l.initial.out l.initial.self l.out l.self l.at l.from

abbrev pub decreases-loop-from : goal.decreases-loop-from
decreases-loop-from l = length l.chunk - l.from
