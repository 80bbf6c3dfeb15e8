-- `book::BookReader::feed` meets its contract. Assumes nothing.
use native.Mathlib.Omega.{arith}
use Rattle.book.proofs.Feeding.{not_fed}
use Rattle.book.proofs.BookReader.feed.Goals as goal

pub returns-then-out-chunk : goal.returns-then-out-chunk
returns-then-out-chunk c =
    let none = not_fed c.args.self c.args.chunk.now c.args.out.now (omega (arith, c.if-out-chunk.true)) in
    record { value = none.0; out_after = none.1.0; said_in_bounds = none.1.1 }

pub take_in-requires : goal.take_in-requires
take_in-requires c = omega arith
