-- `stdio::read_chunk` meets its contract. Assumes nothing.
use Rattle.std.proofs.Common.{arith}
use Rattle.stdio.specs.Marks.{Within}
use Rattle.seal.specs.Seal.{mark}
use Rattle.stdio.proofs.read_chunk.Goals as goal

pub returns-in-Ok-eq0-clause-within : goal.returns-in-Ok-eq0-clause-within
unfolding Within
returns-in-Ok-eq0-clause-within c = tt

pub returns-in-Ok-eq0-clause-came : goal.returns-in-Ok-eq0-clause-came
returns-in-Ok-eq0-clause-came c = mark _

-- A read that neither failed nor met the end brought a byte at least, and no more than the buffer has room for.
pub returns-in-Ok-clause-within : goal.returns-in-Ok-clause-within
unfolding Within
returns-in-Ok-clause-within c = (omega (arith, c.in-Ok.count-test), omega (arith, c.in-Ok.ensures.bound))

pub returns-in-Ok-clause-came : goal.returns-in-Ok-clause-came
returns-in-Ok-clause-came c = mark _

pub returns-in-Err-clause-within : goal.returns-in-Err-clause-within
unfolding Within
returns-in-Err-clause-within c = tt

pub returns-in-Err-clause-came : goal.returns-in-Err-clause-came
returns-in-Err-clause-came c = mark _
