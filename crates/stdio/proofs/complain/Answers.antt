-- `stdio::complain` meets its contract. Assumes nothing.
use Rattle.seal.specs.Seal.{mark}
use Rattle.stdio.proofs.complain.Goals as goal

pub returns : goal.returns
returns c = mark _
