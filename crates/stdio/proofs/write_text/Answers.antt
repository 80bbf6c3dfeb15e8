-- `stdio::write_text` meets its contract. Assumes nothing.
use Rattle.seal.specs.Seal.{mark}
use Rattle.stdio.proofs.write_text.Goals as goal

pub returns : goal.returns
returns c = mark _
