-- `lines::Lines::new` meets its contract. Assumes nothing.
use mathlib.Core.Path.{refl}
use Rattle.lines.specs.Lines.{new_lines}
use Rattle.lines.proofs.Lines.new.Goals as goal

pub returns : goal.returns
unfolding new_lines
returns c = refl
