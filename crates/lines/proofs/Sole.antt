-- Any two results that meet a public promise of this crate are equal, the lines that were lent included. `Post` is the promise itself, as the check
-- reads it from the source. Assumes nothing.
use mathlib.Core.Path.{◌≡◌}
use Rattle.laws.proofs.Only.{Only, alike, named, both_named}
use Rattle.lines.proofs.Lines.new.Reads as new_lines
use Rattle.lines.proofs.Lines.line.Reads as line
use Rattle.lines.proofs.Lines.take.Reads as take

pub new_lines_sole : (κs : _) (a : _) (x : _) → Only (λ r. new_lines.Post κs a r x)
new_lines_sole κs a x = named _

pub line_sole : (κs : _) (a : _) (r s : _) (x y : _) → line.Post κs a r x → line.Post κs a s y → r.now ≡ s.now
line_sole κs a r s x y = alike

pub take_sole : (κs : _) (a : _) (r s : _) (x y : _) → take.Post κs a r x → take.Post κs a s y → (r ≡ s) × (x.0.now ≡ y.0.now)
take_sole κs a r s x y = both_named
