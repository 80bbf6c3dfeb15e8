-- Any two results that meet the promise of `complain` are equal. What the other two answer, the outside decides. `Post` is the promise itself, as the
-- check reads it from the source. Assumes nothing.
use mathlib.Core.Path.{refl}
use Rattle.laws.proofs.Only.{Only}
use Rattle.stdio.proofs.complain.Reads as complain

pub complain_sole : (κs : _) (a : _) (x : _) → Only (λ r. complain.Post κs a r x)
complain_sole κs a x r s p q = refl
