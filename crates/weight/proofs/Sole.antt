-- Any two results that meet a public promise of this crate are equal. `Post` is the promise itself, as the check reads it from the source.
-- Assumes nothing.
use Rattle.laws.proofs.Only.{Only, named}
use Rattle.weight.proofs.sample_weight.Reads as sample_weight

pub sample_weight_sole : (κs : _) (a : _) (x : _) → Only (λ r. sample_weight.Post κs a r x)
sample_weight_sole κs a x = named _
