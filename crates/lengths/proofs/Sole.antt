-- Any two results that meet a public promise of this crate are equal. `Post` is the promise itself, as the check reads it from the source.
-- Assumes nothing.
use Rattle.laws.proofs.Only.{Only, named, named_and}
use Rattle.lengths.proofs.BitLengths.of.Reads as of
use Rattle.lengths.proofs.BitLengths.contains.Reads as contains

pub of_sole : (κs : _) (a : _) (x : _) → Only (λ r. of.Post κs a r x)
of_sole κs a x = named_and _ _

pub contains_sole : (κs : _) (a : _) (x : _) → Only (λ r. contains.Post κs a r x)
contains_sole κs a x = named _
