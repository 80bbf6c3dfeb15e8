-- Any two results that meet a public promise of this crate are equal. `Post` is the promise itself, as the check reads it from the source.
-- Assumes nothing.
use Rattle.laws.proofs.Only.{Only, named, named_and}
use Rattle.search.proofs.is_better_decode.Reads as is_better_decode
use Rattle.search.proofs.BestPhaseSearch.new.Reads as new
use Rattle.search.proofs.BestPhaseSearch.step.Reads as step
use Rattle.search.proofs.BestPhaseSearch.run.Reads as run

pub is_better_decode_sole : (κs : _) (a : _) (x : _) → Only (λ r. is_better_decode.Post κs a r x)
is_better_decode_sole κs a x = named _

pub new_sole : (κs : _) (a : _) (x : _) → Only (λ r. new.Post κs a r x)
new_sole κs a x = named _

pub step_sole : (κs : _) (a : _) (x : _) → Only (λ r. step.Post κs a r x)
step_sole κs a x = named_and _ _

pub run_sole : (κs : _) (a : _) (x : _) → Only (λ r. run.Post κs a r x)
run_sole κs a x = named_and _ _
