-- Any two results that meet a public promise of this crate are equal. `Post` is the promise itself, as the check reads it from the source.
-- Assumes nothing.
use Rattle.laws.proofs.Only.{Only, named}
use Rattle.timed_ticks.proofs.timed_ticks.Reads as timed_ticks
use Rattle.timed_ticks.proofs.first_level.Reads as first_level

pub timed_ticks_sole : (κs : _) (a : _) (x : _) → Only (λ r. timed_ticks.Post κs a r x)
timed_ticks_sole κs a x = named _

pub first_level_sole : (κs : _) (a : _) (x : _) → Only (λ r. first_level.Post κs a r x)
first_level_sole κs a x = named _
