-- Any two results that meet a public promise of this crate are equal. `Post` is the promise itself, as the check reads it from the source.
-- Assumes nothing.
use Rattle.laws.proofs.Only.{Only, named}
use Rattle.timed_decoder.proofs.timed_phase.Reads as timed_phase
use Rattle.timed_decoder.proofs.timed_search.Reads as timed_search
use Rattle.timed_decoder.proofs.timed_sniffed.Reads as timed_sniffed

pub timed_phase_sole : (κs : _) (a : _) (x : _) → Only (λ r. timed_phase.Post κs a r x)
timed_phase_sole κs a x = named _

pub timed_search_sole : (κs : _) (a : _) (x : _) → Only (λ r. timed_search.Post κs a r x)
timed_search_sole κs a x = named _

pub timed_sniffed_sole : (κs : _) (a : _) (x : _) → Only (λ r. timed_sniffed.Post κs a r x)
timed_sniffed_sole κs a x = named _
