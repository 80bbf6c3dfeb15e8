-- Any two results that meet a public promise of this crate are equal. `Post` is the promise itself, as the check reads it from the source.
-- Assumes nothing.
use Rattle.laws.proofs.Only.{Only, named}
use Rattle.event.proofs.RxCompletedEvent.new.Reads as new_event
use Rattle.event.proofs.RxCompletedEvent.of_capture.Reads as of_capture

pub new_event_sole : (κs : _) (a : _) (x : _) → Only (λ r. new_event.Post κs a r x)
new_event_sole κs a x = named _

pub of_capture_sole : (κs : _) (a : _) (x : _) → Only (λ r. of_capture.Post κs a r x)
of_capture_sole κs a x = named _
