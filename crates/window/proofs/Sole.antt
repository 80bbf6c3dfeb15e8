-- Any two results that meet a public promise of this crate are equal. `Post` is the promise itself, as the check reads it from the source.
-- Assumes nothing.
use Rattle.laws.proofs.Only.{Only, named}
use Rattle.window.proofs.SampleWindow.of_capture.Reads as of_capture
use Rattle.window.proofs.SampleWindow.decode_phase.Reads as decode_phase
use Rattle.window.proofs.samples_kept.Reads as samples_kept

pub of_capture_sole : (κs : _) (a : _) (x : _) → Only (λ r. of_capture.Post κs a r x)
of_capture_sole κs a x = named _

pub decode_phase_sole : (κs : _) (a : _) (x : _) → Only (λ r. decode_phase.Post κs a r x)
decode_phase_sole κs a x = named _

pub samples_kept_sole : (κs : _) (a : _) (x : _) → Only (λ r. samples_kept.Post κs a r x)
samples_kept_sole κs a x = named _
