-- Any two results that meet a public promise of this crate are equal. `Post` is the promise itself, as the check reads it from the source.
-- Assumes nothing.
use Rattle.laws.proofs.Only.{Only, named}
use Rattle.bench_reading.proofs.read_capture.Reads as read_capture
use Rattle.bench_reading.proofs.is_decoded.Reads as is_decoded

pub read_capture_sole : (κs : _) (a : _) (x : _) → Only (λ r. read_capture.Post κs a r x)
read_capture_sole κs a x = named _

pub is_decoded_sole : (κs : _) (a : _) (x : _) → Only (λ r. is_decoded.Post κs a r x)
is_decoded_sole κs a x = named _
