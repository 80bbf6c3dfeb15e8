-- Any two results that meet a public promise of this crate are equal. `Post` is the promise itself, as the check reads it from the source.
-- Assumes nothing.
use Rattle.laws.proofs.Only.{Only, named}
use Rattle.capture.proofs.Samples.new.Reads as new
use Rattle.capture.proofs.Samples.with_byte.Reads as with_byte
use Rattle.capture.proofs.Samples.byte_at.Reads as byte_at
use Rattle.capture.proofs.Samples.bytes.Reads as bytes

pub new_sole : (κs : _) (a : _) (x : _) → Only (λ r. new.Post κs a r x)
new_sole κs a x = named _

pub with_byte_sole : (κs : _) (a : _) (x : _) → Only (λ r. with_byte.Post κs a r x)
with_byte_sole κs a x = named _

pub byte_at_sole : (κs : _) (a : _) (x : _) → Only (λ r. byte_at.Post κs a r x)
byte_at_sole κs a x = named _

pub bytes_sole : (κs : _) (a : _) (x : _) → Only (λ r. bytes.Post κs a r x)
bytes_sole κs a x = named _
