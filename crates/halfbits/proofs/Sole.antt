-- Any two results that meet a public promise of this crate are equal. `Post` is the promise itself, as the check reads it from the source.
-- Assumes nothing.
use mathlib.Core.Path.{◌≡◌}
use Rattle.laws.proofs.Only.{Only, alike, named_and}
use Rattle.halfbits.proofs.HalfBitBuffer.encode.Reads as encode
use Rattle.halfbits.proofs.encode_into.Reads as encode_into

pub encode_sole : (κs : _) (a : _) (x : _) → Only (λ r. encode.Post κs a r x)
encode_sole κs a x = named_and _ _

-- the answer, and every byte of the buffer that was lent
pub encode_into_sole : (κs : _) (a : _) (r s : _) (x y : _) → encode_into.Post κs a r x → encode_into.Post κs a s y → (r ≡ s) × (x.1.1.1.1.0.now ≡ y.1.1.1.1.0.now)
encode_into_sole κs a r s x y p q = (alike p.0 q.0, alike p.1.1 q.1.1)
