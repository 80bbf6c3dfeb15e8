-- Any two results that meet a public promise of this crate are equal, the buffer that was lent included. `Post` is the promise itself, as
-- the check reads it from the source. Assumes nothing.
use mathlib.Core.Path.{◌≡◌}
use Rattle.laws.proofs.Only.{Only, alike, named, both_named}
use Rattle.text.proofs.fields.find.Reads as find
use Rattle.text.proofs.fields.first.Reads as first
use Rattle.text.proofs.fields.count.Reads as count
use Rattle.text.proofs.fields.field.Reads as field
use Rattle.text.proofs.words.is.Reads as is_word
use Rattle.text.proofs.words.place.Reads as place
use Rattle.text.proofs.decimals.read_number.Reads as read_number
use Rattle.text.proofs.decimals.read_byte.Reads as read_byte
use Rattle.text.proofs.signed.read_signed.Reads as read_signed
use Rattle.text.proofs.hex.read_hex.Reads as read_hex
use Rattle.text.proofs.hex.read_hex_number.Reads as read_hex_number
use Rattle.text.proofs.writing.has_room.Reads as has_room
use Rattle.text.proofs.writing.put_byte.Reads as put_byte
use Rattle.text.proofs.writing.put_text.Reads as put_text
use Rattle.text.proofs.decimals.put_decimal.Reads as put_decimal
use Rattle.text.proofs.signed.put_signed.Reads as put_signed
use Rattle.text.proofs.hex.put_hex.Reads as put_hex
use Rattle.text.proofs.hex.put_hex_digits.Reads as put_hex_digits

-- ---- the fields
pub find_sole : (κs : _) (a : _) (x : _) → Only (λ r. find.Post κs a r x)
find_sole κs a x = named _

pub first_sole : (κs : _) (a : _) (r s : _) (x y : _) → first.Post κs a r x → first.Post κs a s y → r.now ≡ s.now
first_sole κs a r s x y = alike

pub count_sole : (κs : _) (a : _) (x : _) → Only (λ r. count.Post κs a r x)
count_sole κs a x = named _

pub field_sole : (κs : _) (a : _) (r s : _) (x y : _) → field.Post κs a r x → field.Post κs a s y → r.now ≡ s.now
field_sole κs a r s x y = alike

-- ---- the words
pub is_sole : (κs : _) (a : _) (x : _) → Only (λ r. is_word.Post κs a r x)
is_sole κs a x = named _

pub place_sole : (κs : _) (a : _) (x : _) → Only (λ r. place.Post κs a r x)
place_sole κs a x = named _

-- ---- the readers
pub read_number_sole : (κs : _) (a : _) (x : _) → Only (λ r. read_number.Post κs a r x)
read_number_sole κs a x = named _

pub read_byte_sole : (κs : _) (a : _) (x : _) → Only (λ r. read_byte.Post κs a r x)
read_byte_sole κs a x = named _

pub read_signed_sole : (κs : _) (a : _) (x : _) → Only (λ r. read_signed.Post κs a r x)
read_signed_sole κs a x = named _

pub read_hex_sole : (κs : _) (a : _) (r s : _) (x y : _) → read_hex.Post κs a r x → read_hex.Post κs a s y → (r ≡ s) × (x.1.0.now ≡ y.1.0.now)
read_hex_sole κs a r s x y = both_named

pub read_hex_number_sole : (κs : _) (a : _) (x : _) → Only (λ r. read_hex_number.Post κs a r x)
read_hex_number_sole κs a x = named _

-- ---- the writers
pub has_room_sole : (κs : _) (a : _) (x : _) → Only (λ r. has_room.Post κs a r x)
has_room_sole κs a x = named _

pub put_byte_sole : (κs : _) (a : _) (r s : _) (x y : _) → put_byte.Post κs a r x → put_byte.Post κs a s y → (r ≡ s) × (x.0.now ≡ y.0.now)
put_byte_sole κs a r s x y = both_named

pub put_text_sole : (κs : _) (a : _) (r s : _) (x y : _) → put_text.Post κs a r x → put_text.Post κs a s y → (r ≡ s) × (x.0.now ≡ y.0.now)
put_text_sole κs a r s x y = both_named

pub put_decimal_sole : (κs : _) (a : _) (r s : _) (x y : _) → put_decimal.Post κs a r x → put_decimal.Post κs a s y → (r ≡ s) × (x.0.now ≡ y.0.now)
put_decimal_sole κs a r s x y = both_named

pub put_signed_sole : (κs : _) (a : _) (r s : _) (x y : _) → put_signed.Post κs a r x → put_signed.Post κs a s y → (r ≡ s) × (x.0.now ≡ y.0.now)
put_signed_sole κs a r s x y = both_named

pub put_hex_sole : (κs : _) (a : _) (r s : _) (x y : _) → put_hex.Post κs a r x → put_hex.Post κs a s y → (r ≡ s) × (x.0.now ≡ y.0.now)
put_hex_sole κs a r s x y = both_named

pub put_hex_digits_sole : (κs : _) (a : _) (r s : _) (x y : _) → put_hex_digits.Post κs a r x → put_hex_digits.Post κs a s y → (r ≡ s) × (x.0.now ≡ y.0.now)
put_hex_digits_sole κs a r s x y = both_named
