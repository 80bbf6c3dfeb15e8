-- Any two results that meet a public promise of this crate are equal, the buffer that was lent included. `Post` is the promise itself, as
-- the check reads it from the source. Assumes nothing.
use mathlib.Core.Path.{◌≡◌}
use Rattle.laws.proofs.Only.{Only, named, both_named_and}
use Rattle.book.proofs.BookReader.new.Reads as new_reader
use Rattle.book.proofs.BookReader.is_full.Reads as is_full
use Rattle.book.proofs.BookReader.is_over.Reads as is_over
use Rattle.book.proofs.BookReader.feed.Reads as feed
use Rattle.book.proofs.BookReader.finish.Reads as finish

pub new_reader_sole : (κs : _) (a : _) (x : _) → Only (λ r. new_reader.Post κs a r x)
new_reader_sole κs a x = named _

pub is_full_sole : (κs : _) (a : _) (x : _) → Only (λ r. is_full.Post κs a r x)
is_full_sole κs a x = named _

pub is_over_sole : (κs : _) (a : _) (x : _) → Only (λ r. is_over.Post κs a r x)
is_over_sole κs a x = named _

pub feed_sole : (κs : _) (a : _) (r s : _) (x y : _) → feed.Post κs a r x → feed.Post κs a s y → (r ≡ s) × (x.1.1.0.now ≡ y.1.1.0.now)
feed_sole κs a r s x y = both_named_and

pub finish_sole : (κs : _) (a : _) (r s : _) (x y : _) → finish.Post κs a r x → finish.Post κs a s y → (r ≡ s) × (x.1.0.now ≡ y.1.0.now)
finish_sole κs a r s x y = both_named_and
