-- Any two results that meet a public promise of this crate are equal, the buffer that was lent included. `Post` is the promise itself, as
-- the check reads it from the source. Assumes nothing.
use mathlib.Core.Path.{◌≡◌}
use Rattle.laws.proofs.Only.{both_named_and}
use Rattle.bench_answers.proofs.put_bad.Reads as put_bad
use Rattle.bench_answers.proofs.put_end.Reads as put_end
use Rattle.bench_answers.proofs.put_row.Reads as put_row

pub put_row_sole : (κs : _) (a : _) (r s : _) (x y : _) → put_row.Post κs a r x → put_row.Post κs a s y → (r ≡ s) × (x.0.now ≡ y.0.now)
put_row_sole κs a r s x y = both_named_and

pub put_bad_sole : (κs : _) (a : _) (r s : _) (x y : _) → put_bad.Post κs a r x → put_bad.Post κs a s y → (r ≡ s) × (x.0.now ≡ y.0.now)
put_bad_sole κs a r s x y = both_named_and

pub put_end_sole : (κs : _) (a : _) (r s : _) (x y : _) → put_end.Post κs a r x → put_end.Post κs a s y → (r ≡ s) × (x.0.now ≡ y.0.now)
put_end_sole κs a r s x y = both_named_and
