-- Any two results that meet a public promise of this crate are equal. `Post` is the promise itself, as the check reads it from the source.
-- Assumes nothing.
use Rattle.laws.proofs.Only.{Only, named, named_and}
use Rattle.bench_text.proofs.refusal_number.Reads as refusal_number
use Rattle.bench_text.proofs.parse_line.Reads as parse_line

pub refusal_number_sole : (κs : _) (a : _) (x : _) → Only (λ r. refusal_number.Post κs a r x)
refusal_number_sole κs a x = named _

pub parse_line_sole : (κs : _) (a : _) (x : _) → Only (λ r. parse_line.Post κs a r x)
parse_line_sole κs a x = named_and _ _
