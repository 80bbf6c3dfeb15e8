-- `bench_answers::put_field` meets its contract. Assumes nothing.
use mathlib.Core.List.{[], ◌∷◌}
use Rattle.text.specs.Decimals.{decimal_of}
use Rattle.bench_answers.specs.Code.{field_text}
use Rattle.bench_answers.proofs.Lines.{put, then}
use Rattle.bench_answers.proofs.put_field.Goals as goal

pub returns : goal.returns
unfolding field_text
returns c =
    let digits = c.put_decimal-at.ensures in
    let mark = c.put_byte.ensures in
    then (put (decimal_of c.args.number) (digits.value, digits.out_after)) (put (c.args.mark ∷ []) (mark.value, mark.out_after))
