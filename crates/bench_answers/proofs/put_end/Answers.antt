-- `bench_answers::put_end` meets its contract. Assumes nothing.
use native.Mathlib.Omega.{arith}
use Rattle.text.specs.Letters.{word}
use Rattle.bench_answers.proofs.Lines.{put, then, line, end_parts, end_short}
use Rattle.bench_answers.proofs.put_end.Goals as goal

pub returns : goal.returns
returns c =
    let counts = c.args.counts in
    let told = c.put_text-at.ensures in
    let numbers = then c.put_field-at.ensures (then c.put_field-at-2.ensures c.put_field.ensures) in
    let parts = then (put (word "END\t") (told.value, told.out_after)) numbers in
    let l = line _ _ _ _ c.has_room.ensures c.if-not-has_room.false
    (end_short counts (omega arith) (omega arith) (omega arith)) (rw (end_parts counts) parts)
    in record { value = l.0; out_after = l.1.0; upper_bound = l.1.1 }
