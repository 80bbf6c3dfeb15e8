-- `bench_answers::put_bad` meets its contract. Assumes nothing.
use native.Mathlib.Omega.{arith}
use Rattle.text.specs.Letters.{word}
use Rattle.bench_answers.proofs.Lines.{put, then, line, bad_parts, bad_short}
use Rattle.bench_answers.proofs.put_bad.Goals as goal

pub returns : goal.returns
returns c =
    let a = c.args in
    let told = c.put_text-at.ensures in
    let parts = then c.put_field-at.ensures (then (put (word "BAD\t") (told.value, told.out_after)) c.put_field.ensures) in
    let l = line _ _ _ _ c.has_room.ensures c.if-not-has_room.false (bad_short a.number a.refusal (omega arith))
    (rw (bad_parts a.number a.refusal, ← c.refusal_number.ensures) parts)
    in record { value = l.0; out_after = l.1.0; upper_bound = l.1.1 }
