-- `bench_answers::put_row` meets its contract. Assumes nothing.
use native.Mathlib.Omega.{arith}
use mir.Syntax.{w8}
use mir.ValLaws.{to_z-of_z}
use Rattle.text.specs.Letters.{word}
use Rattle.text.specs.Signed.{signed_of}
use Rattle.bench_answers.proofs.Lines.{put, then, line, row_parts, row_short, phase_fits}
use Rattle.bench_answers.proofs.put_row.Goals as goal

pub returns : goal.returns
returns c =
    let a = c.args in
    let held = c.well_formed.1.1.1.1.0 in
    let phase = a.reading.decode.phase_ticks in
    let sign = c.put_signed-at.ensures in
    let fits = to_z-of_z w8 phase (phase_fits a.reading _ held) in
    let signed_at = rw fits at sign.value in
    let signed_out = rw fits at sign.out_after in
    let short = row_short a.reading _ held a.number a.capture (omega arith) (omega (arith, c.well_formed.1.1.1.0)) in
    let tail = then c.put_field-at-2.ensures (then c.put_field-at-3.ensures c.put_field.ensures) in
    let behind_phase = then (put (word "\t") (c.put_byte-at-2.ensures.value, c.put_byte-at-2.ensures.out_after)) tail in
    let middle = then (put (word "\t") (c.put_byte-at.ensures.value, c.put_byte-at.ensures.out_after)) (then (put (signed_of phase) (signed_at, signed_out)) behind_phase) in
    let l = line _ _ _ _ c.has_room.ensures c.if-not-has_room.false short
    (rw (row_parts a.number a.capture a.reading) (then c.put_field-at.ensures (then c.put_frame-at.ensures middle)))
    in record { value = l.0; out_after = l.1.0; upper_bound = l.1.1 }
