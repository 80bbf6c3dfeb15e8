-- `text::writing::put_text` meets its contract. Assumes nothing.
use native.Mathlib.Omega.{arith}
use Rattle.text.proofs.WritingLaws.{enough, copied, room_tests}
use Rattle.text.proofs.writing.put_text.Goals as goal

pub returns-clause-out_after : goal.returns-clause-out_after
returns-clause-out_after c =
    let a = c.args in
    let room = enough _ a.at a.out.now c.has_room.ensures c.if-not-has_room.false in
    let after = copied a.out.now a.text.now a.at room c.copy_from_slice.ensures.after in
    grind (arith, room_tests)
