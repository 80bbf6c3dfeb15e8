-- `text::hex::put_hex_digits` meets its contract. Assumes nothing.
use native.Mathlib.Omega.{arith}
use Rattle.text.proofs.WritingLaws.{room_tests}
use Rattle.text.proofs.Digits.{stored_on, stored_end}
use Rattle.text.proofs.HexLaws.{last_hexes, length_hex_digits}
use Rattle.text.proofs.hex.put_hex_digits.Goals as goal

pub loop-i-preserved : goal.loop-i-preserved
loop-i-preserved c =
    let at = c.loop-i in
    record { room = at.invariant.room; left = stored_on last_hexes at.out _ _ at.i at.rest c.loop-i-test.true c.hex_digit.ensures at.invariant.left }

pub returns-clause-out_after : goal.returns-clause-out_after
returns-clause-out_after c =
    let at = c.loop-i in
    let end = stored_end last_hexes at.out _ c.args.at at.i at.rest c.loop-i-test.false at.invariant.left in
    grind (arith, length_hex_digits, room_tests)
