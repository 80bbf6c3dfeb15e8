-- `text::decimals::put_digits` meets its contract. Assumes nothing.
use mathlib.Core.Path.{refl}
use native.Mathlib.Omega.{arith}
use Rattle.text.proofs.WritingLaws.{room_tests}
use Rattle.text.proofs.Digits.{stored_on, stored_end}
use Rattle.text.proofs.DecimalDigits.{last_digits, length_digits}
use Rattle.text.proofs.decimals.put_digits.Goals as goal

pub loop-i-preserved : goal.loop-i-preserved
loop-i-preserved c =
    let at = c.loop-i in
    record { room = at.invariant.room; left = stored_on last_digits at.out _ _ at.i at.rest c.loop-i-test.true refl at.invariant.left }

pub returns : goal.returns
returns c =
    let at = c.loop-i in
    let end = stored_end last_digits at.out _ c.args.at at.i at.rest c.loop-i-test.false at.invariant.left in
    record { past = grind (arith, length_digits, room_tests); left = grind (arith, length_digits, room_tests) }
