-- `text::hex::put_hex` meets its contract. Assumes nothing.
use mathlib.Core.Path.{refl}
use native.Mathlib.Omega.{arith}
use Rattle.text.proofs.WritingLaws.{enough, room_tests}
use Rattle.text.proofs.HexLaws.{length_hexes, hexes_on, hexes_end}
use Rattle.text.proofs.hex.put_hex.Goals as goal

pub loop-byte-init : goal.loop-byte-init
loop-byte-init c =
    let room = enough _ c.args.at c.args.out.now c.has_room.ensures c.if-not-has_room.false in
    record { room = room; place = omega arith; left = refl }

pub loop-byte-preserved : goal.loop-byte-preserved
loop-byte-preserved c =
    let at = c.loop-byte in
    record {
      room = at.invariant.room;
      place = omega arith;
      left = hexes_on _ _ _ _ at.byte-index c.loop-byte-test.true c.hex_digit.ensures c.hex_digit-in-loop-byte.ensures at.invariant.left;
    }

pub returns-clause-out_after : goal.returns-clause-out_after
returns-clause-out_after c =
    let at = c.loop-byte in
    let end = hexes_end _ _ _ _ at.byte-index c.loop-byte-test.false at.invariant.left in
    grind (arith, length_hexes, room_tests)
