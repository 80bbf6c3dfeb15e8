-- `text::signed::put_below_zero` meets its contract. Assumes nothing.
use mathlib.Core.List.{[], ◌∷◌}
use Prim.Native.Nat.{◌+◌, ◌≤◌}
use native.Mathlib.Omega.{arith}
use lib.ListN.{length}
use Rattle.text.specs.Letters.{minus}
use Rattle.text.specs.Decimals.{decimal_of}
use Rattle.text.specs.Code.{minus_and}
use Rattle.text.proofs.WritingLaws.{enough, written, stored, then}
use Rattle.text.proofs.DecimalDigits.{length_decimal}
use Rattle.text.proofs.signed.put_below_zero.Goals as goal

pub overflow_add-places : goal.overflow_add-places
overflow_add-places c = let h = length_decimal 10 9 c.args.digits (omega arith) in record { fits = omega (arith, h, c.places.ensures) }

pub returns : goal.returns
returns c =
    let a = c.args in
    let text = minus_and a.digits in
    let room = enough _ a.at a.out.now c.has_room.ensures c.if-not-has_room.false in
    let fits : a.at + length text ≤ length a.out.now = omega (arith, room, c.places.ensures) in
    let put = written (length text) text a.at a.out.now fits
    (then (minus ∷ []) (decimal_of a.digits) a.at a.out.now fits
    (stored 1 (minus ∷ []) a.at a.out.now (omega arith) (c.put_byte-next.ensures.value, c.put_byte-next.ensures.out_after))
    (c.put_decimal.ensures.value, c.put_decimal.ensures.out_after))
    in record { value = put.0; out_after = put.1 }
