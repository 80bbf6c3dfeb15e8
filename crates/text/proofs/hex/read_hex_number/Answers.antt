-- `text::hex::read_hex_number` meets its contract. Assumes nothing.
use native.Mathlib.Omega.{arith}
use mathlib.Core.Path.{sym, ◌∙◌}
use Rattle.text.proofs.Digits.{value_on, value_end}
use Rattle.text.proofs.HexLaws.{hexes, no_hex_read, hex_read, hex_on, hex_end, hex_wide, hex_other, hex_odd, hex_number, hexes_below, fifteen}
use Rattle.text.proofs.hex.read_hex_number.Goals as goal
use Rattle.text.proofs.hex.read_hex_number.Goals.{then-width-gt16-via-then-width-gt16, then-width-gt16-via-else-width-gt16+then-field-width}

pub returns-then-width-gt16 : goal.returns-then-width-gt16
returns-then-width-gt16 c =
    elim c.then-width-gt16.branch [
      | then-width-gt16-via-then-width-gt16 w ↦ hex_wide _ _ w.if-width-gt16.true
      | then-width-gt16-via-else-width-gt16+then-field-width w ↦ hex_other _ _ w.if-field-width.true
    ]

pub overflow_mul-number : goal.overflow_mul-number
overflow_mul-number c =
    let h = fifteen c.loop-byte.byte-index c.loop-byte.number (omega arith) c.loop-byte.invariant.small in record { fits = omega arith }

pub returns-in_err-number : goal.returns-in_err-number
returns-in_err-number c =
    let at = c.loop-byte in
    let no_digit = no_hex_read _ c.digit_value.ensures c.in_err-number.was in
    c.from_residual.ensures ∙ hex_odd _ _ (sym at.invariant.hex ∙ hex_on _ at.byte-index c.loop-byte-test.true no_digit)

pub overflow_add-number : goal.overflow_add-number
overflow_add-number c =
    let h = fifteen c.loop-byte.byte-index c.loop-byte.number (omega arith) c.loop-byte.invariant.small in
    let digit = hex_read _ c.digit_value.ensures _ c.in_ok-number.was in
    record { fits = omega arith }

pub loop-byte-preserved : goal.loop-byte-preserved
loop-byte-preserved c =
    let at = c.loop-byte in
    let digit = hex_read _ c.digit_value.ensures _ c.in_ok-number.was in
    record {
      small = hexes_below at.byte-index at.number _ at.invariant.small (omega arith);
      value = rw digit.1 (sym (value_on hexes _ at.byte-index c.loop-byte-test.true at.number) ∙ at.invariant.value);
      hex = sym (hex_on _ at.byte-index c.loop-byte-test.true digit.0) ∙ at.invariant.hex;
    }

pub returns : goal.returns
returns c =
    let at = c.loop-byte in
    let field = c.args.field.now in
    hex_number _ field (omega arith) (omega arith) (sym at.invariant.hex ∙ hex_end field at.byte-index c.loop-byte-test.false) at.number
    (sym (value_end hexes field at.byte-index c.loop-byte-test.false at.number) ∙ at.invariant.value)
