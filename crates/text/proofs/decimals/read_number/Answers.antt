-- `text::decimals::read_number` meets its contract. Assumes nothing.
use Prim.Native.Nat.{◌+◌, ◌*◌, ◌-◌}
use native.Mathlib.Omega.{arith}
use mathlib.Core.Path.{sym, ◌∙◌}
use lib.ListN.{get_or, drop}
use Rattle.text.proofs.Digits.{value_on, value_end}
use Rattle.text.proofs.DecimalLaws.{decimals, no_digit_read, digit_read, value-≥, digits_on, digits_end, not_digits, not_begun, well_begun, number_odd, number_high, number_good}
use Rattle.text.proofs.decimals.read_number.Goals as goal

pub returns-then-not-well_begun : goal.returns-then-not-well_begun
returns-then-not-well_begun c = number_odd _ _ (not_begun _ _ c.well_begun.ensures c.if-not-well_begun.true)

pub returns-in_err-number : goal.returns-in_err-number
returns-in_err-number c =
    let at = c.loop-byte in
    let no_digit = no_digit_read _ c.digit_value.ensures c.in_err-number.was in
    c.from_residual.ensures ∙ number_odd _ _ (not_digits _ (sym at.invariant.digits ∙ digits_on _ at.byte-index c.loop-byte-test.true no_digit))

pub returns-then-number-most : goal.returns-then-number-most
returns-then-number-most c =
    let field = c.args.field.now in
    let at = c.loop-byte in
    let digit = digit_read _ c.digit_value.ensures _ c.in_ok-number.was in
    let grown = value-≥ (at.number * 10 + (get_or field at.byte-index 0 - 48)) (drop (at.byte-index + 1) field) in
    number_high _ _ (omega (arith, value_on decimals field at.byte-index c.loop-byte-test.true at.number, at.invariant.value, grown, digit, c.if-number-most.true))

pub loop-byte-preserved : goal.loop-byte-preserved
loop-byte-preserved c =
    let at = c.loop-byte in
    let digit = digit_read _ c.digit_value.ensures _ c.in_ok-number.was in
    record {
      within = omega arith;
      value = rw digit.1 (sym (value_on decimals _ at.byte-index c.loop-byte-test.true at.number) ∙ at.invariant.value);
      digits = sym (digits_on _ at.byte-index c.loop-byte-test.true digit.0) ∙ at.invariant.digits;
    }

pub returns : goal.returns
returns c =
    let at = c.loop-byte in
    let begun = c.well_begun in
    let decimal = well_begun _ begun.result begun.ensures c.if-not-well_begun.false ∙ sym at.invariant.digits ∙ digits_end _ at.byte-index c.loop-byte-test.false in
    number_good _ _ decimal _ (sym (value_end decimals _ at.byte-index c.loop-byte-test.false _) ∙ at.invariant.value) at.invariant.within
