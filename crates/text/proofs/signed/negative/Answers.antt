-- `text::signed::negative` meets its contract. Assumes nothing.
use mathlib.Core.Path.{◌∙◌}
use Rattle.text.proofs.SignedLaws.{minus_bad, minus_zero, minus-≤, minus_good}
use Rattle.text.proofs.signed.negative.Goals as goal

pub returns-in_err-number : goal.returns-in_err-number
returns-in_err-number c = c.from_residual.ensures ∙ minus_bad _ c.read_byte.ensures c.in_err-number.was

pub returns-then-number-eq0 : goal.returns-then-number-eq0
returns-then-number-eq0 c = minus_zero _ c.read_byte.ensures _ c.in_ok-number.was c.if-number-eq0.true

pub minus-requires : goal.minus-requires
minus-requires c = minus-≤ _ c.read_byte.ensures _ c.in_ok-number.was

pub returns : goal.returns
returns c = minus_good _ c.read_byte.ensures _ c.in_ok-number.was c.if-number-eq0.false c.minus.ensures
