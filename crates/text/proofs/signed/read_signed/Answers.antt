-- `text::signed::read_signed` meets its contract. Assumes nothing.
use native.Mathlib.Omega.{arith}
use mathlib.Core.Path.{◌∙◌}
use Rattle.text.proofs.SignedLaws.{signed_minus, signed_bad, signed-≤, signed_good}
use Rattle.text.proofs.signed.read_signed.Goals as goal

pub returns-in-Some : goal.returns-in-Some
returns-in-Some c = let prefix = c.in-Some.ensures.cases in signed_minus _ prefix.0 prefix.1 c.negative.ensures

pub returns-in_err-read_byte-in-None : goal.returns-in_err-read_byte-in-None
returns-in_err-read_byte-in-None c =
    c.from_residual.ensures ∙ signed_bad _ c.in-None.ensures.cases c.read_byte.ensures c.in_err-read_byte-in-None.was

pub overflow_cast-result : goal.overflow_cast-result
overflow_cast-result c =
    let h = signed-≤ _ c.in-None.ensures.cases c.read_byte.ensures _ c.in_ok-read_byte-in-None.was in record { sfits = omega arith }

pub returns-in_ok-read_byte-in-None : goal.returns-in_ok-read_byte-in-None
returns-in_ok-read_byte-in-None c = signed_good _ c.in-None.ensures.cases c.read_byte.ensures _ c.in_ok-read_byte-in-None.was
