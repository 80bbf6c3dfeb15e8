-- `text::hex::hex_digit` meets its contract. Assumes nothing.
use mathlib.Core.Path.{sym}
use borrow.Author.Tests.{lt-ltb, le-ltb}
use Rattle.laws.proofs.Picked.{on_true, on_false}
use Rattle.text.specs.Hex.{hex_digit}
use Rattle.text.proofs.hex.hex_digit.Goals as goal

pub returns-then-value-lt10 : goal.returns-then-value-lt10
unfolding hex_digit
returns-then-value-lt10 c = sym (on_true (lt-ltb _ _ c.if-value-lt10.true) _ _)

pub returns-else-value-lt10 : goal.returns-else-value-lt10
unfolding hex_digit
returns-else-value-lt10 c = sym (on_false (le-ltb _ _ c.if-value-lt10.false) _ _)
