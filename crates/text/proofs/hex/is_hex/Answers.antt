-- `text::hex::is_hex` meets its contract. Assumes nothing.
use mathlib.Core.Path.{◌∙◌}
use native.Mathlib.Omega.{arith}
use Rattle.text.proofs.HexLaws.{other_length, right_length}
use Rattle.text.proofs.hex.is_hex.Goals as goal
use Rattle.text.proofs.hex.is_hex.Goals.{then-field-ne0-via-then-field-ne0, then-field-ne0-via-else-field-ne0+then-field-count}

pub returns-then-field-ne0 : goal.returns-then-field-ne0
returns-then-field-ne0 c =
    elim c.then-field-ne0.branch [
      | then-field-ne0-via-then-field-ne0 w ↦ other_length _ _ (λ e. omega arith)
      | then-field-ne0-via-else-field-ne0+then-field-count w ↦ other_length _ _ (λ e. omega arith)
    ]

pub returns : goal.returns
returns c = c.all_hex.ensures ∙ right_length _ _ (omega arith)
