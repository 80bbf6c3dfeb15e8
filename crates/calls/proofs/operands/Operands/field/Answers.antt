-- `calls::operands::Operands::field` is safe: a field ends within its line. Assumes nothing.
use native.Mathlib.Omega.{arith}
use borrow.Author.Rules.{rules}
use Rattle.text.proofs.FieldLaws.{found-≤}
use Rattle.calls.proofs.operands.Operands.field.Goals as goal

pub slice_bounds-field-end : goal.slice_bounds-field-end
slice_bounds-field-end c = let h = found-≤ _ _ _ _ c.find-end.ensures (omega arith) in search rules
