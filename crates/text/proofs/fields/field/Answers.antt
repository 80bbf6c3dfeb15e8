-- `text::fields::field` meets its contract. Assumes nothing.
use Rattle.std.proofs.Common.{eqb, refl, rules, tests}
use Rattle.std.proofs.lemmas.Iterator.Consumers.{nth_from_yields_List}
use Rattle.std.proofs.lemmas.Iterator.Splits.{YieldsList-from_slice_split}
use Rattle.text.proofs.FieldLaws.{nth_field}
use Rattle.text.proofs.fields.field.Goals as goal

pub returns : goal.returns
returns c =
    let a = c.args in
    let split = c.split.ensures in
    let there =
    nth_from_yields_List c.nth.result _ a.n c.nth.ensures.ran
    (YieldsList-from_slice_split _ (λ byte. eqb byte a.mark) a.text.now split.rest split.done split.closure (λ x b q k. search (rules, tests))) in
    nth_field a.mark a.n a.text.now (λ field. field.now) c.nth.result there c.unwrap_or.ensures refl
