-- `text::fields::find` meets its contract. Assumes nothing.
use Rattle.std.proofs.Common.{eqb, drop, take, length, ◌-◌, arith, rules, tests}
use Rattle.std.proofs.lemmas.Iterator.{YieldsList-from_slice}
use Rattle.std.proofs.lemmas.Iterator.Search.{position_from_yields_List}
use Rattle.text.proofs.FieldLaws.{first_mark}
use Rattle.text.proofs.fields.find.Goals as goal

pub returns : goal.returns
returns c =
    let a = c.args in
    let left = take (length a.text.now - c.min.result) (drop c.min.result a.text.now) in
    let first = position_from_yields_List (λ byte. eqb byte a.mark) _ _ c.position-bytes.result c.position-bytes.ensures.ran (YieldsList-from_slice left c.iter.ensures.rest) (λ x b q k. search (rules, tests)) in
    omega (arith, first_mark a.mark a.text.now a.from c.min.result c.min.ensures first c.unwrap_or.ensures)
