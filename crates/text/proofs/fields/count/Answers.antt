-- `text::fields::count` meets its contract. Assumes nothing.
use Rattle.std.proofs.Common.{◌∙◌, ◌+◌, ap, eqb, count_by}
use Rattle.std.proofs.lemmas.List.{take_all}
use Rattle.text.proofs.FieldLaws.{count_marks}
use Rattle.text.proofs.fields.count.Goals as goal

pub returns : goal.returns
returns c =
    let a = c.args in
    let all = take_all c.loop-byte.byte-index a.text.now c.loop-byte-test.false in
    c.loop-byte.invariant ∙ ap (λ text. count_by (λ byte. eqb byte a.mark) text + 1) all ∙ count_marks a.mark a.text.now
