-- `text::words::place` meets its contract. Assumes nothing.
use native.Mathlib.Omega.{arith}
use Rattle.text.proofs.FieldLaws.{found-≤}
use Rattle.text.proofs.WordLaws.{place_here, place_on, place_end}
use borrow.Author.Rules.{rules}
use Rattle.text.proofs.words.place.Goals as goal

pub slice_bounds-is-end : goal.slice_bounds-is-end
slice_bounds-is-end c = let h = found-≤ _ _ _ _ c.find-end.ensures (omega arith) in search rules

pub returns-then-is : goal.returns-then-is
returns-then-is c =
    let found = c.before.before.before in
    omega (arith, place_here _ _ _ _ found.loop-from-test.true found.find-end.ensures c.is.ensures c.if-is.true)

pub overflow_add-from : goal.overflow_add-from
overflow_add-from c = let h = found-≤ _ _ _ _ c.find-end.ensures (omega arith) in search rules

pub loop-from-preserved : goal.loop-from-preserved
loop-from-preserved c =
    let found = c.before.before.before in
    let h = found-≤ _ _ _ _ found.find-end.ensures (omega arith) in
    let on = place_on _ _ _ _ found.loop-from-test.true found.find-end.ensures c.is.ensures c.if-is.false in
    (omega arith, omega arith, omega arith)

pub returns : goal.returns
returns c =
    let turn = c.before in
    let a = turn.args in
    omega (arith, place_end a.field.now a.words.now turn.loop-from.from c.loop-from-test.false)
