-- `book::BookReader::take_in` meets its contract. Assumes nothing.
use native.Mathlib.Omega.{arith}
use mathlib.Core.Path.{sym, ◌∙◌}
use Rattle.book.proofs.Feeding.{starts, place_on, line_read, line_passed, chunk_ends, is_fed}
use Rattle.book.proofs.Finishing.{not_full, full}
use Rattle.book.proofs.BookReader.take_in.Goals as goal
use Rattle.book.proofs.BookReader.take_in.Goals.{then-is_full, else-is_full}

pub loop-from-init : goal.loop-from-init
loop-from-init c = starts _ _ _

pub end_line-ended-requires : goal.end_line-ended-requires
end_line-ended-requires c =
    record { lines_lt_lines_max = not_full _ (sym c.is_full.ensures ∙ c.if-is_full.false); row_max_in_bounds = omega arith }

pub loop-from-smaller-then-taken : goal.loop-from-smaller-then-taken
loop-from-smaller-then-taken c =
    let took = c.take-taken.ensures in
    omega (arith, place_on c.loop-from.invariant c.loop-from-test.true took.value took.lines_after)

pub loop-from-preserved-then-taken : goal.loop-from-preserved-then-taken
loop-from-preserved-then-taken c =
    let took = c.take-taken.ensures in
    let at = c.loop-from in
    elim c.if-is_full.branch [
      | then-is_full w ↦
          rw (w.self-is, w.out-is, w.at-is)
          (line_passed at.invariant c.loop-from-test.true took.value took.lines_after c.if-taken.true (full _ (sym c.is_full.ensures ∙ w.if-is_full.true)))
      | else-is_full w ↦
          rw (w.self-is, w.out-is, w.at-is)
          (line_read at.invariant c.loop-from-test.true took.value took.lines_after c.if-taken.true
          (not_full _ (sym c.is_full.ensures ∙ w.if-is_full.false)) (rw w.line.ensures at w.end_line-ended.ensures))
    ]

pub loop-from-smaller : goal.loop-from-smaller
loop-from-smaller c =
    let took = c.take-taken.ensures in
    omega (arith, place_on c.loop-from.invariant c.loop-from-test.true took.value took.lines_after)

pub loop-from-preserved : goal.loop-from-preserved
loop-from-preserved c =
    let took = c.take-taken.ensures in
    chunk_ends c.loop-from.invariant c.loop-from-test.true took.value took.lines_after c.if-taken.false

pub returns : goal.returns
returns c =
    let all = is_fed c.loop-from.invariant c.loop-from-test.false c.requires in
    record { value = all.0; out_after = all.1.0; said_in_bounds = all.1.1 }
