-- `bench_reader::take_in` meets its contract. Assumes nothing.
use Rattle.std.proofs.Common.{arith, sym, ◌∙◌}
use Rattle.stdio.specs.Marks.{Within}
use Rattle.bench_reader.proofs.Moves.{goes_on, is_over_lem, breaks_off}
use Rattle.bench_reader.proofs.take_in.Goals as goal
use Rattle.bench_reader.proofs.take_in.Goals.{then-not-written, else-not-written+then-is_over, else-not-written+else-is_over}

pub shared_ref_as_front-feed : goal.shared_ref_as_front-feed
unfolding Within
shared_ref_as_front-feed c = omega (arith, c.requires.within.1)

pub shared_ref_as_front-write_text : goal.shared_ref_as_front-write_text
shared_ref_as_front-write_text c = omega (arith, c.feed-fed.ensures.said_in_bounds, c.unwrap_or-end.ensures)

pub returns-clause-ran_on : goal.returns-clause-ran_on
returns-clause-ran_on c =
    let fed = c.feed-fed.ensures in
    elim c.if-not-written.branch [
      | then-not-written w ↦
          rw w.next-is
          (breaks_off _ _ c.requires.ran c.requires.came _ (omega arith) fed.value fed.out_after fed.said_in_bounds c.unwrap_or-end.ensures
          c.write_text-written.ensures w.if-not-written.true w.say_not_written.ensures)
      | else-not-written+then-is_over w ↦
          rw w.next-is
          (is_over_lem _ _ c.requires.ran c.requires.came _ (omega arith) fed.value fed.out_after fed.said_in_bounds c.unwrap_or-end.ensures
          c.write_text-written.ensures w.if-not-written.false (sym w.is_over.ensures ∙ w.if-is_over.true))
      | else-not-written+else-is_over w ↦
          rw w.next-is
          (goes_on _ _ c.requires.ran c.requires.came _ (omega arith) fed.value fed.out_after fed.said_in_bounds c.unwrap_or-end.ensures
          c.write_text-written.ensures w.if-not-written.false (sym w.is_over.ensures ∙ w.if-is_over.false))
    ]
