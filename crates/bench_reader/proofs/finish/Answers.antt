-- `bench_reader::finish` meets its contract. Assumes nothing.
use Rattle.std.proofs.Common.{◌≡◌, true, false, sym, ◌∙◌, arith}
use Rattle.bench_reader.proofs.Moves.{said_last}
use Rattle.bench_reader.proofs.finish.Goals as goal

pub shared_ref_as_front-write_text : goal.shared_ref_as_front-write_text
shared_ref_as_front-write_text c = omega (arith, c.finish.ensures.result_in_bounds, c.unwrap_or-end.ensures)

pub returns-then-not-done : goal.returns-then-not-done
returns-then-not-done c =
    let said = c.finish.ensures in
    said_last _ _ (omega arith) said.value said.out_after said.result_in_bounds c.unwrap_or-end.ensures c.write_text-done.ensures
    (λ _. c.say_not_written.ensures)

pub returns-else-not-done : goal.returns-else-not-done
returns-else-not-done c =
    let said = c.finish.ensures in
    said_last _ _ (omega arith) said.value said.out_after said.result_in_bounds c.unwrap_or-end.ensures c.write_text-done.ensures
    (λ no. let clash : true ≡ false = sym c.if-not-done.false ∙ no in cc)
