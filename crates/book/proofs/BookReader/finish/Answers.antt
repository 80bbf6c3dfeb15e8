-- `book::BookReader::finish` meets its contract. Assumes nothing.
use native.Mathlib.Omega.{arith}
use mathlib.Core.Path.{◌≡◌, sym, ◌∙◌}
use Rattle.bench_answers.specs.Answer.{end_text}
use Rattle.book.specs.Reader.{last_words}
use Rattle.book.proofs.Finishing.{not_full, too_short, full_words, none_words, when_none, when_some}
use Rattle.book.proofs.BookReader.finish.Goals as goal
use Rattle.book.proofs.BookReader.finish.Goals.{then-is_full-via-then-is_full, then-is_full-via-else-is_full+then-self-eq0}

pub returns-then-out-lt-FINISH_MAX : goal.returns-then-out-lt-FINISH_MAX
returns-then-out-lt-FINISH_MAX c =
    let short = too_short c.args.self c.args.out.now c.if-out-lt-FINISH_MAX.true in
    record { value = short.0; out_after = short.1; result_in_bounds = short.2 }

pub returns-then-is_full : goal.returns-then-is_full
returns-then-is_full c =
    let r = c.args.self in
    let put = c.put_end.ensures in
    let words : last_words r ≡ end_text r.counts =
    elim c.then-is_full.branch [
      | then-is_full-via-then-is_full w ↦ full_words r (sym c.is_full.ensures ∙ w.if-is_full.true)
      | then-is_full-via-else-is_full+then-self-eq0 w ↦ none_words r w.if-self-eq0.true
    ] in
    let ends = when_none r c.args.out.now c.if-out-lt-FINISH_MAX.false _ _ put.value put.out_after put.upper_bound words in
    record { value = ends.0; out_after = ends.1; result_in_bounds = ends.2 }

pub end_line-ended-requires : goal.end_line-ended-requires
end_line-ended-requires c =
    record { lines_lt_lines_max = not_full _ (sym c.is_full.ensures ∙ c.if-is_full.false); row_max_in_bounds = omega arith }

pub returns : goal.returns
returns c =
    let put = c.put_end-2.ensures in
    let ends = when_some c.args.self c.args.out.now c.if-out-lt-FINISH_MAX.false _ _ (sym c.is_full.ensures ∙ c.if-is_full.false)
    (omega arith) _ _ (rw c.line.ensures at c.end_line-ended.ensures) put.value put.out_after put.upper_bound
    in record { value = ends.0; out_after = ends.1; result_in_bounds = ends.2 }
