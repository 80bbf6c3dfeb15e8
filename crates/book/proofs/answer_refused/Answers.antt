-- `book::answer_refused` meets its contract. Assumes nothing.
use Rattle.book.proofs.Answering.{refused_line}
use Rattle.book.proofs.answer_refused.Goals as goal

pub returns : goal.returns
returns c =
    let put = c.put_bad-end.ensures in
    refused_line _ _ _ _ _ c.requires.row_max_in_bounds _ _ put.value put.out_after put.upper_bound c.one_more.ensures
