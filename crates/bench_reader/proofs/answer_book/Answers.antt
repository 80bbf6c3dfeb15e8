-- `bench_reader::answer_book` meets its contract. Assumes nothing.
use Rattle.bench_reader.specs.Run.{to_the_end, to_the_last_line}
use Rattle.bench_reader.proofs.Moves.{no_words}
use Rattle.bench_reader.proofs.answer_book.Goals as goal

pub returns-in-More : goal.returns-in-More
returns-in-More c = no_words c.in-More.is c.read_all-run.ensures.ran c.read_all-run.ensures.stops

pub returns-in-End : goal.returns-in-End
returns-in-End c = to_the_end _ _ _ (rw c.in-End.is at c.read_all-run.ensures.ran) c.finish.ensures

pub returns-in-Over : goal.returns-in-Over
returns-in-Over c = to_the_last_line _ _ _ (rw c.in-Over.is at c.read_all-run.ensures.ran) c.finish-in-Over.ensures c.complain.ensures
