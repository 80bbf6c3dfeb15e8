-- `bench_reader::turn` meets its contract. Assumes nothing.
use Rattle.bench_reader.proofs.Moves.{ends, fails}
use Rattle.bench_reader.proofs.turn.Goals as goal

pub returns-in-End-clause-ran_on : goal.returns-in-End-clause-ran_on
returns-in-End-clause-ran_on c = ends _ c.requires.ran c.read_chunk.ensures.came c.in-End.is

pub returns-in-Failed-clause-ran_on : goal.returns-in-Failed-clause-ran_on
returns-in-Failed-clause-ran_on c = fails _ c.requires.ran c.read_chunk.ensures.came c.in-Failed.is c.complain.ensures
