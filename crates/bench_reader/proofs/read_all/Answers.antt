-- `bench_reader::read_all` meets its contract. Assumes nothing.
use Rattle.std.proofs.Common.{◌≡◌, true, false, arith}
use Rattle.bench_reader.specs.Run.{begun}
use Rattle.bench_reader.proofs.read_all.Goals as goal

pub loop-rt-init : goal.loop-rt-init
loop-rt-init c = record { ran = rw c.new.ensures begun; counted = omega arith }

pub returns-after-loop-rt-clause-stops : goal.returns-after-loop-rt-clause-stops
returns-after-loop-rt-clause-stops c e = let clash : false ≡ true = rw e at c.loop-rt-test.ensures in cc
