-- `bench_reader::read_all` ends: the reads are counted. Assumes nothing.
use Rattle.std.proofs.Common.{◌-◌, ◌≤◌}
use Rattle.bench_reader.specs.Run.{Ran, reads_max}
use Rattle.bench_reader.proofs.read_all.Given as goal

abbrev pub invariant-loop-rt : goal.invariant-loop-rt
invariant-loop-rt l = record { ran : Ran l.run.reads l.run.reader l.run.next; counted : l.run.reads ≤ reads_max }

abbrev pub decreases-loop-rt : goal.decreases-loop-rt
decreases-loop-rt l = reads_max - l.run.reads
