-- `bench_line::tick_all` meets its contract: the stations before the place have ticked. Assumes nothing.
use mathlib.Core.Path.{◌≡◌}
use Rattle.bench_line.specs.Line.{all_ticked}
use Rattle.bench_line.proofs.tick_all.Given as goal

abbrev pub invariant-loop-i : goal.invariant-loop-i
invariant-loop-i l = l.stations ≡ all_ticked l.i l.level l.initial.stations
