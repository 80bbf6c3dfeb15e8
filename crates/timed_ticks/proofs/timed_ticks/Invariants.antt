-- `timed_ticks::timed_ticks` meets its contract. Assumes nothing.
use mathlib.Core.Path.{◌≡◌}
use Rattle.fsm.specs.Station.{new_station}
use Rattle.timed_ticks.specs.Ticks.{timed_from}
use Rattle.timed_ticks.proofs.timed_ticks.Given as goal

abbrev pub invariant-loop-left : goal.invariant-loop-left
invariant-loop-left l = timed_from l.sends l.levels l.left l.station l.sum ≡ timed_from l.sends l.levels l.passes new_station 0
