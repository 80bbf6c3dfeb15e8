-- Document 01, "Bench line": what holds of every reached line. Assumes nothing.
use Rattle.std.specs.Prelude.{ℕ, ◌≤◌, ◌<◌, ◌≡◌, length}
use Rattle.fsm.specs.Station.{new_station}
use Rattle.station_theorems.specs.Calls.{Reached}
use Rattle.bench_line.specs.declared.BenchLine.{BenchLine}
use Rattle.bench_line.specs.Line.{stations_on, station_at, level_left}
use Rattle.line_theorems.specs.Reached.{ReachedLine}

-- the invariants of a line
pub record LineHolds (l : BenchLine) : Type 0 where
  -- The line has one to four stations, in four places.
  pub from_one : 1 ≤ l.count
  pub to_four : l.count ≤ 4
  pub places : length l.stations ≡ 4
  -- Each of its stations is a reached station.
  pub reached : (number : ℕ) → number < stations_on l → Reached (station_at l number)
  -- The places past the count hold new stations.
  pub new_past : (number : ℕ) → stations_on l ≤ number → station_at l number ≡ new_station
  -- The level of the line is the one that its stations leave.
  pub left : l.level ≡ level_left (stations_on l) l.stations

-- The invariants hold after any calls from a new line.
abbrev pub LineInvariants : Type 0
LineInvariants = (l : BenchLine) → ReachedLine l → LineHolds l
