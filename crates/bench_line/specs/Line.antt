-- Document 01, "Bench line": the stations of a line, a new line, and a tick of all. Assumes nothing.
use Rattle.std.specs.Prelude.{ℕ, zero, suc, min, Bool, true, false, List, [], ◌∷◌, ltb, get_or, set, replicate}
use Rattle.laws.specs.Pick.{pick}
use Rattle.fsm.specs.declared.DaliBitbangPhy.{DaliBitbangPhy}
use Rattle.fsm.specs.Station.{new_station}
use Rattle.fsm.specs.Ticking.{tick_of}
use Rattle.bench_line.specs.declared.BenchLine.{BenchLine}

-- ---- the stations
-- A line has as many stations as its count says, and at most four.
abbrev pub stations_on : BenchLine → ℕ
stations_on l = min l.count 4

-- Their numbers begin at 0.
abbrev pub is_on : BenchLine → ℕ → Bool
is_on l number = ltb number (stations_on l)

-- the station of a number, and a new one past the four places
abbrev pub station_at : BenchLine → ℕ → DaliBitbangPhy
station_at l number = get_or l.stations number new_station

-- the line with another station at a number; past the four places nothing changes
abbrev pub with_station : BenchLine → ℕ → DaliBitbangPhy → BenchLine
with_station l number s = record { stations = set l.stations number s; count = l.count; level = l.level }

-- A line is high before its first tick. All four places hold a new station, whatever the count.
unfoldable pub new_line_of : ℕ → BenchLine
new_line_of count = record { stations = replicate 4 new_station; count = count; level = true }

-- ---- a tick
-- The first n stations sample one level and act on it. Nothing changes the others.
unfoldable pub all_ticked : ℕ → Bool → List DaliBitbangPhy → List DaliBitbangPhy
all_ticked zero level ss = ss
all_ticked (suc n) level [] = []
all_ticked (suc n) level (s ∷ ss) = tick_of s level ∷ all_ticked n level ss

-- One of the first n stations that drives low is enough to leave the line low. If none does, the line is left high.
unfoldable pub level_left : ℕ → List DaliBitbangPhy → Bool
level_left zero ss = true
level_left (suc n) [] = true
level_left (suc n) (s ∷ ss) = pick s.core.bus.driven_high (level_left n ss) false

-- All stations sample the level that the tick before left. The levels that they then drive make the next one.
unfoldable pub line_ticked : BenchLine → BenchLine
line_ticked l =
    let stations = all_ticked (stations_on l) l.level l.stations in
    record { stations = stations; count = l.count; level = level_left (stations_on l) stations }
