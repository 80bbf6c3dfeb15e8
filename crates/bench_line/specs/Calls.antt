-- Document 01, "Bench line": the calls that name a station by its number. Assumes nothing.
use Rattle.std.specs.Prelude.{ℕ, Result, Ok, Err, ⊤}
use Rattle.laws.specs.Pick.{pick}
use Rattle.fsm.specs.declared.DaliBitbangPhy.{DaliBitbangPhy}
use Rattle.fsm.specs.declared.Answered.{Answered}
use Rattle.bench_line.specs.declared.BenchLine.{BenchLine}
use Rattle.bench_line.specs.declared.LineAnswered.{LineAnswered}
use Rattle.bench_line.specs.declared.LineError.{LineError}
use Rattle.bench_line.specs.declared.LineError.TheVariants.{NoStation, BadCount}
use Rattle.bench_line.specs.Line.{is_on, station_at, with_station, new_line_of}
use Rattle.bench_line.specs.Refusals.{is_count}

-- A count of 1 to 4 makes a new line. Any other count is refused by 10.
unfoldable pub made_line : ℕ → Result BenchLine LineError
made_line count = pick (is_count count) (Ok (new_line_of count)) (Err BadCount)

-- ---- what a call of a station makes of its line
-- a station after a call that gives no answer
abbrev pub done : DaliBitbangPhy → Answered ⊤
done s = record { station = s; answer = tt }

-- If the line has a station of that number, the station that the call handed back takes its place, and the line hands on its answer. If not, the call
-- is refused by 9 and the line stays as it was.
unfoldable pub answered_at : {A : Type 0} → BenchLine → ℕ → Answered A → LineAnswered A
answered_at l number r =
    pick (is_on l number)
    (record { line = with_station l number r.station; answer = Ok r.answer })
    (record { line = l; answer = Err NoStation })

-- A copy of the station, for the calls that change nothing. If the line has no station of that number, the call is refused by 9.
unfoldable pub seen_at : BenchLine → ℕ → Result DaliBitbangPhy LineError
seen_at l number = pick (is_on l number) (Ok (station_at l number)) (Err NoStation)
