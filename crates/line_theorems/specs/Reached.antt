-- Document 01, "Bench line" (demand 3): the calls that change a line, and the lines that they lead to from a new one. Assumes nothing.
use Rattle.std.specs.Prelude.{ℕ, suc, Bool, true, false, List, [], ◌∷◌, ◌≡◌, Option}
use Rattle.laws.specs.Pick.{pick}
use Rattle.halfbits.specs.declared.HalfBitBuffer.{HalfBitBuffer}
use Rattle.machine.specs.declared.CollisionPolicy.{CollisionPolicy}
use Rattle.event.specs.declared.RxCompletedEvent.{RxCompletedEvent}
use Rattle.fsm.specs.declared.TxPollResult.{TxPollResult}
use Rattle.fsm.specs.Starting.{start_tx_of, start_answer_of}
use Rattle.fsm.specs.Polling.{polled}
use Rattle.fsm.specs.Calls.{with_policy, took_idle, acknowledged, took_rx}
use Rattle.bench_line.specs.declared.BenchLine.{BenchLine}
use Rattle.bench_line.specs.declared.LineAnswered.{LineAnswered}
use Rattle.bench_line.specs.Line.{station_at, new_line_of, line_ticked}
use Rattle.bench_line.specs.Refusals.{is_count}
use Rattle.bench_line.specs.Calls.{done, answered_at}

-- The calls that can change a line. All but the tick name a station by its number, and the line need not have that station.
pub data LineCall : Type 0 where
  tick : LineCall
  start_tx : ℕ → HalfBitBuffer → LineCall
  start_answer : ℕ → HalfBitBuffer → LineCall
  poll : ℕ → LineCall
  take_idle : ℕ → LineCall
  take_rx : ℕ → LineCall
  acknowledge : ℕ → LineCall
  policy : ℕ → CollisionPolicy → LineCall

-- the calls that ask a station, each with its answer and the line after it
abbrev pub poll_on : BenchLine → ℕ → LineAnswered TxPollResult
poll_on l number = answered_at l number (polled (station_at l number))

abbrev pub take_idle_on : BenchLine → ℕ → LineAnswered Bool
take_idle_on l number = answered_at l number (took_idle (station_at l number))

abbrev pub take_rx_on : BenchLine → ℕ → LineAnswered (Option RxCompletedEvent)
take_rx_on l number = answered_at l number (took_rx (station_at l number))

-- the line after one call
unfoldable pub line_after : LineCall → BenchLine → BenchLine
line_after tick l = line_ticked l
line_after (start_tx number hb) l = (answered_at l number (start_tx_of (station_at l number) hb)).line
line_after (start_answer number hb) l = (answered_at l number (start_answer_of (station_at l number) hb)).line
line_after (poll number) l = (poll_on l number).line
line_after (take_idle number) l = (take_idle_on l number).line
line_after (take_rx number) l = (take_rx_on l number).line
line_after (acknowledge number) l = (answered_at l number (done (acknowledged (station_at l number)))).line
line_after (policy number p) l = (answered_at l number (done (with_policy (station_at l number) p))).line

-- A line is reached if any calls in any order lead to it from a new line of one to four stations.
pub data ReachedLine : BenchLine → Type 0 where
  new_line : (count : ℕ) → is_count count ≡ true → ReachedLine (new_line_of count)
  called : {l : BenchLine} (c : LineCall) → ReachedLine l → ReachedLine (line_after c l)

-- ---- many calls
-- the line after these calls, made one after the other
unfoldable pub line_after_all : List LineCall → BenchLine → BenchLine
line_after_all [] l = l
line_after_all (c ∷ cs) l = line_after_all cs (line_after c l)

-- P holds for each of these calls.
unfoldable pub Each : (LineCall → Type 0) → List LineCall → Type 0
Each P [] = Unit {0}
Each P (c ∷ cs) = P c × Each P cs

-- Only the two starts start a station.
unfoldable pub starts_nothing : LineCall → Bool
starts_nothing tick = true
starts_nothing (start_tx number hb) = false
starts_nothing (start_answer number hb) = false
starts_nothing (poll number) = true
starts_nothing (take_idle number) = true
starts_nothing (take_rx number) = true
starts_nothing (acknowledge number) = true
starts_nothing (policy number p) = true

-- None of these calls starts a station.
abbrev pub StartNothing : List LineCall → Type 0
StartNothing calls = Each (λ c. starts_nothing c ≡ true) calls

-- The call `one` is not among these.
abbrev pub Without : LineCall → List LineCall → Type 0
Without one calls = Each (λ c. c ≡ one → ⊥) calls

-- whether a call is a tick
unfoldable pub is_tick : LineCall → Bool
is_tick tick = true
is_tick (start_tx number hb) = false
is_tick (start_answer number hb) = false
is_tick (poll number) = false
is_tick (take_idle number) = false
is_tick (take_rx number) = false
is_tick (acknowledge number) = false
is_tick (policy number p) = false

-- how many of these calls are ticks
unfoldable pub ticks_in : List LineCall → ℕ
ticks_in [] = 0
ticks_in (c ∷ cs) = pick (is_tick c) (suc (ticks_in cs)) (ticks_in cs)
