-- Document 01, "Machine": the calls that change a station, and the stations that they lead to from a new one. Assumes nothing.
use Rattle.std.specs.Prelude.{Bool, true, false, List, [], ◌∷◌, ◌≡◌}
use Rattle.halfbits.specs.declared.HalfBitBuffer.{HalfBitBuffer}
use Rattle.machine.specs.declared.CollisionPolicy.{CollisionPolicy}
use Rattle.fsm.specs.declared.DaliBitbangPhy.{DaliBitbangPhy}
use Rattle.fsm.specs.Station.{new_station}
use Rattle.fsm.specs.Ticking.{tick_of}
use Rattle.fsm.specs.Starting.{start_tx_of, start_answer_of}
use Rattle.fsm.specs.Polling.{polled}
use Rattle.fsm.specs.Calls.{with_policy, took_idle, acknowledged, took_rx}

-- The calls that can change a station. All other calls only read it.
pub data Call : Type 0 where
  tick : Bool → Call
  start_tx : HalfBitBuffer → Call
  start_answer : HalfBitBuffer → Call
  poll : Call
  take_idle : Call
  take_rx : Call
  acknowledge : Call
  policy : CollisionPolicy → Call

-- the station after one call
unfoldable pub after : Call → DaliBitbangPhy → DaliBitbangPhy
after (tick high) s = tick_of s high
after (start_tx hb) s = (start_tx_of s hb).station
after (start_answer hb) s = (start_answer_of s hb).station
after poll s = (polled s).station
after take_idle s = (took_idle s).station
after take_rx s = (took_rx s).station
after acknowledge s = acknowledged s
after (policy p) s = with_policy s p

-- the station after these calls, made one after the other
unfoldable pub after_all : List Call → DaliBitbangPhy → DaliBitbangPhy
after_all [] s = s
after_all (c ∷ cs) s = after_all cs (after c s)

-- A call between ticks: the host polls, takes, acknowledges or sets the policy. A tick or a start is no such call.
unfoldable pub is_between : Call → Bool
is_between (tick high) = false
is_between (start_tx hb) = false
is_between (start_answer hb) = false
is_between poll = true
is_between take_idle = true
is_between take_rx = true
is_between acknowledge = true
is_between (policy p) = true

-- Of all calls only `start_answer` begins an answer.
unfoldable pub is_answer : Call → Bool
is_answer (tick high) = false
is_answer (start_tx hb) = false
is_answer (start_answer hb) = true
is_answer poll = false
is_answer take_idle = false
is_answer take_rx = false
is_answer acknowledge = false
is_answer (policy p) = false

-- None of these calls starts an answer.
unfoldable pub NoAnswer : List Call → Type 0
NoAnswer [] = Unit {0}
NoAnswer (c ∷ cs) = (is_answer c ≡ false) × NoAnswer cs

-- A station is reached if any calls in any order lead to it from a new station.
pub data Reached : DaliBitbangPhy → Type 0 where
  new : Reached new_station
  called : {s : DaliBitbangPhy} (c : Call) → Reached s → Reached (after c s)
