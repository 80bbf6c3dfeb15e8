-- Document 01, "The wave" and "Machine": when a station takes a start, and what it means that it sends bits. Assumes nothing.
use Rattle.std.specs.Prelude.{ℕ, ◌+◌, ◌*◌, ◌≤◌, ◌<◌, Bool, true, List, ◌≡◌, length, replicate, Result, ⊤}
use Rattle.halfbits.specs.declared.HalfBitBuffer.{HalfBitBuffer}
use Rattle.halfbits.specs.Wave.{high, level_at}
use Rattle.halfbits.specs.declared.EncodeError.{EncodeError}
use Rattle.halfbits.specs.HalfBits.{half_bits_of}
use Rattle.machine.specs.declared.BusState.{BusState}
use Rattle.fsm.specs.declared.DaliBitbangPhy.{DaliBitbangPhy}
use Rattle.fsm.specs.declared.Answered.{Answered}
use Rattle.fsm.specs.declared.StartError.{StartError}
use Rattle.std.specs.declared.result.Result.TheVariants as result
use Rattle.fsm.specs.declared.StartError.TheVariants.{Busy}
use Rattle.fsm.specs.declared.TxPollResult.TheVariants.{Ok, Transmitting}
use Rattle.fsm.specs.Starting.{start_tx_of, start_answer_of}
use Rattle.machine.specs.States.{is_idle, hears}
use Rattle.fsm.specs.Polling.{polled}
use Rattle.station_theorems.specs.Ticks.{drives, IsIdle, IsSending, alone}

-- ---- what is sent
-- the two calls that start a station
pub data Start : Type 0 where
  by_start_tx : Start
  by_start_answer : Start

-- what that call hands back
unfoldable pub started_by : Start → DaliBitbangPhy → HalfBitBuffer → Answered (Result ⊤ StartError)
started_by by_start_tx s hb = start_tx_of s hb
started_by by_start_answer s hb = start_answer_of s hb

-- A station takes `start_tx` in Idle, and `start_answer` in Idle and Rx.
unfoldable pub taken_in : Start → BusState → Bool
taken_in by_start_tx state = is_idle state
taken_in by_start_answer state = hears state

-- The station is in a state in which it takes that start.
abbrev pub MayStart : Start → DaliBitbangPhy → Type 0
MayStart by s = taken_in by s.core.bus.bus_state ≡ true

-- The half-bits of the start bit, of these bits and of the released end are no more than 54, the largest length.
abbrev pub FitsBuffer : List Bool → Type 0
FitsBuffer row = half_bits_of (length row) ≤ 54

-- the buffer in an answer of the encoder. If the encoder refuses the bit count, there is none, and this is a buffer that no start takes.
abbrev pub handed_out : Result HalfBitBuffer EncodeError → HalfBitBuffer
handed_out (result.Ok hb) = hb
handed_out (result.Err e) = record { «data» = replicate 7 0; length = 0 }

-- the tick at which the station is Idle again, counted from the start call: 89, 153 and 217 for 8, 16 and 24 bits
abbrev pub idle_at : ℕ → ℕ
idle_at bits = 8 * bits + 25

-- ---- what is driven
-- What a started station does. `at` gives the station after a number of ticks, and tick 0 is the start call. The station leaves the line high up to
-- tick 3, and from tick 4 on it drives the wave and nothing else. Before it is Idle again, it is in Tx, a poll tells Transmitting, and it refuses
-- every start. Afterwards a poll tells Ok.
pub record SendsAt (row : List Bool) (at : ℕ → DaliBitbangPhy → DaliBitbangPhy) (s : DaliBitbangPhy) : Type 0 where
  pub armed : (tick : ℕ) → tick < 4 → drives (at tick s) ≡ high
  pub wave : (tick : ℕ) → drives (at (4 + tick) s) ≡ level_at row tick
  pub sending : (tick : ℕ) → tick < idle_at (length row) → IsSending (at tick s)
  pub unfinished : (tick : ℕ) → tick < idle_at (length row) → (polled (at tick s)).answer ≡ Transmitting
  pub busy : (tick : ℕ) → tick < idle_at (length row) → (by : Start) (hb : HalfBitBuffer) → (started_by by (at tick s) hb).answer ≡ result.Err Busy
  pub idle : (tick : ℕ) → idle_at (length row) ≤ tick → IsIdle (at tick s)
  pub sent : (tick : ℕ) → idle_at (length row) ≤ tick → (polled (at tick s)).answer ≡ Ok

-- A station alone on its line does so, if no call follows the start.
abbrev pub Sends : List Bool → DaliBitbangPhy → Type 0
Sends row s = SendsAt row alone s

-- The start is not refused, and the station sends the bits.
abbrev pub Sent : Start → DaliBitbangPhy → HalfBitBuffer → List Bool → Type 0
Sent by s hb row = ((started_by by s hb).answer ≡ result.Ok tt) × Sends row (started_by by s hb).station
