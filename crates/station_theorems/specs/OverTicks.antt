-- Document 01, "Machine": its rules that speak of several ticks. They hold for every reached station, and the host may make other calls between the
-- ticks. Assumes nothing.
use Rattle.std.specs.Prelude.{ℕ, ◌+◌, ◌-◌, ◌*◌, ◌/◌, ◌%◌, ◌≤◌, ◌<◌, min, Bool, not, List, ◌⊎◌, ◌≡◌, eqb, length, get_or, replicate}
use Rattle.laws.specs.Bit.{bit}
use Rattle.laws.specs.Packed.{packed}
use Rattle.laws.specs.Pick.{pick}
use Rattle.laws.specs.Tabulate.{tabulate}
use Rattle.halfbits.specs.declared.HalfBitBuffer.{HalfBitBuffer}
use Rattle.halfbits.specs.Wave.{high, low}
use Rattle.machine.specs.declared.CollisionPolicy.{CollisionPolicy}
use Rattle.machine.specs.declared.CollisionPolicy.TheVariants.{Auto, Off, On}
use Rattle.machine.specs.declared.RxState.TheVariants.{Completed}
use Rattle.capture.specs.Samples.{bytes_of}
use Rattle.machine.specs.Sending.{half_bit_in, tx_hb_of, releases_at}
use Rattle.fsm.specs.declared.DaliBitbangPhy.{DaliBitbangPhy}
use Rattle.std.specs.declared.result.Result.TheVariants as result
use Rattle.fsm.specs.declared.TxPollResult.TheVariants.{Ok, Collision, Yielded}
use Rattle.fsm.specs.Station.{last_bytes, last_count, last_silence}
use Rattle.fsm.specs.Ticking.{tick_of}
use Rattle.fsm.specs.Starting.{start_tx_of, start_answer_of}
use Rattle.fsm.specs.Refusals.{start_answer_number}
use Rattle.fsm.specs.Polling.{polled}
use Rattle.fsm.specs.Calls.{took_idle}
use Rattle.station_theorems.specs.Calls.{Call, after_all, NoAnswer, Reached}
use Rattle.station_theorems.specs.Ticks.{drives, IsIdle, IsCapturing, IsSending, IsBreaking, StaysSending, highs_running, levels_in, ticks_in}

-- ---- run lengths
-- the run length of a level
abbrev pub run_of : Bool → DaliBitbangPhy → ℕ
run_of level s = pick level s.core.runs.high_run_ticks s.core.runs.low_run_ticks

-- After a tick of the other level, n ticks in a row sample this level. Then its run is n, or 65,535 if n is more, and the other run is 0. That holds
-- in every state of any station.
abbrev pub RunLengths : Type 0
RunLengths =
    (s : DaliBitbangPhy) (level : Bool) (calls : List Call) (n : ℕ) → levels_in calls ≡ replicate n level → 0 < n
    → (run_of level (after_all calls (tick_of s (not level))) ≡ min n 65535) × (run_of (not level) (after_all calls (tick_of s (not level))) ≡ 0)

-- ---- Idle
-- the idle count, `idlecnt` in the Rust
abbrev pub idle_count : DaliBitbangPhy → ℕ
idle_count s = s.core.bus.idlecnt

-- The station is Idle and has counted no low tick: one low tick leaves it Idle.
pub record NoLow (s : DaliBitbangPhy) : Type 0 where
  pub idle : IsIdle s
  pub alone : IsIdle (tick_of s low)

-- The station is Idle and has counted one low tick: a second one in a row starts Rx.
pub record OneLow (s : DaliBitbangPhy) : Type 0 where
  pub idle : IsIdle s
  pub second : IsCapturing (tick_of s low)

-- what a tick does to a station in Idle
pub record InIdle (s : DaliBitbangPhy) : Type 0 where
  -- The station has counted no low tick or one.
  pub either : NoLow s ⊎ OneLow s
  -- A high tick adds one to the idle count, up to 65,535, and clears the debounce.
  pub after_high : NoLow (tick_of s high)
  pub counted : idle_count (tick_of s high) ≡ min (idle_count s + 1) 65535
  -- If the station has counted no low tick, a low tick counts as the first. No low tick changes the idle count.
  pub after_low : NoLow s → OneLow (tick_of s low)
  pub not_reset : idle_count (tick_of s low) ≡ idle_count s

-- This holds for every reached station in Idle.
abbrev pub IdleTicks : Type 0
IdleTicks = (s : DaliBitbangPhy) → Reached s → IsIdle s → InIdle s

-- ---- Rx
-- the bytes of the store into which the station writes its capture
abbrev pub captured : DaliBitbangPhy → List ℕ
captured s = bytes_of s.rx_data

-- byte i of a capture: eight levels, the first as its top bit
abbrev pub byte_of : (ℕ → Bool) → ℕ → ℕ
byte_of level i = packed 2 8 (λ j. bit (level (8 * i + j)))

-- A capture has written n bytes into a store of 64. The first 63 stand in their slots, and each later one overwrites slot 63. All other slots hold
-- what they held before the capture.
pub record Store (before : List ℕ) (level : ℕ → Bool) (n : ℕ) (bytes : List ℕ) : Type 0 where
  pub whole : length bytes ≡ 64
  pub first : (i : ℕ) → i < n → i < 63 → get_or bytes i 0 ≡ byte_of level i
  pub last : (i : ℕ) → i + 1 ≡ n → 63 ≤ i → get_or bytes 63 0 ≡ byte_of level i
  pub rest : (i : ℕ) → n ≤ i → get_or bytes i 0 ≡ get_or before i 0

-- A station that captures. `s` has counted one low tick. `level` gives the levels of the capture: two low ones, of which the second starts Rx, and
-- then n levels that the ticks among `calls` sample. No call starts an answer, and no sixteen levels in a row are high so far.
pub record Hears (s : DaliBitbangPhy) (level : ℕ → Bool) (n : ℕ) (calls : List Call) : Type 0 where
  pub reached : Reached s
  pub starts : OneLow s
  pub two_lows : (level 0 ≡ low) × (level 1 ≡ low)
  pub ticks : levels_in calls ≡ tabulate n (λ i. level (2 + i))
  pub unanswered : NoAnswer calls
  pub lasts : (k : ℕ) → k ≤ 2 + n → highs_running k level < 16

-- Then the station `t` is in Rx, and its store holds every whole byte of the levels so far. `s` is the station before the capture.
pub record Capturing (s : DaliBitbangPhy) (level : ℕ → Bool) (ticks : ℕ) (t : DaliBitbangPhy) : Type 0 where
  pub capturing : IsCapturing t
  pub store : Store (captured s) level (ticks / 8) (captured t)

-- This holds at every tick of a capture, until sixteen levels in a row are high.
abbrev pub Captures : Type 0
Captures =
    (s : DaliBitbangPhy) (level : ℕ → Bool) (n : ℕ) (calls : List Call) → Hears s level n calls
    → Capturing s level (2 + n) (after_all calls (tick_of s low))

-- A completed capture: the station `t` is Idle and its event is ready. The event has the whole bytes of the capture, 63 at most, and then a byte of
-- 0xFF. A part-filled byte is dropped. The bytes past the count are those that the store held before. The silence is the idle count before the
-- capture, at most 255. The next capture begins over the same bytes.
pub record Captured (s : DaliBitbangPhy) (level : ℕ → Bool) (ticks : ℕ) (t : DaliBitbangPhy) : Type 0 where
  pub idle : NoLow t
  pub ready : t.core.told.rx_state ≡ Completed
  pub whole : length (last_bytes t) ≡ 64
  pub count : last_count t ≡ min (ticks / 8) 63 + 1
  pub first : (i : ℕ) → i < ticks / 8 → i < 63 → get_or (last_bytes t) i 0 ≡ byte_of level i
  pub end : get_or (last_bytes t) (min (ticks / 8) 63) 0 ≡ 255
  pub rest : (i : ℕ) → ticks / 8 < i → get_or (last_bytes t) i 0 ≡ get_or (captured s) i 0
  pub silence : last_silence t ≡ min (idle_count s) 255
  pub stays : captured t ≡ last_bytes t

-- The sixteenth high level in a row completes the capture.
abbrev pub CaptureEnds : Type 0
CaptureEnds =
    (s : DaliBitbangPhy) (level : ℕ → Bool) (n : ℕ) (calls : List Call) → Hears s level n calls → highs_running (3 + n) level ≡ 16
    → Captured s level (3 + n) (tick_of (after_all calls (tick_of s low)) (level (2 + n)))

-- ---- Tx
-- how many half-bits the station has begun, and how many it has to send
abbrev pub begun : DaliBitbangPhy → ℕ
begun s = s.core.tx.tx_hb_cnt

abbrev pub to_send : DaliBitbangPhy → ℕ
to_send s = s.tx_hb.tx_hb_len

-- A station in Tx begins a half-bit with the tick that samples this level.
pub record Begins (s : DaliBitbangPhy) (level : Bool) : Type 0 where
  pub sending : IsSending s
  pub one_more : begun (tick_of s level) ≡ begun s + 1

-- half-bit k of a buffer, top bit first: 0 leaves the line high, and 1 pulls it low
abbrev pub half_bit_level : List ℕ → ℕ → Bool
half_bit_level store k = eqb (half_bit_in store k) 0

-- The tick drives the half-bit that it begins, and the station stays in Tx.
pub record Drives (s : DaliBitbangPhy) (level : Bool) : Type 0 where
  pub sending : IsSending (tick_of s level)
  pub driven : drives (tick_of s level) ≡ releases_at s.tx_hb (begun s)

-- Every tick that begins a half-bit drives it.
abbrev pub HalfBitsDriven : Type 0
HalfBitsDriven = (s : DaliBitbangPhy) (level : Bool) → Begins s level → Drives s level

-- An armed station leaves the line high and has begun no half-bit.
pub record Armed (t : DaliBitbangPhy) : Type 0 where
  pub sending : IsSending t
  pub released : drives t ≡ high
  pub none_begun : begun t ≡ 0

-- `t` is the station n ticks after its start with the buffer `hb`. It is armed for three ticks, and the fourth begins the first half-bit of the
-- buffer.
pub record ArmedFor (hb : HalfBitBuffer) (n : ℕ) (t : DaliBitbangPhy) : Type 0 where
  pub armed : n ≤ 3 → Armed t
  pub first : n ≡ 3 → (level : Bool) → Begins t level
  pub store : n ≤ 3 → t.tx_hb ≡ tx_hb_of hb

-- The station has yielded: it gave up its frame, and a poll tells so. The low tick counts as Idle's first.
pub record Yields (t : DaliBitbangPhy) : Type 0 where
  pub first_low : OneLow t
  pub told : (polled t).answer ≡ Yielded

-- So it is for a frame that `start_tx` starts, while the line is high. If an armed tick samples low, the station yields.
abbrev pub FrameArmed : Type 0
FrameArmed =
    (s : DaliBitbangPhy) → Reached s → (hb : HalfBitBuffer) → (start_tx_of s hb).answer ≡ result.Ok tt
    → (calls : List Call) (n : ℕ) → levels_in calls ≡ replicate n high
    → ArmedFor hb n (after_all calls (start_tx_of s hb).station) × (n < 3 → Yields (tick_of (after_all calls (start_tx_of s hb).station) low))

-- So it is for an answer that `start_answer` starts, whatever the line does. If an armed tick samples low, the station goes on sending.
abbrev pub AnswerArmed : Type 0
AnswerArmed =
    (s : DaliBitbangPhy) → Reached s → (hb : HalfBitBuffer) → (start_answer_of s hb).answer ≡ result.Ok tt
    → (calls : List Call)
    → ArmedFor hb (ticks_in calls) (after_all calls (start_answer_of s hb).station)
    × (ticks_in calls < 3 → IsSending (tick_of (after_all calls (start_answer_of s hb).station) low))

-- Policy Off watches no length, On every length, and Auto every length but 22.
unfoldable pub Watches : CollisionPolicy → ℕ → Type 0
Watches Off len = ⊥
Watches On len = Unit {0}
Watches Auto len = len ≡ 22 → ⊥

-- When tick `number` of a half-bit is a clash; the tick that drives the half-bit is number 1. The half-bit is released, the policy watches the
-- length, and the tick is the third or fourth and samples low.
pub record IsClash (number : ℕ) (s : DaliBitbangPhy) (level : Bool) : Type 0 where
  pub released : drives s ≡ high
  pub watched : Watches s.core.collision_policy (to_send s)
  pub third : 3 ≤ number
  pub fourth : number ≤ 4
  pub fell : level ≡ low

-- Tick `number` of a half-bit that isn't the last. `first` is the station after its first tick, and `t` the station before this tick, which still
-- drives the same level. If the tick is a clash, the break begins; if not, the station goes on sending. Tick 5 begins the next half-bit.
pub record Follows (first : DaliBitbangPhy) (number : ℕ) (t : DaliBitbangPhy) (level : Bool) : Type 0 where
  pub held : (drives t ≡ drives first) × (begun t ≡ begun first)
  pub store : t.tx_hb ≡ first.tx_hb
  pub clash : IsClash number t level → IsBreaking (tick_of t level)
  pub no_clash : (IsClash number t level → ⊥) → IsSending (tick_of t level)
  pub over : number ≡ 5 → Begins t level

-- This holds for every half-bit but the last, while the station is in Tx.
abbrev pub HalfBitTicks : Type 0
HalfBitTicks =
    (s : DaliBitbangPhy) → Reached s → (level : Bool) → Begins s level → begun (tick_of s level) < to_send s
    → (calls : List Call) → ticks_in calls ≤ 3 → IsSending (after_all calls (tick_of s level))
    → (next : Bool) → Follows (tick_of s level) (ticks_in calls + 2) (after_all calls (tick_of s level)) next

-- The frame is sent: the station is Idle and has counted no low tick, and a poll tells Ok.
pub record Sent (t : DaliBitbangPhy) : Type 0 where
  pub idle : NoLow t
  pub told : (polled t).answer ≡ Ok

-- The last half-bit lasts one tick, and no tick watches it. The next tick ends the frame whatever it samples; a low one does not count as Idle's
-- first.
abbrev pub LastHalfBit : Type 0
LastHalfBit =
    (s : DaliBitbangPhy) → Reached s → (level : Bool) → Begins s level → begun (tick_of s level) ≡ to_send s
    → (calls : List Call) → ticks_in calls ≡ 0 → (next : Bool) → Sent (tick_of (after_all calls (tick_of s level)) next)

-- A station in Tx goes Idle only once it has begun every half-bit, or if it yields. So no station uses up the 7 bytes before the length.
abbrev pub SentWhole : Type 0
SentWhole =
    (s : DaliBitbangPhy) → Reached s → IsSending s → (level : Bool) → IsIdle (tick_of s level)
    → (to_send s ≤ begun s) ⊎ ((polled (tick_of s level)).answer ≡ Yielded)

-- At a clash the tick samples low while the station leaves the line high, and the policy watches the length. A poll then tells Collision.
pub record SeesClash (s : DaliBitbangPhy) (level : Bool) : Type 0 where
  pub fell : level ≡ low
  pub released : (drives s ≡ high) × (drives (tick_of s level) ≡ high)
  pub watched : Watches s.core.collision_policy (to_send s)
  pub told : (polled (tick_of s level)).answer ≡ Collision

-- A reached station in Tx begins a break only at a clash.
abbrev pub ClashSeen : Type 0
ClashSeen = (s : DaliBitbangPhy) → Reached s → IsSending s → (level : Bool) → IsBreaking (tick_of s level) → SeesClash s level

-- The same by the number of ticks since the start, for a station that has stayed in Tx. Three ticks are armed, and tick 4 + 4j drives half-bit j.
-- Ticks 6 + 4j and 7 + 4j watch it, unless it is the last half-bit. No other tick watches.
pub record OnTime (hb : HalfBitBuffer) (n : ℕ) (t : DaliBitbangPhy) : Type 0 where
  pub count : begun t ≡ n / 4
  pub armed : n < 4 → drives t ≡ high
  pub driven : 4 ≤ n → drives t ≡ half_bit_level hb.«data» (n / 4 - 1)
  pub clash : (level : Bool) → 4 ≤ n → n / 4 < hb.length → IsClash (n % 4 + 2) t level → IsBreaking (tick_of t level)
  pub no_other : (level : Bool) → IsBreaking (tick_of t level) → (4 ≤ n) × (n / 4 < hb.length) × IsClash (n % 4 + 2) t level

-- the station after a start that isn't refused
pub data Starts (s : DaliBitbangPhy) (hb : HalfBitBuffer) : DaliBitbangPhy → Type 0 where
  a_frame : (start_tx_of s hb).answer ≡ result.Ok tt → Starts s hb (start_tx_of s hb).station
  an_answer : (start_answer_of s hb).answer ≡ result.Ok tt → Starts s hb (start_answer_of s hb).station

-- Every reached station sends at these ticks, a frame or an answer.
abbrev pub SendsOnTime : Type 0
SendsOnTime =
    (s : DaliBitbangPhy) → Reached s → (hb : HalfBitBuffer) (t : DaliBitbangPhy) → Starts s hb t
    → (calls : List Call) → StaysSending calls t → OnTime hb (ticks_in calls) (after_all calls t)

-- ---- Collision
-- A station in its break, that many ticks after the tick that saw the clash. It pulls the line low for twelve ticks and releases it on the
-- thirteenth. It refuses both starts by 7. Once a poll has told the clash, the next one answers Ok.
pub record InBreak (ticks : ℕ) (t : DaliBitbangPhy) : Type 0 where
  pub breaking : IsBreaking t
  pub waits : ticks ≡ 0 → drives t ≡ high
  pub pulls : 1 ≤ ticks → ticks ≤ 12 → drives t ≡ low
  pub releases : ticks ≡ 13 → drives t ≡ high
  pub refuses : (hb : HalfBitBuffer) → (start_answer_number (start_tx_of t hb).answer ≡ 7) × (start_answer_number (start_answer_of t hb).answer ≡ 7)
  pub told : (polled (polled t).station).answer ≡ Ok

-- The break is over and the station is Idle. Its after-break mark tells whether the line was high. If the line was low, that tick counts as Idle's
-- first low.
pub record Broke (sample : Bool) (t : DaliBitbangPhy) : Type 0 where
  pub mark : (took_idle t).answer ≡ sample
  pub found_low : sample ≡ low → OneLow t
  pub found_high : sample ≡ high → NoLow t

-- A break, from the tick that saw the clash on. `t` is the station after any calls. The fourteenth tick samples the line.
pub record Break (calls : List Call) (t : DaliBitbangPhy) : Type 0 where
  pub lasts : ticks_in calls ≤ 13 → InBreak (ticks_in calls) t
  pub sampled : ticks_in calls ≡ 13 → (sample : Bool) → Broke sample (tick_of t sample)

-- Every clash of a reached station leads to that break.
abbrev pub BreakTicks : Type 0
BreakTicks =
    (s : DaliBitbangPhy) → Reached s → (level : Bool) → IsSending s → IsBreaking (tick_of s level)
    → (calls : List Call) → Break calls (after_all calls (tick_of s level))

-- ---- becoming Idle
-- A station that becomes Idle sets its idle count to its high run, whatever state it comes from.
abbrev pub BecomesIdle : Type 0
BecomesIdle =
    (s : DaliBitbangPhy) (level : Bool) → (IsIdle s → ⊥) → IsIdle (tick_of s level)
    → idle_count (tick_of s level) ≡ run_of high (tick_of s level)
