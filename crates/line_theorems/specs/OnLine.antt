-- Document 01, "Bench line" (demand 3): senders and listeners on one line, and what they tell. Assumes nothing.
use Rattle.std.specs.Prelude.{ℕ, zero, suc, ◌+◌, ◌≤◌, ◌<◌, Bool, true, List, [], ◌∷◌, ◌≡◌, Some, Result, Ok, ⊤}
use Rattle.halfbits.specs.declared.HalfBitBuffer.{HalfBitBuffer}
use Rattle.halfbits.specs.Frame.{Frame, bytes_of, AreBytes}
use Rattle.halfbits.specs.Encoding.{is_bit_count, frame_of, encoded_of}
use Rattle.event.specs.declared.RxCompletedEvent.{RxCompletedEvent}
use Rattle.fsm.specs.declared.StartError.{StartError}
use Rattle.fsm.specs.declared.TxPollResult.{TxPollResult}
use Rattle.bench_line.specs.declared.BenchLine.{BenchLine}
use Rattle.bench_line.specs.declared.LineAnswered.{LineAnswered}
use Rattle.bench_line.specs.Line.{stations_on, station_at, line_ticked}
use Rattle.bench_line.specs.Calls.{answered_at}
use Rattle.station_theorems.specs.Ticks.{IsIdle, IsSending, IsBreaking}
use Rattle.frames.specs.Sends.{Start, handed_out, started_by}
use Rattle.frames.specs.ReadAs.{ReadAs}
use Rattle.line_theorems.specs.Reached.{poll_on, take_idle_on, take_rx_on, line_after, poll, take_idle, take_rx}

-- ---- the line
-- the line after n ticks, with no other call
unfoldable pub ticks_on : ℕ → BenchLine → BenchLine
ticks_on zero l = l
ticks_on (suc n) l = line_ticked (ticks_on n l)

-- Every station of the line is Idle.
abbrev pub AllIdle : BenchLine → Type 0
AllIdle l = (number : ℕ) → number < stations_on l → IsIdle (station_at l number)

-- ---- a sender
-- a sender: the number of its station, the call that starts it, and the bit count and the bytes that the encoder is given
pub record Sender : Type 0 where
  pub number : ℕ
  pub by : Start
  pub bits : ℕ
  pub first : ℕ
  pub second : ℕ
  pub third : ℕ

-- the frame that it sends
abbrev pub frame_in : Sender → Frame
frame_in a = frame_of a.bits a.first a.second a.third

-- the half-bits that the encoder writes for that frame
abbrev pub buffer_in : Sender → HalfBitBuffer
buffer_in a = handed_out (encoded_of a.bits (frame_in a))

-- The sender is a station of the line. Its frame has 8, 16 or 24 bits, and the frame's data are bytes.
pub record IsSender (l : BenchLine) (a : Sender) : Type 0 where
  pub on : a.number < stations_on l
  pub counts : is_bit_count a.bits ≡ true
  pub are_bytes : AreBytes (bytes_of (frame_in a))

-- the line after the start of a sender, and the answer
abbrev pub started_on : BenchLine → Sender → LineAnswered (Result ⊤ StartError)
started_on l a = answered_at l a.number (started_by a.by (station_at l a.number) (buffer_in a))

-- ---- a break
-- A sender sends before tick `clash` and sees the clash there. Then it is in its break. Fourteen ticks later it samples the level `found` and is
-- Idle, and its after-break mark tells whether that level was high.
pub record Breaks (l : BenchLine) (number clash : ℕ) (found : Bool) : Type 0 where
  pub sends : (tick : ℕ) → tick < clash → IsSending (station_at (ticks_on tick l) number)
  pub breaks : (tick : ℕ) → clash ≤ tick → tick < clash + 14 → IsBreaking (station_at (ticks_on tick l) number)
  pub left : (ticks_on (clash + 13) l).level ≡ found
  pub idle : IsIdle (station_at (ticks_on (clash + 14) l) number)
  pub mark : (station_at (ticks_on (clash + 14) l) number).core.told.tx_idle_after_break ≡ found

-- The break of the sender is over by tick `last`.
abbrev pub BreaksBy : ℕ → BenchLine → ℕ → Bool → Type 0
BreaksBy last l number found = (clash : ℕ) × (clash + 14 ≤ last) × Breaks l number clash found

-- ---- what a station then tells
-- A take hands out the event of a completed capture, which is read as the frame at phase 0.
abbrev pub HoldsFrame : Frame → ℕ → BenchLine → Type 0
HoldsFrame frame number l = (event : RxCompletedEvent) × ((take_rx_on l number).answer ≡ Ok (Some event)) × ReadAs frame event

-- A poll of the station gives this answer.
abbrev pub Polls : TxPollResult → ℕ → BenchLine → Type 0
Polls answer number l = (poll_on l number).answer ≡ Ok answer

-- A take of the after-break mark tells whether the station found the line idle.
abbrev pub FindsIdle : Bool → ℕ → BenchLine → Type 0
FindsIdle idle number l = (take_idle_on l number).answer ≡ Ok idle

-- ---- calls in a row
-- a call of a station, and its answer
pub data Answer : Type 0 where
  polls : (number : ℕ) → TxPollResult → Answer
  finds_idle : (number : ℕ) → Bool → Answer
  holds_frame : (number : ℕ) → Frame → Answer

-- Each call is made on the line that the one before left, and gets this answer.
unfoldable pub InARow : List Answer → BenchLine → Type 0
InARow [] l = Unit {0}
InARow (polls number answer ∷ more) l = Polls answer number l × InARow more (line_after (poll number) l)
InARow (finds_idle number idle ∷ more) l = FindsIdle idle number l × InARow more (line_after (take_idle number) l)
InARow (holds_frame number frame ∷ more) l = HoldsFrame frame number l × InARow more (line_after (take_rx number) l)
