-- Document 01, "The wave" and "Reading": when a station has heard a wave whole, and when its capture is read as a frame. Assumes nothing.
use Rattle.std.specs.Prelude.{ℕ, ◌+◌, ◌*◌, ◌≤◌, Bool, true, false, List, [], ◌∷◌, ◌≡◌, pos, length, Option, Some, None, is_some}
use Rattle.lengths.specs.declared.BitLengths.{BitLengths}
use Rattle.lengths.specs.Lengths.{holds, sniffed_lengths, backward_lengths}
use Rattle.window.specs.declared.SampleWindow.{SampleWindow}
use Rattle.window.specs.Window.{window_of}
use Rattle.window.specs.Phase.{weighed, bits_of, score_of, decode_of}
use Rattle.search.specs.Search.{new_of, run_of}
use Rattle.event.specs.declared.RxCompletedEvent.{RxCompletedEvent}
use Rattle.event.specs.Event.{new_event}
use Rattle.halfbits.specs.Frame.{Frame, bits_8, bits_16, bits_24, frame_bits}
use Rattle.halfbits.specs.Wave.{level_at}
use Rattle.fsm.specs.declared.DaliBitbangPhy.{DaliBitbangPhy}
use Rattle.fsm.specs.Calls.{took_rx}
use Rattle.rx_decode.specs.declared.SniffedFrame.{SniffedFrame}
use Rattle.rx_decode.specs.declared.SniffedFrame.TheVariants.{Forward16, Backward8, Forward24}
use Rattle.rx_decode.specs.Reading.{sniffed_of, searched_in, found_in, byte_in}
use Rattle.station_theorems.specs.Ticks.{IsIdle, highs_running}

-- ---- what is heard
-- The station has heard the wave whole once the last sixteen ticks were high. The high half of the last bit counts among them.
abbrev pub Whole : List Bool → ℕ → Type 0
Whole frame ticks = 16 ≤ highs_running ticks (level_at frame)

-- The wave, the high ticks behind it and one low tick before it fit the first 63 bytes of a capture, which nothing overwrites.
abbrev pub FitsCapture : List Bool → Type 0
FitsCapture frame = length frame ≤ 59

-- the event in the answer of a take, and a new one if there is none
abbrev pub event_in : Option RxCompletedEvent → RxCompletedEvent
event_in (Some ev) = ev
event_in None = new_event

-- the event that a take hands out
abbrev pub taken : DaliBitbangPhy → RxCompletedEvent
taken s = event_in (took_rx s).answer

-- A take finds a completed capture.
abbrev pub IsReady : DaliBitbangPhy → Type 0
IsReady s = is_some (took_rx s).answer ≡ true

-- the window of an event's capture
abbrev pub window_in : RxCompletedEvent → SampleWindow
window_in ev = window_of ev.samples ev.sample_count

-- ---- what is read
-- The exact wave of a bit weighs 25 for a 1 and 24 for a 0.
abbrev pub clean_weight : Bool → ℕ
clean_weight true = 25
clean_weight false = 24

-- the weights of the bits, one after the other
unfoldable pub clean_weights : List Bool → List ℕ
clean_weights [] = []
clean_weights (b ∷ bs) = clean_weight b ∷ clean_weights bs

-- the weights of a frame: of its start bit, which is a 1, and of its bits
unfoldable pub frame_weights : List Bool → List ℕ
frame_weights frame = clean_weights (true ∷ frame)

-- If the maximum is at least the frame's length, phase 0 reads the start bit and the frame's bits, and no others.
abbrev pub ReadAtPhase0 : List Bool → RxCompletedEvent → Type 0
ReadAtPhase0 frame ev = (most : ℕ) → length frame ≤ most → bits_of (window_in ev) most (pos 0) ≡ weighed (frame_weights frame)

-- A search that prefers the frame's length, of 3 bits or more, finds that decode in one step.
abbrev pub FoundInOneStep : List Bool → RxCompletedEvent → Type 0
FoundInOneStep frame ev =
    (preferred : BitLengths) → 3 ≤ length frame → length frame ≤ 32 → holds preferred (length frame) ≡ true
    → run_of (new_of preferred) (window_in ev) ≡ record { found = Some (decode_of (pos 0) (weighed (frame_weights frame))); steps = 1 }

-- the score of a frame: 25 for each 1, with the start bit among them, and 24 for each 0
abbrev pub frame_score : List Bool → ℕ
frame_score frame = score_of (frame_weights frame)

-- the frame kind that stands for a frame, with its bytes
unfoldable pub kind_of : Frame → SniffedFrame
kind_of (bits_8 first) = Backward8 first
kind_of (bits_16 first second) = Forward16 (first * 256 + second)
kind_of (bits_24 first second third) = Forward24 first second third

-- The sniffed reading of the event gives the frame at phase 0 with the frame's score, and its search takes one step. The backward reading gives the
-- byte of a frame of 8 bits.
pub record ReadAs (frame : Frame) (ev : RxCompletedEvent) : Type 0 where
  pub sniffed : sniffed_of (found_in ev) ≡ record { frame = kind_of frame; phase_ticks = pos 0; score = frame_score (frame_bits frame) }
  pub one_step : (run_of (new_of sniffed_lengths) (window_in ev)).steps ≡ 1
  pub backward : (byte : ℕ) → frame ≡ bits_8 byte → byte_in (searched_in backward_lengths ev) ≡ Some byte

-- ---- what is held
-- The station is Idle and has a capture ready, which is read as these bits, or as this frame.
abbrev pub HasBits : List Bool → DaliBitbangPhy → Type 0
HasBits frame s = IsIdle s × IsReady s × ReadAtPhase0 frame (taken s) × FoundInOneStep frame (taken s)

abbrev pub HasFrame : Frame → DaliBitbangPhy → Type 0
HasFrame frame s = IsIdle s × IsReady s × ReadAs frame (taken s)
