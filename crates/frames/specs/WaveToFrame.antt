-- Document 01, "The wave" (demand 2): from wave to frame. Assumes nothing.
use Rattle.std.specs.Prelude.{ℕ, Bool, List}
use Rattle.halfbits.specs.Frame.{Frame, bytes_of, frame_bits, AreBytes}
use Rattle.halfbits.specs.Wave.{level_at}
use Rattle.fsm.specs.declared.DaliBitbangPhy.{DaliBitbangPhy}
use Rattle.station_theorems.specs.Calls.{Reached}
use Rattle.station_theorems.specs.Ticks.{IsIdle, after_levels}
use Rattle.frames.specs.ReadAs.{Whole, FitsCapture, HasBits, HasFrame}

-- A reached station in Idle that hears a wave whole has the wave's bits in its capture, also if it was debouncing before.
abbrev pub WaveToBits : Type 0
WaveToBits =
    (frame : List Bool) → FitsCapture frame → (s : DaliBitbangPhy) → Reached s → IsIdle s → (ticks : ℕ) → Whole frame ticks
    → HasBits frame (after_levels ticks (level_at frame) s)

-- So the capture of a frame of 8, 16 or 24 bits is read as that frame.
abbrev pub WaveToFrame : Type 0
WaveToFrame =
    (frame : Frame) → AreBytes (bytes_of frame) → (s : DaliBitbangPhy) → Reached s → IsIdle s → (ticks : ℕ) → Whole (frame_bits frame) ticks
    → HasFrame frame (after_levels ticks (level_at (frame_bits frame)) s)
