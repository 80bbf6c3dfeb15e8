-- Document 01, "The wave" (demand 2): from frame to wave and from wave to frame, while a host makes calls between the ticks. Assumes nothing.
use Rattle.std.specs.Prelude.{ℕ, Bool, true, List, [], ◌≡◌, length}
use Rattle.halfbits.specs.declared.HalfBitBuffer.{HalfBitBuffer}
use Rattle.halfbits.specs.Frame.{Frame, bytes_of, frame_bits, AreBytes}
use Rattle.halfbits.specs.Wave.{level_at}
use Rattle.halfbits.specs.HalfBits.{buffer_of}
use Rattle.halfbits.specs.Encoding.{is_bit_count, frame_of, encoded_of}
use Rattle.fsm.specs.declared.DaliBitbangPhy.{DaliBitbangPhy}
use Rattle.std.specs.declared.result.Result.TheVariants as result
use Rattle.station_theorems.specs.Calls.{Reached}
use Rattle.station_theorems.specs.Ticks.{IsIdle, after_levels, alone}
use Rattle.frames.specs.Sends.{Start, started_by, MayStart, FitsBuffer, handed_out, SendsAt}
use Rattle.frames.specs.ReadAs.{Whole, FitsCapture, HasBits, HasFrame}
use Rattle.frames.specs.Hosts.{Host, after_levels_amid, alone_amid, LetsSend, LetsHear}

-- Each statement speaks of the station after a tick and after all calls that the host makes before the next one. A host that stops after some of
-- these calls is a host too, so the statement also holds between them: a poll or a take there gets the answer that the statement gives.

-- ---- from frame to wave
-- The start is not refused, and the station sends the frame amid the host's calls.
abbrev pub SentAmid : Host → Start → DaliBitbangPhy → HalfBitBuffer → List Bool → Type 0
SentAmid host by s hb row = ((started_by by s hb).answer ≡ result.Ok tt) × SendsAt row (alone_amid host) (started_by by s hb).station

-- A reached station that may start sends any bits that fit the buffer, if the host lets it.
abbrev pub BitsToWaveAmid : Type 0
BitsToWaveAmid =
    (row : List Bool) → FitsBuffer row → (s : DaliBitbangPhy) → Reached s → (by : Start) → MayStart by s
    → (host : Host) → LetsSend (length row) host → SentAmid host by s (buffer_of row) row

-- So it sends any frame of 8, 16 or 24 bits as the encoder wrote it.
abbrev pub FrameToWaveAmid : Type 0
FrameToWaveAmid =
    (bits first second third : ℕ) → is_bit_count bits ≡ true → (s : DaliBitbangPhy) → Reached s → (by : Start) → MayStart by s
    → (host : Host) → LetsSend bits host
    → let frame = frame_of bits first second third in SentAmid host by s (handed_out (encoded_of bits frame)) (frame_bits frame)

-- ---- from wave to frame
-- A reached station in Idle that hears a wave whole has the wave's bits in its capture, if the host lets it.
abbrev pub WaveToBitsAmid : Type 0
WaveToBitsAmid =
    (frame : List Bool) → FitsCapture frame → (s : DaliBitbangPhy) → Reached s → IsIdle s → (host : Host) → LetsHear frame host
    → (ticks : ℕ) → Whole frame ticks → HasBits frame (after_levels_amid host ticks (level_at frame) s)

-- So the capture of a frame of 8, 16 or 24 bits is read as that frame.
abbrev pub WaveToFrameAmid : Type 0
WaveToFrameAmid =
    (frame : Frame) → AreBytes (bytes_of frame) → (s : DaliBitbangPhy) → Reached s → IsIdle s → (host : Host) → LetsHear (frame_bits frame) host
    → (ticks : ℕ) → Whole (frame_bits frame) ticks → HasFrame frame (after_levels_amid host ticks (level_at (frame_bits frame)) s)

-- ---- a host that makes no call
abbrev pub no_calls : Host
no_calls ticks = []

-- With this host the station is the same as after the ticks alone.
abbrev pub NoCalls : Type 0
NoCalls =
    (ticks : ℕ) (s : DaliBitbangPhy)
    → (alone_amid no_calls ticks s ≡ alone ticks s) × ((level : ℕ → Bool) → after_levels_amid no_calls ticks level s ≡ after_levels ticks level s)
