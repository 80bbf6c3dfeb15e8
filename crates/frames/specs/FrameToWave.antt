-- Document 01, "The wave" (demand 2): from frame to wave. Assumes nothing.
use Rattle.std.specs.Prelude.{ℕ, Bool, true, List, ◌≡◌}
use Rattle.halfbits.specs.Frame.{frame_bits}
use Rattle.halfbits.specs.HalfBits.{buffer_of}
use Rattle.halfbits.specs.Encoding.{is_bit_count, frame_of, encoded_of}
use Rattle.fsm.specs.declared.DaliBitbangPhy.{DaliBitbangPhy}
use Rattle.station_theorems.specs.Calls.{Reached}
use Rattle.frames.specs.Sends.{Start, MayStart, FitsBuffer, handed_out, Sent}

-- A reached station that may start takes the start and sends any bits that fit the buffer.
abbrev pub BitsToWave : Type 0
BitsToWave =
    (row : List Bool) → FitsBuffer row → (s : DaliBitbangPhy) → Reached s → (by : Start) → MayStart by s → Sent by s (buffer_of row) row

-- So it sends any frame of 8, 16 or 24 bits as the encoder wrote it.
abbrev pub FrameToWave : Type 0
FrameToWave =
    (bits first second third : ℕ) → is_bit_count bits ≡ true → (s : DaliBitbangPhy) → Reached s → (by : Start) → MayStart by s
    → let frame = frame_of bits first second third in Sent by s (handed_out (encoded_of bits frame)) (frame_bits frame)
