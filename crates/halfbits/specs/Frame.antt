-- Document 01, "The wave": a frame and its bits. Assumes nothing.
use Rattle.std.specs.Prelude.{ℕ, ◌-◌, ◌*◌, ◌/◌, ◌%◌, ◌^◌, ◌<◌, Bool, List, [], ◌∷◌, eqb, length, get_or}
use Rattle.laws.specs.Tabulate.{tabulate}

-- A frame is one, two or three bytes, in the order in which a station sends them.
pub data Frame : Type 0 where
  bits_8 : ℕ → Frame
  bits_16 : ℕ → ℕ → Frame
  bits_24 : ℕ → ℕ → ℕ → Frame

-- the bytes in that order
unfoldable pub bytes_of : Frame → List ℕ
bytes_of (bits_8 first) = first ∷ []
bytes_of (bits_16 first second) = first ∷ second ∷ []
bytes_of (bits_24 first second third) = first ∷ second ∷ third ∷ []

-- Bit i in the order of sending: byte after byte, and each from its top bit down.
unfoldable pub bit_at : List ℕ → ℕ → Bool
bit_at bytes i = eqb (get_or bytes (i / 8) 0 / 2 ^ (7 - i % 8) % 2) 1

-- all bits of some bytes in that order
unfoldable pub bits_of : List ℕ → List Bool
bits_of bytes = tabulate (8 * length bytes) (bit_at bytes)

-- the data bits of a frame, without the start bit
abbrev pub frame_bits : Frame → List Bool
frame_bits frame = bits_of (bytes_of frame)

-- every number in the list is below 256
abbrev pub AreBytes : List ℕ → Type 0
AreBytes bytes = (i : ℕ) → get_or bytes i 0 < 256
