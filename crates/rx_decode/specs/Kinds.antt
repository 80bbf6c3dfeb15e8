-- Document 01, "Reading": what each frame kind says about the decode. Assumes nothing.
use Rattle.std.specs.Prelude.{ℕ, ◌/◌, ◌%◌, List, [], ◌∷◌, ◌≡◌, Option, Some, None}
use Rattle.laws.specs.Tabulate.{tabulate}
use Rattle.window.specs.declared.PhaseDecode.{PhaseDecode}
use Rattle.rx_decode.specs.declared.SniffedFrame.{SniffedFrame}
use Rattle.rx_decode.specs.declared.SniffedFrame.TheVariants.{Forward16, Backward8, Forward24, UnsupportedLength, DecodeFailed}
use Rattle.rx_decode.specs.Reading.{byte_of}

-- There is a decode of `bits` bits, and its first bytes are `bytes`.
unfoldable pub IsFrame : ℕ → List ℕ → Option PhaseDecode → Type 0
IsFrame bits bytes found = (d : PhaseDecode) × (found ≡ Some d) × (d.bit_len ≡ bits) × (tabulate (bits / 8) (byte_of d.«data») ≡ bytes)

-- There is a decode of `bits` bits, and no frame has that many.
unfoldable pub IsOther : ℕ → Option PhaseDecode → Type 0
IsOther bits found = (d : PhaseDecode) × (found ≡ Some d) × (d.bit_len ≡ bits) × (bits ≡ 8 → ⊥) × (bits ≡ 16 → ⊥) × (bits ≡ 24 → ⊥)

-- A frame says the length and the bytes of the decode. UnsupportedLength says only a length, which no frame has. DecodeFailed says that there is no
-- decode.
unfoldable pub SaysFrame : SniffedFrame → Option PhaseDecode → Type 0
SaysFrame (Backward8 byte) found = IsFrame 8 (byte ∷ []) found
SaysFrame (Forward16 word) found = IsFrame 16 (word / 256 ∷ word % 256 ∷ []) found
SaysFrame (Forward24 first second third) found = IsFrame 24 (first ∷ second ∷ third ∷ []) found
SaysFrame (UnsupportedLength bits) found = IsOther bits found
SaysFrame DecodeFailed found = found ≡ None

-- A backward byte is the byte of a decode of 8 bits. None says that there is no such decode.
unfoldable pub SaysByte : Option ℕ → Option PhaseDecode → Type 0
SaysByte (Some byte) found = IsFrame 8 (byte ∷ []) found
SaysByte None found = (byte : ℕ) → IsFrame 8 (byte ∷ []) found → ⊥
