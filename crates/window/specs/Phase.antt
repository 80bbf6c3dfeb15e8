-- Document 01, "One phase": the bits that a phase reads in a window, and the decode that it reports. Assumes nothing.
use Rattle.std.specs.Prelude.{ℕ, zero, suc, ◌+◌, ◌-◌, ◌*◌, ◌%◌, max, min, List, [], ◌∷◌, ltb, leb, eqb, ℤ, pos, ◌+ℤ◌, length, get_or}
use Rattle.laws.specs.Packed.{packed}
use Rattle.laws.specs.Pick.{pick}
use Rattle.weight.specs.Weight.{weight_of}
use Rattle.window.specs.declared.SampleWindow.{SampleWindow}
use Rattle.window.specs.declared.PhaseDecode.{PhaseDecode}
use Rattle.window.specs.Window.{sample_bits, peek_at}

-- ---- one bit
-- A phase shifts every peek by its ticks.
abbrev pub peek_of : SampleWindow → ℤ → ℕ → ℕ
peek_of w phase p = peek_at w (pos p +ℤ phase)

-- Each bit has three peeks. The centre peek is at the bit's position.
abbrev pub centre : SampleWindow → ℤ → ℕ → ℕ
centre w phase p = weight_of (peek_of w phase p)

-- The early peek is a tick before it.
abbrev pub early : SampleWindow → ℤ → ℕ → ℕ
early w phase p = weight_of (peek_of w phase (p - 1))

-- The late peek is a tick after it.
abbrev pub late : SampleWindow → ℤ → ℕ → ℕ
late w phase p = weight_of (peek_of w phase (p + 1))

-- A bit weighs as much as the heaviest of its three peeks.
unfoldable pub weight_around : SampleWindow → ℤ → ℕ → ℕ
weight_around w phase p = max (max (centre w phase p) (early w phase p)) (late w phase p)

-- The heaviest peek sets the stride to the next bit: 8 ticks for the centre, 7 for the early peek, 9 for the late one. On a tie the centre wins over
-- the early peek, and both win over the late one.
unfoldable pub stride_of : ℕ → ℕ → ℕ → ℕ
stride_of c e l = pick (ltb (max c e) l) 9 (pick (ltb c e) 7 8)

-- the stride from the bit at position p to the next one
unfoldable pub stride_around : SampleWindow → ℤ → ℕ → ℕ
stride_around w phase p = stride_of (centre w phase p) (early w phase p) (late w phase p)

-- ---- the bits of a phase
-- What a phase reads: the weights of its bits, the start bit's first, or `failed` if it fails.
pub data PhaseBits : Type 0 where
  failed : PhaseBits
  weighed : List ℕ → PhaseBits

-- One bit in front of the later ones. If the phase fails at a later bit, it has failed.
abbrev pub after : ℕ → PhaseBits → PhaseBits
after weight failed = failed
after weight (weighed weights) = weighed (weight ∷ weights)

-- The bits from position p on, after the phase has read `len` bits. It reads one more only if the position after p is below the sample bits and `len`
-- is not above the maximum (`most`). Then the late peek, and no other, can still stop it: at 0xFF the phase is over, at 0x00 it fails. (`left` bounds
-- the bits still to come; `SeventyThreeBits` says that the bound cuts none off.)
unfoldable pub bits_from : ℕ → SampleWindow → ℕ → ℤ → ℕ → ℕ → PhaseBits
bits_from zero w most phase p len = weighed []
bits_from (suc left) w most phase p len =
    pick (ltb (p + 1) (sample_bits w))
    (pick (leb len most)
    (pick (eqb (peek_of w phase (p + 1)) 255) (weighed [])
    (pick (eqb (peek_of w phase (p + 1)) 0) failed
    (after (weight_around w phase p) (bits_from left w most phase (p + stride_around w phase p) (len + 1)))))
    (weighed []))
    (weighed [])

-- The first bit is at position 1. Every stride is 7 ticks or more, so the 512 ticks of a full window have room for 73 bits.
unfoldable pub bits_of : SampleWindow → ℕ → ℤ → PhaseBits
bits_of w most phase = bits_from 73 w most phase 1 0

-- ---- what the phase reports
-- The length leaves the start bit out, unless that is the only bit.
unfoldable pub length_of : List ℕ → ℕ
length_of weights = pick (ltb 1 (length weights)) (length weights - 1) (length weights)

-- The score is the sum of all weights.
unfoldable pub score_of : List ℕ → ℕ
score_of [] = 0
score_of (weight ∷ weights) = weight + score_of weights

-- Data bit 0 is the one after the start bit. An odd weight reads as 1, an even one as 0.
abbrev pub data_bit : List ℕ → ℕ → ℕ
data_bit weights j = get_or weights (j + 1) 0 % 2

-- The decode stores the first 64 data bits. The start bit is none of them.
abbrev pub stored_bits : List ℕ → ℕ
stored_bits weights = min (length weights - 1) 64

-- Eight data bits make a byte. A part-filled byte is the number that its few bits make.
abbrev pub data_byte : List ℕ → ℕ → ℕ
data_byte weights i = packed 2 (min 8 (stored_bits weights - i * 8)) (λ (j : ℕ). data_bit weights (i * 8 + j))

-- The eight data bytes as one number, the first byte on top.
unfoldable pub data_of : List ℕ → ℕ
data_of weights = packed 256 8 (data_byte weights)

-- A phase that fails reports length 0, score 0 and no data. Any other reports what it read.
unfoldable pub decode_of : ℤ → PhaseBits → PhaseDecode
decode_of phase failed = record { bit_len = 0; phase_ticks = phase; score = 0; «data» = 0 }
decode_of phase (weighed weights) =
    record { bit_len = length_of weights; phase_ticks = phase; score = score_of weights; «data» = data_of weights }

-- the decode of a window at one phase, with a maximum of `most`
unfoldable pub phase_of : SampleWindow → ℕ → ℤ → PhaseDecode
phase_of w most phase = decode_of phase (bits_of w most phase)
