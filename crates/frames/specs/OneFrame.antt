-- Document 01, "The wave" (demand 2): a wave is the wave of one frame only, and a reading the reading of one frame only. Assumes nothing.
use Rattle.std.specs.Prelude.{ℕ, Bool, List, ◌≡◌}
use Rattle.halfbits.specs.Frame.{Frame, bytes_of, frame_bits, AreBytes}
use Rattle.halfbits.specs.Wave.{level_at}
use Rattle.halfbits.specs.HalfBits.{buffer_of}
use Rattle.frames.specs.ReadAs.{kind_of}

-- Both rows of bits give the same level at every tick, also past the last bit.
abbrev pub OneWave : List Bool → List Bool → Type 0
OneWave these those = (tick : ℕ) → level_at these tick ≡ level_at those tick

-- Two rows of bits with the same wave are equal: as many bits, and the same ones.
abbrev pub OneWaveOneRow : Type 0
OneWaveOneRow = (these those : List Bool) → OneWave these those → these ≡ those

-- Two frames are equal if they have the same wave, if they have the same half-bits, or if they are read alike.
abbrev pub OneWaveOneFrame : Type 0
OneWaveOneFrame =
    (this that : Frame) → AreBytes (bytes_of this) → AreBytes (bytes_of that) → OneWave (frame_bits this) (frame_bits that) → this ≡ that

abbrev pub OneStoreOneFrame : Type 0
OneStoreOneFrame =
    (this that : Frame) → AreBytes (bytes_of this) → AreBytes (bytes_of that) → buffer_of (frame_bits this) ≡ buffer_of (frame_bits that) → this ≡ that

abbrev pub OneReadingOneFrame : Type 0
OneReadingOneFrame = (this that : Frame) → AreBytes (bytes_of this) → AreBytes (bytes_of that) → kind_of this ≡ kind_of that → this ≡ that
