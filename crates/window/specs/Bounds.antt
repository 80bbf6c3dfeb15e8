-- Document 01, "Window" and "One phase", as statements about their edges: what the pad reads as, what comes before an empty capture, that the two
-- bounds in the definitions cut nothing off, and that the two empty windows decode alike. Assumes nothing.
use Rattle.std.specs.Prelude.{ℕ, ◌+◌, ◌*◌, ◌≤◌, List, ◌≡◌, ℤ, pos, negsuc, length}
use Rattle.window.specs.declared.SampleWindow.{SampleWindow}
use Rattle.window.specs.Window.{window_of, empty_window, sample_bits, level_before, peek_at}
use Rattle.window.specs.Phase.{bits_from, bits_of, phase_of}

-- The pad is all ones, and zeros follow it. So a peek that begins at the pad's second tick reads 0xFE.
abbrev pub PadReadsAsFE : Type 0
PadReadsAsFE = (samples : List ℕ) (count : ℕ) → count ≤ 64 → count ≤ length samples → peek_at (window_of samples count) (pos (count * 8 + 1)) ≡ 0xFE

-- Every position before an empty capture reads 1, as its pad does.
abbrev pub HighBeforeNothing : Type 0
HighBeforeNothing = (samples : List ℕ) (k : ℕ) → level_before (window_of samples 0) (negsuc k) ≡ 1

-- No window that can be made has more than 512 sample bits, so `sample_bits` cuts none off.
abbrev pub AllSampleBits : Type 0
AllSampleBits =
    ((samples : List ℕ) (count : ℕ) → sample_bits (window_of samples count) ≡ (window_of samples count).bits)
    × (sample_bits empty_window ≡ empty_window.bits)

-- No phase reads more than 73 bits: with any larger bound `bits_from` reads the same.
abbrev pub SeventyThreeBits : Type 0
SeventyThreeBits = (w : SampleWindow) (most : ℕ) (phase : ℤ) (more : ℕ) → bits_from (73 + more) w most phase 1 0 ≡ bits_of w most phase

-- The fixed empty window has no pad, and the window of an empty capture has one. Every phase decodes both alike.
abbrev pub EmptyWindows : Type 0
EmptyWindows = (samples : List ℕ) (most : ℕ) (phase : ℤ) → phase_of empty_window most phase ≡ phase_of (window_of samples 0) most phase
