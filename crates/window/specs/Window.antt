-- Document 01, "Window": the window over a capture's samples, and the peek at eight of its ticks. Assumes nothing.
use Rattle.std.specs.Prelude.{ℕ, ◌+◌, ◌-◌, ◌*◌, ◌/◌, ◌%◌, ◌^◌, min, List, ◌∷◌, ◌++◌, ltb, ℤ, pos, negsuc, ◌+ℤ◌, get_or, take, replicate}
use Rattle.laws.specs.Packed.{packed}
use Rattle.laws.specs.Pick.{pick}
use Rattle.window.specs.declared.SampleWindow.{SampleWindow}

-- a window by its fields: its 66 bytes, how many of them are samples or the pad, and how many bits the samples have
abbrev pub window_with : List ℕ → ℕ → ℕ → SampleWindow
window_with bytes len bits = record { bytes = bytes; len = len; bits = bits }

-- The window of a capture has as many samples as the capture counts, 64 at most. The pad follows them, one byte of ones. All other bytes are zero.
unfoldable pub window_of : List ℕ → ℕ → SampleWindow
window_of samples count =
    let n = min count 64 in
    window_with (take n samples ++ (255 ∷ replicate (65 - n) 0)) (n + 1) (n * 8)

-- The fixed empty window has no samples, and no pad either.
unfoldable pub empty_window : SampleWindow
empty_window = window_with (replicate 66 0) 0 0

-- The sample bits of a window. A full one has 512.
abbrev pub sample_bits : SampleWindow → ℕ
sample_bits w = min w.bits 512

-- The level at position p of some bytes, 0 for low and 1 for high. Position 0 is the top bit of the first byte.
abbrev pub level_of : List ℕ → ℕ → ℕ
level_of bytes p = get_or bytes (p / 8) 0 / 2 ^ (7 - p % 8) % 2

-- The level at position p of a window. Past the pad it is 0.
unfoldable pub tick_at : SampleWindow → ℕ → ℕ
tick_at w p = pick (ltb (p / 8) w.len) (level_of w.bytes p) 0

-- What a peek that begins before the start reads at a position. Before the start it repeats the first tick. In an empty capture that is the pad's 1,
-- and a window without a pad reads 1 too. Past the last sample it reads 1.
unfoldable pub level_before : SampleWindow → ℤ → ℕ
level_before w (pos p) = pick (ltb p w.bits) (tick_at w p) 1
level_before w (negsuc k) = pick (ltb 0 w.len) (tick_at w 0) 1

-- A peek is the eight ticks from a position on as one byte, the first in its top bit. A peek that begins past the pad is 0xFF.
unfoldable pub peek_at : SampleWindow → ℤ → ℕ
peek_at w (pos p) = pick (ltb (p / 8) w.len) (packed 2 8 (λ (i : ℕ). tick_at w (p + i))) 255
peek_at w (negsuc k) = packed 2 8 (λ (i : ℕ). level_before w (negsuc k +ℤ pos i))
