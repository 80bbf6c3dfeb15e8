-- Document 01, "Window" and "One phase": what the private functions promise. No public promise cites this file. Assumes nothing.
use Rattle.std.specs.Prelude.{ℕ, ◌+◌, ◌-◌, ◌*◌, ◌/◌, ◌%◌, ◌^◌, min, ltb, eqb, ℤ, length, slice_get, Option, Some, None}
use Rattle.std.proofs.Math.IntN.{sub_ℕ}
use Rattle.laws.specs.Packed.{packed}
use Rattle.laws.specs.Pick.{pick}
use Rattle.window.specs.declared.SampleWindow.{SampleWindow}
use Rattle.window.specs.declared.PeekStop.{PeekStop}
use Rattle.window.specs.declared.PeekStop.TheVariants as stop
use Rattle.window.specs.declared.BitPeeks.{BitPeeks}
use Rattle.window.specs.declared.PeekAround.{PeekAround}
use Rattle.window.specs.declared.Reading.{Reading}
use Rattle.window.specs.Window.{tick_at, peek_at}
use Rattle.window.specs.Phase.{peek_of, weight_around, stride_around, PhaseBits, failed, weighed, score_of, stored_bits, data_bit}

-- byte k of the window, none past the pad
unfoldable pub byte_at : SampleWindow → ℕ → Option ℕ
byte_at w k = pick (ltb k w.len) (slice_get w.bytes k) None

-- ten ticks from position p on as one number, the first on top
unfoldable pub ten_ticks : SampleWindow → ℕ → ℕ
ten_ticks w p = packed 2 10 (λ (i : ℕ). tick_at w (p + i))

-- The three peeks of the bit at `at`. The code counts this position from 128 ticks before the start.
unfoldable pub peeks_of : SampleWindow → ℕ → BitPeeks
peeks_of w at = record { centre = peek_at w (sub_ℕ at 128); early = peek_at w (sub_ℕ (at - 1) 128); late = peek_at w (sub_ℕ (at + 1) 128) }

-- the stop for a late peek: Idle ends the phase, Held makes it fail, None lets it go on
unfoldable pub stop_of : ℕ → PeekStop
stop_of sample = pick (eqb sample 255) stop.Idle (pick (eqb sample 0) stop.Held stop.None)

-- the weight of the bit at position p, the stride to the next bit, and the stop by the late peek
unfoldable pub around_of : SampleWindow → ℤ → ℕ → PeekAround
around_of w phase p =
    record { weightmax = weight_around w phase p; pmax = stride_around w phase p; stop = stop_of (peek_of w phase (p + 1)) }

-- what a phase has read, by its fields
abbrev pub reading : ℕ → ℕ → ℕ → Reading
reading len score v = record { bit_len = len; score = score; bits = v }

-- what the code keeps of a phase's bits: how many there are, their score, and the stored ones as one number
unfoldable pub summary_of : PhaseBits → Option Reading
summary_of failed = None
summary_of (weighed weights) = Some (reading (length weights) (score_of weights) (packed 2 (stored_bits weights) (data_bit weights)))

-- how many of `len` bits are stored: all but the start bit, 64 at most
abbrev pub stored_of : ℕ → ℕ
stored_of len = min (len - 1) 64

-- The stored bits with one more, a 1 if its weight is odd. Neither the start bit nor a data bit past the 64th is stored.
unfoldable pub pushed_of : ℕ → ℕ → ℕ → ℕ
pushed_of v len weight = pick (eqb len 0) v (pick (ltb 64 len) v (v * 2 + weight % 2))

-- The n stored bits, eight to a byte, the first byte on top. If the last byte is part-filled, its bits are the low ones.
unfoldable pub placed_of : ℕ → ℕ → ℕ
placed_of v n =
    let whole = (n - 1) / 8 * 8 in
    let rest = n - whole in
    (v / 2 ^ rest * 256 + v % 2 ^ rest) * 2 ^ (56 - whole)
