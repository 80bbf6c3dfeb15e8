-- Document 01, "The wave": the bit rule, and the wave of a frame as the levels of its ticks. Assumes nothing.
use Rattle.std.specs.Prelude.{ℕ, Bool, true, false, List, [], ◌∷◌, ◌++◌, get_or, replicate}

-- At each tick the line is high (true) or low (false).
abbrev pub high : Bool
high = true

abbrev pub low : Bool
low = false

-- A half-bit lasts four ticks.
abbrev pub four : Bool → List Bool
four level = replicate 4 level

-- A logical 1 rises in its middle: it is low first and then high. A logical 0 falls: it is high first and then low.
unfoldable pub bit_wave : Bool → List Bool
bit_wave true = four low ++ four high
bit_wave false = four high ++ four low

-- the waves of these bits, one after the other
unfoldable pub bit_waves : List Bool → List Bool
bit_waves [] = []
bit_waves (b ∷ bs) = bit_wave b ++ bit_waves bs

-- The wave of a frame begins with the start bit, a logical 1.
unfoldable pub wave_of : List Bool → List Bool
wave_of row = bit_waves (true ∷ row)

-- The level at a tick of the wave. From the end of the last bit on it is high.
unfoldable pub level_at : List Bool → ℕ → Bool
level_at row tick = get_or (wave_of row) tick high
