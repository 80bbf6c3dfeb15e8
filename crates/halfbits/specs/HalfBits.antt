-- Document 01, "The wave": half-bits, and the store that holds them. Assumes nothing.
use Rattle.std.specs.Prelude.{ℕ, ◌+◌, ◌*◌, ◌/◌, Bool, not, List, ◌≡◌, length}
use Rattle.laws.specs.Bit.{bit}
use Rattle.laws.specs.Packed.{packed}
use Rattle.laws.specs.Tabulate.{tabulate}
use Rattle.halfbits.specs.declared.HalfBitBuffer.{HalfBitBuffer}
use Rattle.halfbits.specs.Wave.{level_at}

-- Half-bit j is four ticks of the wave. It pulls the line low, or it releases the line.
unfoldable pub pulls : List Bool → ℕ → Bool
pulls row j = not (level_at row (4 * j))

-- The four ticks of a half-bit have one level, so the half-bits determine the whole wave.
abbrev pub HalfBitsAreTheWave : Type 0
HalfBitsAreTheWave = (row : List Bool) (tick : ℕ) → level_at row tick ≡ not (pulls row (tick / 4))

-- The store is seven bytes. Each bit is a half-bit, from the top bit of the first byte down, and a 1 pulls the line low. The half-bits after the last
-- bit are released, so the rest of the store is zero.
unfoldable pub store_of : List Bool → List ℕ
store_of row = tabulate 7 (λ i. packed 2 8 (λ j. bit (pulls row (8 * i + j))))

-- The start bit and each data bit have two half-bits. Four released ones follow.
abbrev pub half_bits_of : ℕ → ℕ
half_bits_of bits = 2 * (1 + bits) + 4

-- the store of some data bits, with its length in half-bits
unfoldable pub buffer_of : List Bool → HalfBitBuffer
buffer_of row = record { «data» = store_of row; length = half_bits_of (length row) }
