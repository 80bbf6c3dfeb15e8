-- Document 01, "The wave": what the private functions promise. No public promise cites this file. Assumes nothing.
use Rattle.std.specs.Prelude.{ℕ, ◌-◌, ◌*◌, ◌/◌, ◌%◌, ◌^◌, Bool, List}
use Rattle.laws.specs.Bit.{bit}
use Rattle.laws.specs.Packed.{packed}
use Rattle.laws.specs.Tabulate.{tabulate}
use Rattle.halfbits.specs.HalfBits.{pulls}

-- the 56 half-bits of the store as one number, the first on top
unfoldable pub half_bits : List Bool → ℕ
half_bits row = packed 2 56 (λ j. bit (pulls row j))

-- byte i of this number
abbrev pub byte_in : ℕ → ℕ → ℕ
byte_in n i = n / 2 ^ (48 - 8 * i) % 256

-- its seven bytes
unfoldable pub bytes_in : ℕ → List ℕ
bytes_in n = tabulate 7 (byte_in n)
