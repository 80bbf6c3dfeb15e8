-- The definitions, computed: the wave of a single bit, and the byte 0x01 in a lent buffer. Assumes nothing.
use Prim.Native.Nat.{ℕ}
use mathlib.Core.Bool.{false}
use mathlib.Core.List.{List, [], ◌∷◌, ◌++◌}
use mathlib.Core.Path.{◌≡◌, refl}
use lib.ListN.{replicate}
use Rattle.laws.specs.Packed.{packed}
use Rattle.laws.specs.Pick.{pick}
use Rattle.laws.specs.Tabulate.{tabulate}
use Rattle.halfbits.specs.Frame.{bits_8, bytes_of, bit_at, bits_of}
use Rattle.halfbits.specs.Wave.{high, low, bit_wave, bit_waves, wave_of, level_at}
use Rattle.halfbits.specs.HalfBits.{pulls, store_of}
use Rattle.halfbits.specs.Encoding.{is_bit_count, written_to}

-- the start, and a logical 0
pub wave_of_a_0 : wave_of (false ∷ []) ≡ low ∷ low ∷ low ∷ low ∷ high ∷ high ∷ high ∷ high ∷ high ∷ high ∷ high ∷ high ∷ low ∷ low ∷ low ∷ low ∷ []
unfolding wave_of bit_waves bit_wave
wave_of_a_0 = refl

abbrev store : List ℕ
store = 0x95 ∷ 0x55 ∷ 0x80 ∷ 0 ∷ 0 ∷ 0 ∷ 0 ∷ []

-- a lent buffer of nine bytes keeps its last two
pub byte_01_written : written_to 8 (bits_8 1) (replicate 9 0xAA) ≡ store ++ (0xAA ∷ 0xAA ∷ [])
unfolding written_to is_bit_count store_of pulls level_at wave_of bit_waves bit_wave bits_of bit_at bytes_of packed tabulate pick
byte_01_written = refl
