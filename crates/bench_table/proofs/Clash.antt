-- The rows of the clash of 16 bits of 0000 with 8000. Assumes nothing.
use Prim.Native.Nat.{ℕ, zero, suc, ◌<◌}
use native.Mathlib.Omega.{arith}
use mathlib.Core.Bool.{true, false, false≢true}
use mathlib.Core.Logic.{inl}
use mathlib.Core.Path.{◌≡◌, refl, sym, ◌∙◌}
use Rattle.laws.specs.Packed.{packed}
use Rattle.laws.specs.Pick.{pick}
use Rattle.laws.specs.Tabulate.{tabulate}
use Rattle.halfbits.specs.Frame.{bytes_of, bit_at, bits_of}
use Rattle.halfbits.specs.Wave.{high, low, bit_wave, bit_waves, wave_of, level_at}
use Rattle.halfbits.specs.HalfBits.{pulls, store_of, buffer_of}
use Rattle.halfbits.specs.Encoding.{is_bit_count, frame_of, encoded_of}
use Rattle.bench_line.specs.Line.{new_line_of}
use Rattle.frames.specs.Sends.{by_start_tx}
use Rattle.line_theorems.specs.OnLine.{buffer_in, Breaks}
use Rattle.line_theorems.specs.TwoSenders.{Pair, both_on, pulls_in, FirstDifference}
use Rattle.line_theorems.proofs.DifferentFrames.{clash_ticks}
use Rattle.line_theorems.proofs.Senders.{new_all_idle, two_reached, is_16, watching}
use Rattle.bench_table.specs.Table.{zeros, eighty}

pair : Pair (new_line_of 2) zeros eighty
unfolding new_line_of
pair = record {
  one = is_16 (new_line_of 2) 0 by_start_tx 0 0 (omega arith) (omega arith) (omega arith);
  other = is_16 (new_line_of 2) 1 by_start_tx 0x80 0 (omega arith) (omega arith) (omega arith);
  one_watches = watching 2 zeros (inl refl);
  other_watches = watching 2 eighty (inl refl);
  apart = λ e. let none : ⊥ = omega (arith, e) in none;
}

-- both stores, as far as it matters: the start, the bit in which they differ, and what follows
as_written : (pulls_in (buffer_in zeros) 0 ≡ pulls_in (buffer_in eighty) 0) × (pulls_in (buffer_in zeros) 1 ≡ pulls_in (buffer_in eighty) 1)
    × (pulls_in (buffer_in zeros) 2 ≡ false) × (pulls_in (buffer_in eighty) 2 ≡ true) × (pulls_in (buffer_in eighty) 3 ≡ false)
unfolding pulls_in encoded_of is_bit_count frame_of buffer_of store_of tabulate packed pulls level_at wave_of bit_waves bit_wave bits_of bytes_of bit_at pick
as_written = (refl, refl, refl, refl, refl)

differ_at_2 : FirstDifference (buffer_in zeros) (buffer_in eighty) 2
differ_at_2 = record { same = before; differs = λ e. false≢true (sym as_written.2 ∙ e ∙ as_written.3) }
  where
    before : (i : ℕ) → i < 2 → pulls_in (buffer_in zeros) i ≡ pulls_in (buffer_in eighty) i
    before zero h = as_written.0
    before (suc zero) h = as_written.1
    before (suc (suc i)) h = absurd (let none : ⊥ = omega arith in none)

pub zeros_against_eighty : let line = both_on (new_line_of 2) zeros eighty in Breaks line 0 14 low × Breaks line 1 18 high
unfolding pick
zeros_against_eighty =
    let (_, _, releases, pulls, next) = as_written in
    let (one, other) = clash_ticks (new_line_of 2) two_reached (new_all_idle 2) zeros eighty pair 2 differ_at_2 in
    (rw releases at one, rw (pulls, next) at other)
