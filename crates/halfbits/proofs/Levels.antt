-- The levels of a wave, bit by bit. Assumes nothing.
use mathlib.Core.Path.{◌≡◌, refl, sym, ◌∙◌, ap}
use mathlib.Core.Bool.{Bool, true, false, not}
use mathlib.Core.List.{List, [], ◌∷◌, ◌++◌}
use Prim.Native.Nat.{ℕ, zero, suc, ◌+◌, ◌-◌, ◌*◌, ◌/◌, ◌%◌, ◌<◌, ◌≤◌}
use native.Mathlib.Decide.{dec_lt}
use native.Mathlib.Omega.{arith}
use lib.ListN.{length, get_or, drop, get_or-replicate, get_or-append, drop_of_length-le}
use lib.Seq.{drop-cons, get_or-append-add}
use Rattle.halfbits.specs.Wave.{high, low, four, bit_wave, bit_waves, wave_of, level_at}
use Rattle.halfbits.specs.HalfBits.{pulls, HalfBitsAreTheWave}

-- ---- one bit
-- two halves of four ticks each
in_first : (a b : Bool) (more : List Bool) (t : ℕ) → t < 4 → get_or ((four a ++ four b) ++ more) t high ≡ a
in_first a b more t h = get_or-append (four a ++ four b) more high t (omega arith) ∙ get_or-append (four a) (four b) high t h ∙ get_or-replicate 4 t a high h

in_second : (a b : Bool) (more : List Bool) (t : ℕ) → t < 4 → get_or ((four a ++ four b) ++ more) (4 + t) high ≡ b
in_second a b more t h = get_or-append (four a ++ four b) more high (4 + t) (omega arith) ∙ get_or-append-add (four a) (four b) t high ∙ get_or-replicate 4 t b high h

first_half : (b : Bool) (more : List Bool) (t : ℕ) → t < 4 → get_or (bit_wave b ++ more) t high ≡ not b
unfolding bit_wave
first_half true more t h = in_first low high more t h
first_half false more t h = in_first high low more t h

second_half : (b : Bool) (more : List Bool) (t : ℕ) → t < 4 → get_or (bit_wave b ++ more) (4 + t) high ≡ b
unfolding bit_wave
second_half true more t h = in_second low high more t h
second_half false more t h = in_second high low more t h

-- ---- bit after bit
pub eight : (b : Bool) → length (bit_wave b) ≡ 8
unfolding bit_wave
eight true = refl
eight false = refl

from_bit : (bs : List Bool) (k t : ℕ) → get_or (bit_waves bs) (8 * k + t) high ≡ get_or (bit_waves (drop k bs)) t high
unfolding bit_waves
from_bit bs zero t = ap (λ p. get_or (bit_waves bs) p high) (let e : 8 * 0 + t ≡ t = omega arith in e)
from_bit [] (suc k) t = refl
from_bit (b ∷ bs) (suc k) t =
    let e : 8 * suc k + t ≡ length (bit_wave b) + (8 * k + t) = omega (arith, eight b) in
    ap (λ p. get_or (bit_wave b ++ bit_waves bs) p high) e
    ∙ get_or-append-add (bit_wave b) (bit_waves bs) (8 * k + t) high
    ∙ from_bit bs k t

-- bit k of a frame, the start being the first of all
abbrev pub bit_of : List Bool → ℕ → Bool
bit_of bits k = get_or (true ∷ bits) k true

module _ (bits : List Bool) (k t : ℕ) where
  at_bit : k ≤ length bits → level_at bits (8 * k + t) ≡ get_or (bit_wave (bit_of bits k) ++ bit_waves (drop (suc k) (true ∷ bits))) t high
  unfolding level_at wave_of bit_waves
  at_bit h = from_bit (true ∷ bits) k t ∙ ap (λ bs. get_or (bit_waves bs) t high) (drop-cons (true ∷ bits) k true (omega arith))

  pub in_bit : k ≤ length bits → t < 8 → level_at bits (8 * k + t) ≡ get_or (bit_wave (bit_of bits k)) t high
  in_bit h s = at_bit h ∙ get_or-append (bit_wave (bit_of bits k)) (bit_waves (drop (suc k) (true ∷ bits))) high t (omega (arith, eight (bit_of bits k)))

  pub first_level : k ≤ length bits → t < 4 → level_at bits (8 * k + t) ≡ not (bit_of bits k)
  first_level h s = at_bit h ∙ first_half (bit_of bits k) (bit_waves (drop (suc k) (true ∷ bits))) t s

  pub later_level : length bits < k → level_at bits (8 * k + t) ≡ high
  unfolding level_at wave_of bit_waves
  later_level h = from_bit (true ∷ bits) k t ∙ ap (λ bs. get_or (bit_waves bs) t high) (drop_of_length-le (true ∷ bits) {i = k} (omega arith))

pub second_level : (bits : List Bool) (k t : ℕ) → k ≤ length bits → t < 4 → level_at bits (8 * k + (4 + t)) ≡ bit_of bits k
second_level bits k t h s = at_bit bits k (4 + t) h ∙ second_half (bit_of bits k) (bit_waves (drop (suc k) (true ∷ bits))) t s

-- ---- the four ticks of a half-bit
pub not_not : (b : Bool) → not (not b) ≡ b
not_not true = refl
not_not false = refl

-- both are in one half of one bit, or past the last
steady : (bits : List Bool) (k t : ℕ) → t < 8 → level_at bits (8 * k + t) ≡ level_at bits (8 * k + 4 * (t / 4))
steady bits k t h = go (dec_lt (length bits) k) (dec_lt t 4)
  where
    go : Dec (length bits < k) → Dec (t < 4) → level_at bits (8 * k + t) ≡ level_at bits (8 * k + 4 * (t / 4))
    go (yes past) half = later_level bits k t past ∙ sym (later_level bits k (4 * (t / 4)) past)
    go (no within) (yes first) = first_level bits k t (omega arith) first ∙ sym (first_level bits k (4 * (t / 4)) (omega arith) (omega arith))
    go (no within) (no second) =
        let e : t ≡ 4 + (t - 4) = omega arith in
        let f : 4 * (t / 4) ≡ 4 + 0 = omega (arith, second) in
        rw f (ap (λ (p : ℕ). level_at bits (8 * k + p)) e ∙ second_level bits k (t - 4) (omega arith) (omega arith) ∙ sym (second_level bits k 0 (omega arith) (omega arith)))

pub half_bits_are_the_wave : HalfBitsAreTheWave
unfolding pulls
half_bits_are_the_wave bits tick =
    let e : tick ≡ 8 * (tick / 8) + tick % 8 = omega arith in
    let f : 8 * (tick / 8) + 4 * (tick % 8 / 4) ≡ 4 * (tick / 4) = omega arith in
    ap (level_at bits) e ∙ steady bits (tick / 8) (tick % 8) (omega arith) ∙ ap (level_at bits) f ∙ sym (not_not (level_at bits (4 * (tick / 4))))
