-- The half-bits of a frame, two a bit, and the store that they make as one number. Assumes nothing.
use mathlib.Core.Path.{◌≡◌, refl, sym, ◌∙◌, ap}
use mathlib.Core.Bool.{Bool, true, false, not}
use mathlib.Core.List.{List}
use Prim.Native.Nat.{ℕ, ◌+◌, ◌-◌, ◌*◌, ◌/◌, ◌%◌, ◌^◌, ◌<◌, ◌≤◌}
use native.Mathlib.Omega.{arith}
use native.Mathlib.Nat.{add-zero}
use native.Mathlib.Numerals.{add-one}
use lib.ListN.{length, get_or}
use lib.Pow.{shl_exact, pow_mono}
use Rattle.laws.specs.Bit.{bit}
use Rattle.laws.specs.Packed.{packed}
use Rattle.laws.specs.Tabulate.{tabulate}
use Rattle.laws.proofs.Digits.{packed_add, packed_lt, packed_zero, packed_part, bit_lt, digit_is}
use Rattle.laws.proofs.Tabulated.{tabulate_same, length_tabulate, get_d_tabulate}
use Rattle.halfbits.specs.Frame.{bit_at}
use Rattle.halfbits.specs.Wave.{level_at}
use Rattle.halfbits.specs.HalfBits.{pulls, store_of}
use Rattle.halfbits.specs.Code.{half_bits, bytes_in}
use Rattle.halfbits.proofs.Levels.{bit_of, first_level, second_level, later_level, not_not}

-- ---- which pull
module _ (bits : List Bool) (k : ℕ) where
  pub pulls_first : k ≤ length bits → pulls bits (2 * k) ≡ bit_of bits k
  unfolding pulls
  pulls_first h =
      let e : 4 * (2 * k) ≡ 8 * k + 0 = omega arith in
      ap (λ p. not (level_at bits p)) e ∙ ap not (first_level bits k 0 h (omega arith)) ∙ not_not (bit_of bits k)

  pub pulls_second : k ≤ length bits → pulls bits (2 * k + 1) ≡ not (bit_of bits k)
  unfolding pulls
  pulls_second h =
      let e : 4 * (2 * k + 1) ≡ 8 * k + (4 + 0) = omega arith in
      ap (λ p. not (level_at bits p)) e ∙ ap not (second_level bits k 0 h (omega arith))

pub pulls_later : (bits : List Bool) (j : ℕ) → 2 * length bits + 2 ≤ j → pulls bits j ≡ false
unfolding pulls
pulls_later bits j h =
    let e : 4 * j ≡ 8 * (j / 2) + 4 * (j % 2) = omega arith in
    ap (λ p. not (level_at bits p)) e ∙ ap not (later_level bits (j / 2) (4 * (j % 2)) (omega arith))

-- ---- as digits
pair : (b : Bool) → bit b * 2 + bit (not b) ≡ 1 + bit b
pair true = refl
pair false = refl

module _ (bits : List Bool) where
  abbrev digit : ℕ → ℕ
  digit j = bit (pulls bits j)

  -- a bit more is two half-bits more
  pub next_bit : (k : ℕ) → k ≤ length bits → packed 2 (2 * k + 2) digit ≡ packed 2 (2 * k) digit * 4 + (1 + bit (bit_of bits k))
  unfolding packed
  next_bit k h =
      let first : digit (2 * k + 0) ≡ bit (bit_of bits k) = ap (λ j. digit j) (add-zero (2 * k)) ∙ ap bit (pulls_first bits k h) in
      packed_add 2 (2 * k) 2 digit ∙ rw (first, pulls_second bits k h) (omega (arith, pair (bit_of bits k)))

  -- the rest of the store is zero
  pub filled : length bits ≤ 24 → packed 2 (2 * length bits + 2) digit * 2 ^ (54 - 2 * length bits) ≡ half_bits bits
  unfolding half_bits
  filled h =
      let n = 2 * length bits + 2 in
      let m = 54 - 2 * length bits in
      let e : 56 ≡ n + m = omega arith in
      sym
      (ap (λ k. packed 2 k digit) e
      ∙ packed_add 2 n m digit
      ∙ rw (packed_zero 2 m (λ i. digit (n + i)) (λ i p. ap bit (pulls_later bits (n + i) (omega arith)))) (add-zero (packed 2 n digit * 2 ^ m)))

  pub fits : (n : ℕ) → packed 2 n digit < 2 ^ n
  fits n = packed_lt 2 n digit (λ i h. bit_lt (pulls bits i))

  -- and its seven bytes are the store
  pub bytes_are : bytes_in (half_bits bits) ≡ store_of bits
  unfolding bytes_in store_of half_bits
  bytes_are =
      tabulate_same 7 (λ i. packed 2 56 digit / 2 ^ (48 - 8 * i) % 256) (λ i. packed 2 8 (λ j. digit (8 * i + j)))
      (λ i h. packed_part 56 (8 * i) 8 (48 - 8 * i) digit (omega arith) (λ j. bit_lt (pulls bits j)))

-- ---- the encoder's loop, over the bits of some bytes
module _ (n : ℕ) (bytes : List ℕ) where
  abbrev frame : List Bool
  frame = tabulate n (bit_at bytes)

  -- the half-bits of the start and of so many bits
  abbrev pub begun : ℕ → ℕ
  begun at = packed 2 (2 * at + 2) (digit frame)

  pub start : 2 ≡ begun 0
  unfolding packed
  start = sym (next_bit frame 0 (omega arith))

  pub turn : (at all one : ℕ) → at < n → all ≡ begun at → one ≡ get_or bytes (at / 8) 0 / 2 ^ (7 - at % 8) % 2 → all * 4 + 1 + one ≡ begun (at + 1)
  unfolding bit_at
  turn at all one h e f =
      let here : bit_of frame (at + 1) ≡ bit_at bytes at = ap (bit_of frame) (add-one at) ∙ get_d_tabulate n at (bit_at bytes) true h in
      let two : 2 * (at + 1) ≡ 2 * at + 2 = omega arith in
      let more : begun (at + 1) ≡ packed 2 (2 * (at + 1)) (digit frame) * 4 + (1 + bit (bit_of frame (at + 1))) = next_bit frame (at + 1) (omega (arith, length_tabulate n (bit_at bytes))) in
      let d = digit_is (get_or bytes (at / 8) 0 / 2 ^ (7 - at % 8) % 2) (omega arith) in
      sym (more ∙ rw (here, two, ← e, d, ← f) (omega arith))

  pub small : (at all : ℕ) → at ≤ 24 → all ≡ begun at → all < 2 ^ 50
  small at all h e =
      let m : 2 ^ (2 * at + 2) ≤ 2 ^ 50 = pow_mono {i = 2 * at + 2} {j = 50} (omega arith) in
      omega (arith, fits frame (2 * at + 2), m, e)

  pub ended : (at all : ℕ) → n ≤ 24 → at ≤ n → n ≤ at → all ≡ begun at → all * 2 ^ (54 - 2 * n) % 2 ^ 64 ≡ half_bits frame
  ended at all h within past inv =
      let same : at ≡ n = omega arith in
      let e : all ≡ begun n = inv ∙ ap (λ (k : ℕ). begun k) same in
      let l : length frame ≡ n = length_tabulate n (bit_at bytes) in
      let whole = filled frame (omega arith) in
      rw e (shl_exact (2 * n + 2) (54 - 2 * n) 64 (fits frame (2 * n + 2)) (omega arith) ∙ (rw l at whole))
