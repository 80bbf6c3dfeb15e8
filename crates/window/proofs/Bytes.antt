-- The closed form in which the code places the stored bits is the definition's: eight bytes, the first on top. Assumes nothing.
use mathlib.Core.Path.{◌≡◌, refl, ◌∙◌, ap}
use Prim.Native.Nat.{ℕ, zero, suc, ◌+◌, ◌-◌, ◌*◌, ◌/◌, ◌%◌, ◌^◌, ◌≤◌, ◌<◌, min}
use native.Mathlib.Omega.{arith}
use native.Mathlib.Nat.{suc-mul, pow-suc, add-zero}
use lib.Pow.{high, low, pow-add}
use Rattle.laws.specs.Packed.{packed}
use Rattle.laws.proofs.Digits.{packed_add, packed_lt, packed_zero}
use Rattle.window.specs.Code.{placed_of}
use Rattle.window.proofs.Placing.{rest}

-- the byte i of n bits
abbrev byte : ℕ → (ℕ → ℕ) → ℕ → ℕ
byte n f i = packed 2 (min 8 (n - i * 8)) (λ (j : ℕ). f (i * 8 + j))

pub bytes_of_bits : (k : ℕ) → 256 ^ k ≡ 2 ^ (k * 8)
bytes_of_bits zero = refl
bytes_of_bits (suc k) = rw (pow-suc, bytes_of_bits k, suc-mul, pow-add 2 (k * 8) 8)

module _ (n : ℕ) (f : ℕ → ℕ) where
  -- whole bytes hold all bits up to their end
  full : (m : ℕ) → m * 8 ≤ n → packed 256 m (byte n f) ≡ packed 2 (m * 8) f
  unfolding packed
  full zero h = refl
  full (suc m) h =
      let e : min 8 (n - m * 8) ≡ 8 = omega arith in
      rw (full m (omega arith), e, suc-mul, packed_add 2 (m * 8) 8 f)

  -- with the last byte of r bits behind m whole ones
  module _ (m r : ℕ) (is : n ≡ m * 8 + r) (short : r ≤ 8) (bit : (i : ℕ) → f i < 2) where
    last : packed 256 (suc m) (byte n f) ≡ packed 2 (m * 8) f * 256 + packed 2 r (λ (j : ℕ). f (m * 8 + j))
    unfolding packed
    last = let e : min 8 (n - m * 8) ≡ r = omega arith in rw (full m (omega arith), e)

    past : (i : ℕ) → byte n f (suc m + i) ≡ 0
    unfolding packed
    past i = let e : min 8 (n - (suc m + i) * 8) ≡ 0 = omega arith in rw e

    filled : (k : ℕ) → packed 256 (suc m + k) (byte n f) ≡ packed 256 (suc m) (byte n f) * 2 ^ (k * 8)
    filled k =
        packed_add 256 (suc m) k (byte n f)
        ∙ rw (packed_zero 256 k (λ i. byte n f (suc m + i)) (λ i h. past i), bytes_of_bits k) (add-zero (packed 256 (suc m) (byte n f) * 2 ^ (k * 8)))

    parts : packed 2 n f ≡ packed 2 (m * 8) f * 2 ^ r + packed 2 r (λ (j : ℕ). f (m * 8 + j))
    parts = ap (λ k. packed 2 k f) is ∙ packed_add 2 (m * 8) r f

    above : packed 2 n f / 2 ^ r ≡ packed 2 (m * 8) f
    above = rw parts (high (packed 2 (m * 8) f) r (packed_lt 2 r (λ j. f (m * 8 + j)) (λ i h. bit (m * 8 + i))))

    below : packed 2 n f % 2 ^ r ≡ packed 2 r (λ (j : ℕ). f (m * 8 + j))
    below = rw parts (low (packed 2 (m * 8) f) r (packed_lt 2 r (λ j. f (m * 8 + j)) (λ i h. bit (m * 8 + i))))

    joined : (packed 2 n f / 2 ^ r * 256 + packed 2 n f % 2 ^ r) * 2 ^ ((7 - m) * 8) ≡ packed 256 (suc m + (7 - m)) (byte n f)
    joined = rw (above, below, filled (7 - m), last)

  pub placed_is : n ≤ 64 → ((i : ℕ) → f i < 2) → placed_of (packed 2 n f) n ≡ packed 256 8 (byte n f)
  unfolding placed_of
  placed_is few bit =
      let m = (n - 1) / 8 in
      let j = joined m (rest n) (omega arith) (omega arith) bit in
      let e : (7 - m) * 8 ≡ 56 - m * 8 = omega arith in
      let g : suc m + (7 - m) ≡ 8 = omega arith in
      rw (e, g) at j
