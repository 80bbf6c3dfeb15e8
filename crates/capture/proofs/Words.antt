-- One word and its bytes. Assumes nothing.
use mathlib.Core.Path.{◌≡◌, sym, ◌∙◌, ap}
use Prim.Native.Nat.{ℕ, zero, suc, ◌+◌, ◌-◌, ◌*◌, ◌/◌, ◌%◌, ◌^◌, ◌<◌}
use native.Mathlib.Omega.{arith}
use native.Mathlib.Nat.{mod-one, mod-lt, mod-eq_of_lt, pow-succ', div-div-eq-div-mul, div-add-mod', pow-zero, div-one, suc-mul, add-zero}
use lib.Bits.{bit_and, bit_or, and_high, or_block, or_shifted, or_zero_r}
use lib.Dec.{lit<}
use lib.Pow.{split, high_ones, shl_exact, mod-pow-add, pow_pos}
use Rattle.laws.specs.Packed.{packed}
use Rattle.laws.proofs.Digits.{packed_same, packed_add}
use Rattle.window.proofs.Bytes.{bytes_of_bits}

-- ---- a number from its bytes
next_byte : (n m : ℕ) → n / 256 ^ suc m % 256 ≡ n / 256 / 256 ^ m % 256
next_byte n m = rw (pow-succ', ← div-div-eq-div-mul n 256 (256 ^ m))

bytes_of : (k n : ℕ) → packed 256 k (λ i. n / 256 ^ (k - 1 - i) % 256) ≡ n % 256 ^ k
unfolding packed
bytes_of zero n = sym (mod-one n)
bytes_of (suc k) n =
    let shift = packed_same 256 k (λ i. n / 256 ^ (suc k - 1 - i) % 256) (λ i. n / 256 / 256 ^ (k - 1 - i) % 256)
    (λ i h. let e : suc k - 1 - i ≡ suc (k - 1 - i) = omega arith in rw e (next_byte n (k - 1 - i))) in
    let last : suc k - 1 - k ≡ 0 = omega arith in
    rw (shift, bytes_of k (n / 256), last, pow-zero, div-one, bytes_of_bits k, bytes_of_bits (suc k), suc-mul, mod-pow-add n (k * 8) 8)

pub word_is : (word : ℕ) → word < 2 ^ 64 → packed 256 8 (λ k. word / 256 ^ (7 - k) % 256) ≡ word
word_is word small = bytes_of 8 word ∙ mod-eq_of_lt small

-- ---- two numbers that differ in one digit
regrouped : (p q x y base place : ℕ) → (p * base + x) * place + q + y * place ≡ (p * base + y) * place + q + x * place
regrouped p q x y base place = omega arith

one_other : (base n a c : ℕ) (f g : ℕ → ℕ) → suc a + c ≡ n → ((i : ℕ) → i < n → (i ≡ a → ⊥) → f i ≡ g i)
    → packed base n f + g a * base ^ c ≡ packed base n g + f a * base ^ c
unfolding packed
one_other base n a c f g e others =
    let above = packed_same base a f g (λ i h. others i (omega arith) (λ same. let no : ⊥ = omega arith in no)) in
    let below = packed_same base c (λ i. f (suc a + i)) (λ i. g (suc a + i)) (λ i h. others (suc a + i) (omega arith) (λ same. let no : ⊥ = omega arith in no)) in
    rw (← e, packed_add base (suc a) c f, packed_add base (suc a) c g, above, below)
    (regrouped (packed base a g) (packed base c (λ i. g (suc a + i))) (f a) (g a) base (base ^ c))

-- ---- the code's way: the old byte is taken out, and the new one put in
module _ (word c byte : ℕ) (small : word < 2 ^ 64) (within : c < 8) (one : byte < 256) where
  abbrev place : ℕ
  place = 2 ^ (c * 8)

  abbrev above : ℕ
  above = word / place / 256

  parts : word ≡ (above * 256 + word / place % 256) * place + word % place
  parts = sym (ap (λ x. x * place + word % place) (div-add-mod' (word / place) 256) ∙ split word (c * 8))

  old : bit_and word (255 * place) ≡ word / place % 256 * place
  old = ap (bit_and word) (sym (high_ones 8 (c * 8))) ∙ and_high word 8 (c * 8)

  taken : word - bit_and word (255 * place) ≡ above * 2 ^ 8 * place + word % place
  taken = rw old (omega (arith, parts))

  low : word % place < place
  low = mod-lt word (pow_pos (c * 8))

  put : bit_or (above * 2 ^ 8 * place + word % place) (byte * place) ≡ (above * 256 + byte) * place + word % place
  put =
      ap (bit_or (above * 2 ^ 8 * place + word % place)) (sym (add-zero (byte * place)))
      ∙ or_block (c * 8) (above * 2 ^ 8) byte (word % place) 0 low (pow_pos (c * 8))
      ∙ rw (or_shifted above 8 byte one, or_zero_r)

  fits : (a : ℕ) → a < 256 → a * place % 2 ^ 64 ≡ a * place
  fits a h = shl_exact {a = a} 8 (c * 8) 64 h (omega arith)

  module _ (g : ℕ → ℕ) (here : g (7 - c) ≡ byte) (others : (k : ℕ) → k < 8 → (k ≡ 7 - c → ⊥) → word / 256 ^ (7 - k) % 256 ≡ g k) where
    differ : word + byte * place ≡ packed 256 8 g + word / place % 256 * place
    differ =
        let e : 7 - (7 - c) ≡ c = omega arith in
        let d = one_other 256 8 (7 - c) c (λ k. word / 256 ^ (7 - k) % 256) g (omega arith) others in
        rw (word_is word small, here, e, bytes_of_bits c) at d

    pub byte_put : bit_or (word - bit_and word (255 * 2 ^ (c * 8) % 2 ^ 64)) (byte * 2 ^ (c * 8) % 2 ^ 64) ≡ packed 256 8 g
    byte_put = rw (fits 255 (lit< tt), fits byte one, taken, put) (omega (arith, parts, differ))
