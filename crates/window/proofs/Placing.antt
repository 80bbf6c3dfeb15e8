-- Laws of the stored bits as one number: room for one more, and their place in the data. Assumes nothing.
use mathlib.Core.Path.{◌≡◌, refl, ◌∙◌, subst}
use mathlib.Core.Bool.{Bool, true, false}
use Prim.Native.Nat.{ℕ, zero, suc, ◌+◌, ◌-◌, ◌*◌, ◌/◌, ◌%◌, ◌^◌, ◌≤◌, ◌<◌}
use native.Mathlib.Omega.{arith}
use native.Mathlib.Nat.{pow-suc, one-mul, lt_of_lt_of_le, mod-lt}
use lib.Dec.{ltb, eqb, lit<}
use lib.Pow.{pow_pos, pow_mono, pow-add, shr_lt, shl_exact}
use borrow.Author.Tests.{ltb-true, ltb-false, ne_eqb}
use Rattle.laws.specs.Pick.{pick}
use Rattle.laws.proofs.Picked.{on_true, on_false}
use Rattle.window.specs.Code.{stored_of, pushed_of, placed_of}

-- ---- one bit more
pub room : (v len : ℕ) → (len ≡ 0 → ⊥) → len ≤ 64 → v < 2 ^ stored_of len → v < 9223372036854775808
room v len h k lt = lt_of_lt_of_le lt (pow_mono {j = 63} (omega arith))

more : (v b n : ℕ) → v < 2 ^ n → b < 2 → v * 2 + b < 2 ^ suc n
more v b n h k = rw pow-suc (omega arith)

pub pushed_lt : (v len w : ℕ) → v < 2 ^ stored_of len → pushed_of v len w < 2 ^ stored_of (len + 1)
unfolding pushed_of
pushed_lt v zero w h = rw (on_true {t = eqb 0 0} refl) h
pushed_lt v (suc n) w h = rw (on_false (ne_eqb (suc n) 0 (omega arith))) (go (ltb 64 (suc n)) refl)
  where
    go : (b : Bool) → ltb 64 (suc n) ≡ b → pick (ltb 64 (suc n)) v (v * 2 + w % 2) < 2 ^ stored_of (suc n + 1)
    go true e =
        let s : stored_of (suc n + 1) ≡ stored_of (suc n) = omega (arith, ltb-true 64 (suc n) e) in
        rw (on_true e, s) h
    go false e =
        let s : stored_of (suc n + 1) ≡ suc (stored_of (suc n)) = omega (arith, ltb-false 64 (suc n) e) in
        rw (on_false e, s) (more v (w % 2) (stored_of (suc n)) h (omega arith))

-- ---- n bits by bytes: the bits of the whole bytes before the last one, and those of the last
abbrev pub whole : ℕ → ℕ
whole n = (n - 1) / 8 * 8

abbrev pub rest : ℕ → ℕ
rest n = n - whole n

module _ (v n : ℕ) (fits : v < 2 ^ n) (few : n ≤ 64) where
  high_lt : v / 2 ^ rest n < 2 ^ whole n
  high_lt = let e : n ≡ whole n + rest n = omega arith in shr_lt (whole n) (rest n) (subst (λ (m : ℕ). v < 2 ^ m) e fits)

  low_lt : v % 2 ^ rest n < 256
  low_lt = lt_of_lt_of_le (mod-lt v (pow_pos (rest n))) (pow_mono {j = 8} (omega arith))

  pub one_shifted : 1 * 2 ^ rest n % 18446744073709551616 ≡ 2 ^ rest n
  one_shifted = shl_exact {a = 1} 1 (rest n) 64 (lit< tt) (omega arith) ∙ one-mul (2 ^ rest n)

  pub sum_fits : v / 2 ^ rest n * 256 + v % 2 ^ rest n < 18446744073709551616
  sum_fits = let p : 2 ^ whole n ≤ 2 ^ 56 = pow_mono {j = 56} (omega arith) in omega (arith, high_lt, low_lt)

  sum_lt : v / 2 ^ rest n * 256 + v % 2 ^ rest n < 2 ^ (whole n + 8)
  sum_lt = rw pow-add (omega (arith, high_lt, low_lt))

  pub placed_fits : (v / 2 ^ rest n * 256 + v % (1 * 2 ^ rest n % 18446744073709551616)) * 2 ^ (56 - whole n) % 18446744073709551616 ≡ placed_of v n
  unfolding placed_of
  placed_fits = rw one_shifted (shl_exact (whole n + 8) (56 - whole n) 64 sum_lt (omega arith))

pub placed_none : (v n : ℕ) → v < 2 ^ n → n ≡ 0 → 0 ≡ placed_of v n
unfolding placed_of
placed_none v n h e = let z : v ≡ 0 = omega (arith, subst (λ (m : ℕ). v < 2 ^ m) e h) in rw (e, z)
