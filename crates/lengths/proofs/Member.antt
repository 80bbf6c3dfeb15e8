-- The set of a list's lengths holds exactly those of them that are below 32. Assumes nothing.
use Prim.Native.Nat.{ℕ, zero, suc, ◌≤◌, ◌/◌, ◌%◌, ◌^◌, ◌<◌, ◌-◌, ◌+◌}
use mathlib.Core.Path.{◌≡◌, refl, sym, ◌∙◌, ap}
use mathlib.Core.Bool.{Bool, true, false}
use mathlib.Core.List.{List, [], ◌∷◌}
use native.Mathlib.Omega.{arith}
use native.Mathlib.Nat.{one-mul, pow-suc, div-eq_of_lt, mul-mod_left, zero-div}
use native.Mathlib.Decide.{dec_lt, ℕ_discrete}
use lib.Dec.{ltb, eqb}
use lib.Bits.{bit_or, or_shr, or_mod, or_zero_r}
use lib.Pow.{pow-lt, pow-add, shl-shr}
use borrow.Author.Tests.{lt-ltb, le-ltb, eq-eqb, ne_eqb}
use Rattle.laws.specs.Pick.{pick}
use Rattle.laws.proofs.Picked.{on_true, on_false, on_either}
use Rattle.lengths.specs.declared.BitLengths.{BitLengths}
use Rattle.lengths.specs.Lengths.{mask, holds, with_length, with_lengths, set_of, listed, HoldsJust}

-- ---- bit n of a power of two
same_bit : (n : ℕ) → 2 ^ n / 2 ^ n % 2 ≡ 1
same_bit n = ap (λ x. x / 2 ^ n % 2) (sym (one-mul (2 ^ n))) ∙ ap (λ x. x % 2) (shl-shr 1 n)

lower_bit : (k n : ℕ) → k < n → 2 ^ k / 2 ^ n % 2 ≡ 0
lower_bit k n h = ap (λ x. x % 2) (div-eq_of_lt (pow-lt h))

above : (j n : ℕ) → 2 ^ (suc j + n) / 2 ^ n % 2 ≡ 0
above j n = rw (pow-add, shl-shr, pow-suc, mul-mod_left)

higher_bit : (k n : ℕ) → n < k → 2 ^ k / 2 ^ n % 2 ≡ 0
higher_bit k n h = let e : k ≡ suc (k - n - 1) + n = omega arith in rw e (above (k - n - 1) n)

other_bit : (k n : ℕ) → (n ≡ k → ⊥) → 2 ^ k / 2 ^ n % 2 ≡ 0
other_bit k n ne = go (dec_lt k n)
  where
    go : Dec (k < n) → 2 ^ k / 2 ^ n % 2 ≡ 0
    go (yes p) = lower_bit k n p
    go (no p) = higher_bit k n (omega (arith, ne))

-- ---- one length more
or_bit : (m k n : ℕ) → bit_or m k / 2 ^ n % 2 ≡ bit_or (m / 2 ^ n % 2) (k / 2 ^ n % 2)
or_bit m k n = ap (λ x. x % 2) (or_shr m k n) ∙ or_mod (m / 2 ^ n) (k / 2 ^ n) 1

or_one : (b : ℕ) → b < 2 → bit_or b 1 ≡ 1
or_one zero h = refl
or_one (suc zero) h = refl
or_one (suc (suc b)) h = absurd (omega arith)

with_same : (s : BitLengths) (n : ℕ) → n < 32 → holds (with_length s n) n ≡ true
unfolding holds with_length pick
with_same s n h = rw (lt-ltb n 32 h, or_bit, same_bit, or_one (s.0 / 2 ^ n % 2) (omega arith))

with_other : (s : BitLengths) (k n : ℕ) → (n ≡ k → ⊥) → holds (with_length s k) n ≡ holds s n
unfolding holds with_length pick
with_other s k n ne = go (ltb k 32) refl
  where
    go : (b : Bool) → ltb k 32 ≡ b → holds (with_length s k) n ≡ holds s n
    go true e = rw (e, or_bit, other_bit k n ne, or_zero_r)
    go false e = rw e

-- ---- the whole list
pick_itself : (b : Bool) → b ≡ pick b true false
unfolding pick
pick_itself true = refl
pick_itself false = refl

below_32 : (s : BitLengths) (ks : List ℕ) (n : ℕ) → n < 32 → holds (with_lengths s ks) n ≡ pick (holds s n) true (listed n ks)
unfolding with_lengths listed
below_32 s [] n h = pick_itself (holds s n)
below_32 s (k ∷ ks) n h = below_32 (with_length s k) ks n h ∙ go (ℕ_discrete n k)
  where
    go : Dec (n ≡ k) → pick (holds (with_length s k) n) true (listed n ks) ≡ pick (holds s n) true (pick (eqb n k) (ltb n 32) (listed n ks))
    go (yes e) = rw (← e, on_true (with_same s n h), on_true (eq-eqb n n refl), lt-ltb n 32 h) (sym (on_either (holds s n) true))
    go (no ne) = rw (with_other s k n ne, on_false (ne_eqb n k ne))

never : (s : BitLengths) (n : ℕ) → 32 ≤ n → holds s n ≡ false
unfolding holds
never s n h = rw (on_false (le-ltb n 32 h))

never_listed : (n : ℕ) (ks : List ℕ) → 32 ≤ n → listed n ks ≡ false
unfolding listed
never_listed n [] h = refl
never_listed n (k ∷ ks) h = rw (le-ltb n 32 h, never_listed n ks h) (on_either (eqb n k) false)

none : (n : ℕ) → n < 32 → holds (mask 0) n ≡ false
unfolding holds
none n h = rw (on_true (lt-ltb n 32 h), zero-div)

pub member : (ks : List ℕ) → HoldsJust (set_of ks) ks
unfolding set_of
member ks n = go (dec_lt n 32)
  where
    go : Dec (n < 32) → holds (with_lengths (mask 0) ks) n ≡ listed n ks
    go (yes h) = below_32 (mask 0) ks n h ∙ rw (on_false (none n h))
    go (no h) = never (with_lengths (mask 0) ks) n (omega arith) ∙ sym (never_listed n ks (omega arith))
