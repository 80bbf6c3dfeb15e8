-- Laws of signed numbers: what a field is read as, and what is written of one. Assumes nothing.
use Prim.Native.Nat.{ℕ, suc, ◌≤◌, ◌<◌}
use native.Mathlib.Nat.{not-suc-le-zero}
use native.Mathlib.Omega.{arith}
use mathlib.Core.Bool.{Bool, true, false, and-true, and-false}
use mathlib.Core.List.{List, [], ◌∷◌}
use mathlib.Core.Path.{◌≡◌, refl, sym, ap, ◌∙◌}
use lib.Dec.{T, eqb}
use lib.IntN.{ℤ, pos, negsuc, neg_ℤ, nat_abs}
use lib.ListN.{length, get_or, take, drop}
use lib.Signed.{mag, lt_z}
use borrow.Author.Tests.{lt-ltb, le-ltb, ltb-true}
use mir.Syntax.{w8}
use mir.Val.{SFits, to_z, of_z}
use mir.ValLaws.{to_z-of_z}
use Rattle.laws.specs.Pick.{pick}
use Rattle.laws.proofs.Below.{below, same_z, same→eq}
use Rattle.laws.proofs.Picked.{on_true, on_false}
use Rattle.std.specs.Prelude.{Option, Some, None, bytes_eq}
use Rattle.text.specs.Letters.{minus}
use Rattle.text.specs.Decimals.{is_digit, all_digits, is_decimal, value_from, value_of, is_up_to, byte_in, decimal_in, decimal_of}
use Rattle.text.specs.Signed.{below_zero, signed_in, signed_of}
use Rattle.text.specs.ReadBack.{SignedBack}
use Rattle.text.specs.Code.{minus_and}
use Rattle.text.proofs.DecimalLaws.{no_number_read, number_read}
use Rattle.text.proofs.DecimalDigits.{length_decimal}

-- ---- each way in which the code answers on what stands behind a minus
-- by a computed test of all that fit
minus_kept : (n : ℕ) → n ≤ 128 → to_z w8 (of_z w8 (neg_ℤ (pos n))) ≡ neg_ℤ (pos n)
minus_kept n h = same→eq _ _ (below (λ n. same_z (to_z w8 (of_z w8 (neg_ℤ (pos n)))) (neg_ℤ (pos n))) 129 tt n (omega arith))

module _ (s : List ℕ) {r : Option ℕ} (e : r ≡ byte_in 128 s) where
  pub minus_bad : r ≡ None → None ≡ below_zero s
  unfolding below_zero
  minus_bad b = sym (on_false (rw (no_number_read 128 s e b)) _ _)

  module _ (n : ℕ) (b : r ≡ Some n) where
    pub minus_zero : n ≡ 0 → None ≡ below_zero s
    unfolding below_zero
    minus_zero z =
        let was = number_read 128 s e n b in
        sym (on_false (rw (le-ltb 0 (value_of s) (omega (arith, was.1))) (and-false (is_up_to 128 s))) _ _)

    pub minus-≤ : n ≤ 128
    minus-≤ = (number_read 128 s e n b).2

    pub minus_good : (n ≡ 0 → ⊥) → {z : ℤ} → z ≡ neg_ℤ (pos n) → Some (to_z w8 (of_z w8 z)) ≡ below_zero s
    unfolding below_zero
    minus_good some q =
        let was = number_read 128 s e n b in
        let high : 0 < value_of s = omega (arith, was.1) in
        ap (λ (z : ℤ). Some (to_z w8 (of_z w8 z))) q
        ∙ ap Some (minus_kept n was.2 ∙ ap (λ (v : ℕ). neg_ℤ (pos v)) (sym was.1))
        ∙ sym (on_true (rw (was.0, lt-ltb 0 (value_of s) high)) _ _)

-- ---- each way in which the code answers on a signed number
plain_kept : (n : ℕ) → n ≤ 127 → to_z w8 n ≡ pos n
plain_kept n h = same→eq _ _ (below (λ n. same_z (to_z w8 n) (pos n)) 128 tt n (omega arith))

-- whether the field begins with a minus, as `strip_prefix` tests it
begins : (s : List ℕ) → bytes_eq (take 1 s) (minus ∷ []) ≡ eqb (get_or s 0 0) minus
begins [] = refl
begins (byte ∷ s) = and-true (eqb byte minus)

module _ (s : List ℕ) where
  pub signed_minus : bytes_eq (take 1 s) (minus ∷ []) ≡ true → {digits : List ℕ} → digits ≡ drop 1 s → {z : Option ℤ} → z ≡ below_zero digits → z ≡ signed_in s
  unfolding signed_in
  signed_minus m d e = e ∙ ap below_zero d ∙ sym (on_true (sym (begins s) ∙ m) _ _)

  module _ (m : bytes_eq (take 1 s) (minus ∷ []) ≡ false) {r : Option ℕ} (e : r ≡ byte_in 127 s) where
    plain : signed_in s ≡ pick (is_up_to 127 s) (Some (pos (value_of s))) None
    unfolding signed_in
    plain = on_false (sym (begins s) ∙ m) _ _

    pub signed_bad : r ≡ None → None ≡ signed_in s
    signed_bad b = sym (plain ∙ on_false (no_number_read 127 s e b) _ _)

    pub signed-≤ : (n : ℕ) → r ≡ Some n → n ≤ 127
    signed-≤ n b = (number_read 127 s e n b).2

    pub signed_good : (n : ℕ) → r ≡ Some n → Some (to_z w8 n) ≡ signed_in s
    signed_good n b =
        let was = number_read 127 s e n b in
        ap Some (plain_kept n was.2 ∙ ap pos (sym was.1)) ∙ sym (plain ∙ on_true was.0 _ _)

-- ---- what is written, by the magnitude of a number that went through its bits
under : (z : ℤ) → lt_z z (pos 0) ≡ true → signed_of z ≡ minus_and (nat_abs z)
unfolding signed_of
under (pos n) t = absurd (not-suc-le-zero (ltb-true n 0 t))
under (negsuc n) t = refl

over : (z : ℤ) → lt_z z (pos 0) ≡ false → signed_of z ≡ decimal_of (nat_abs z)
unfolding signed_of
over (pos n) t = refl
over (negsuc n) t = cc

pub with_minus : (z : ℤ) → SFits w8 z → lt_z (to_z w8 (of_z w8 z)) (pos 0) ≡ true → signed_of z ≡ minus_and (nat_abs (to_z w8 (of_z w8 z)))
with_minus z fits = rw (to_z-of_z w8 z fits) (under z)

pub without_minus : (z : ℤ) → SFits w8 z → lt_z (to_z w8 (of_z w8 z)) (pos 0) ≡ false → signed_of z ≡ decimal_of (nat_abs (to_z w8 (of_z w8 z)))
without_minus z fits = rw (to_z-of_z w8 z fits) (over z)

pub length_signed : (z : ℤ) → mag z < 128 → length (signed_of z) ≤ 4
unfolding signed_of
length_signed (pos n) h = let small : n < 1000 = omega arith in omega (arith, length_decimal 10 2 n small)
length_signed (negsuc n) h = let small : suc n < 1000 = omega arith in omega (arith, length_decimal 10 2 (suc n) small)

-- ---- what is written is read back, by a computed test of all that fit
abbrev tells : Option ℤ → ℤ → Bool
tells (Some y) z = same_z y z
tells None z = false

tells→eq : (r : Option ℤ) (z : ℤ) → T (tells r z) → r ≡ Some z
tells→eq (Some y) z t = ap Some (same→eq y z t)
tells→eq None z t = absurd t

pub signed_back : SignedBack
unfolding signed_in signed_of below_zero is_up_to is_decimal all_digits is_digit value_from decimal_in pick
signed_back = (
  λ n h. tells→eq _ _ (below (λ n. tells (signed_in (signed_of (pos n))) (pos n)) 128 tt n (omega arith)),
  λ n h. tells→eq _ _ (below (λ n. tells (signed_in (signed_of (negsuc n))) (negsuc n)) 128 tt n (omega arith)),
)
