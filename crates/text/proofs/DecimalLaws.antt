-- Laws of decimals as they are read: what a field is read as. Assumes nothing.
use Prim.Native.Nat.{ℕ, ◌+◌, ◌*◌, ◌-◌, ◌≤◌, ◌<◌}
use native.Mathlib.Numerals.{add-one}
use native.Mathlib.Omega.{arith}
use mathlib.Core.Bool.{Bool, true, false, not, ◌&&◌, false≢true, and-true, and-false}
use mathlib.Core.List.{List, [], ◌∷◌}
use mathlib.Core.Path.{◌≡◌, refl, sym, ap, ◌∙◌}
use lib.Dec.{eqb, ltb}
use lib.ListN.{length, get_or, drop, drop_of_length-le}
use lib.Seq.{drop-cons}
use borrow.Author.Tests.{le-leb, lt-leb, leb-true, lt-ltb, le-ltb, ltb-false}
use Rattle.std.proofs.lemmas.Option.{none-some, same_Some}
use Rattle.laws.specs.Pick.{pick}
use Rattle.laws.proofs.Picked.{on_true, on_false, cases}
use Rattle.std.specs.Prelude.{Option, Some, None}
use Rattle.text.specs.Letters.{letter}
use Rattle.text.specs.Decimals.{is_digit, all_digits, is_decimal, value_from, value_of, is_up_to, number_in}
use Rattle.text.specs.Code.{digit_in}
use Rattle.text.proofs.Digits.{Sums}

-- ---- what an answer says that is there only if a test holds
module _ {A : Type 0} (v : A) where
  pub picked_none : (t : Bool) → None ≡ pick t (Some v) None → t ≡ false
  unfolding pick
  picked_none true e = absurd (none-some v e)
  picked_none false e = refl

  pub picked_some : (t : Bool) (w : A) → Some w ≡ pick t (Some v) None → (t ≡ true) × (v ≡ w)
  unfolding pick
  picked_some true w e = (refl, sym (same_Some w v e))
  picked_some false w e = absurd (none-some w (sym e))

-- ---- a digit
pub both_true : (a b : Bool) → (a && b) ≡ true → (a ≡ true) × (b ≡ true)
both_true true b e = (refl, e)
both_true false b e = absurd (false≢true e)

pub digit_between : (byte : ℕ) → is_digit byte ≡ true → (letter "0" ≤ byte) × (byte ≤ letter "9")
unfolding is_digit
digit_between byte =
    cases (λ (t : Bool). t ≡ true → (letter "0" ≤ byte) × (byte ≤ letter "9")) (ltb byte (letter "0"))
    (λ low e. absurd (false≢true e))
    (λ high e. (ltb-false byte (letter "0") high, leb-true byte (letter "9") e))

pub a_digit : (byte : ℕ) → letter "0" ≤ byte → byte ≤ letter "9" → is_digit byte ≡ true
unfolding is_digit
a_digit byte low high = on_false (le-ltb byte (letter "0") low) _ _ ∙ le-leb byte (letter "9") high

pub below_digits : (byte : ℕ) → byte < letter "0" → is_digit byte ≡ false
unfolding is_digit
below_digits byte low = on_true (lt-ltb byte (letter "0") low) _ _

pub above_digits : (byte : ℕ) → letter "9" < byte → is_digit byte ≡ false
unfolding is_digit
above_digits byte high = on_false (le-ltb byte (letter "0") (omega arith)) _ _ ∙ lt-leb byte (letter "9") high

-- ---- each way in which the code answers on a digit
module _ (byte : ℕ) where
  pub digit_good : letter "0" ≤ byte → byte ≤ letter "9" → Some (byte - letter "0") ≡ digit_in byte
  unfolding digit_in
  digit_good low high = sym (on_true (a_digit byte low high) _ _)

  pub digit_low : byte < letter "0" → None ≡ digit_in byte
  unfolding digit_in
  digit_low low = sym (on_false (below_digits byte low) _ _)

  pub digit_high : letter "9" < byte → None ≡ digit_in byte
  unfolding digit_in
  digit_high high = sym (on_false (above_digits byte high) _ _)

  -- what such an answer says of the byte
  module _ {r : Option ℕ} (e : r ≡ digit_in byte) where
    pub no_digit_read : r ≡ None → is_digit byte ≡ false
    unfolding digit_in
    no_digit_read b = picked_none (byte - letter "0") (is_digit byte) (sym b ∙ e)

    pub digit_read : (digit : ℕ) → r ≡ Some digit → (is_digit byte ≡ true) × (digit ≡ byte - letter "0") × (digit ≤ 9)
    unfolding digit_in
    digit_read digit b =
        let was = picked_some (byte - letter "0") (is_digit byte) digit (sym b ∙ e) in
        (was.0, sym was.1, omega (arith, was.1, (digit_between byte was.0).1))

pub ruleset decimal_digits = (digit_good, digit_low, digit_high)

-- ---- how a decimal begins
pub none_begun : (s : List ℕ) → length s ≡ 0 → is_decimal s ≡ false
unfolding is_decimal
none_begun [] e = refl
none_begun (a ∷ s) e = absurd (omega (arith, e))

pub one_begun : (s : List ℕ) → length s ≡ 1 → is_decimal s ≡ all_digits s
unfolding is_decimal all_digits
one_begun [] e = absurd (omega (arith, e))
one_begun (a ∷ []) e = sym (and-true (is_digit a))
one_begun (a ∷ (b ∷ s)) e = absurd (omega (arith, e))

pub more_begun : (s : List ℕ) → (length s ≡ 0 → ⊥) → (length s ≡ 1 → ⊥) → is_decimal s ≡ (not (eqb (get_or s 0 0) (letter "0")) && all_digits s)
unfolding is_decimal
more_begun [] n m = absurd (n refl)
more_begun (a ∷ []) n m = absurd (m refl)
more_begun (a ∷ (b ∷ s)) n m = refl

module _ (s : List ℕ) (r : Bool) (e : is_decimal s ≡ (r && all_digits s)) where
  pub not_begun : r ≡ false → is_decimal s ≡ false
  not_begun t = e ∙ rw t

  pub well_begun : r ≡ true → is_decimal s ≡ all_digits s
  well_begun t = e ∙ rw t

pub not_digits : (s : List ℕ) → all_digits s ≡ false → is_decimal s ≡ false
unfolding is_decimal all_digits
not_digits [] e = refl
not_digits (a ∷ []) e = sym (and-true (is_digit a)) ∙ e
not_digits (a ∷ (b ∷ s)) e = rw e (and-false (not (eqb a (letter "0"))))

-- ---- a turn of the loop over the digits
pub decimals : Sums 10 (λ byte. byte - letter "0") value_from
unfolding value_from
decimals = record { none = λ n. refl; next = λ n byte text. refl }

pub digits_on : (s : List ℕ) (i : ℕ) → i < length s → {t : Bool} → is_digit (get_or s i 0) ≡ t → all_digits (drop i s) ≡ (t && all_digits (drop (i + 1) s))
unfolding all_digits
digits_on s i h e = rw (drop-cons s i 0, e, add-one i)

pub digits_end : (s : List ℕ) (i : ℕ) → length s ≤ i → all_digits (drop i s) ≡ true
unfolding all_digits
digits_end s i h = rw drop_of_length-le

pub value-≥ : (n : ℕ) (s : List ℕ) → n ≤ value_from n s
unfolding value_from
value-≥ n [] = omega arith
value-≥ n (d ∷ s) = let more = value-≥ (n * 10 + (d - letter "0")) s in omega arith

-- ---- each way in which the code answers on a number
module _ (most : ℕ) (s : List ℕ) where
  not_up : is_up_to most s ≡ false → None ≡ number_in most s
  unfolding number_in
  not_up e = sym (on_false e _ _)

  pub number_odd : is_decimal s ≡ false → None ≡ number_in most s
  unfolding is_up_to
  number_odd e = not_up (rw e)

  pub number_high : most < value_of s → None ≡ number_in most s
  unfolding is_up_to
  number_high h = not_up (rw (lt-leb (value_of s) most h) (and-false (is_decimal s)))

  pub number_good : is_decimal s ≡ true → (n : ℕ) → n ≡ value_of s → n ≤ most → Some n ≡ number_in most s
  unfolding number_in is_up_to
  number_good e n v h = ap Some v ∙ sym (on_true (rw (e, le-leb (value_of s) most (omega arith))) _ _)

-- ---- what an answer says of the field
module _ (most : ℕ) (s : List ℕ) {r : Option ℕ} (e : r ≡ number_in most s) where
  pub no_number_read : r ≡ None → is_up_to most s ≡ false
  unfolding number_in
  no_number_read b = picked_none (value_of s) (is_up_to most s) (sym b ∙ e)

  pub number_read : (n : ℕ) → r ≡ Some n → (is_up_to most s ≡ true) × (value_of s ≡ n) × (n ≤ most)
  unfolding number_in is_up_to
  number_read n b =
      let was = picked_some (value_of s) (is_up_to most s) n (sym b ∙ e) in
      let within = leb-true (value_of s) most (both_true (is_decimal s) _ was.0).1 in
      (was.0, was.1, omega (arith, within, was.1))
