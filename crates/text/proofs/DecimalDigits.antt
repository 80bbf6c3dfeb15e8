-- Laws of decimals as they are written: the digits of a number, how many they are, what they come to, and that they are read back. Assumes nothing.
use Prim.Native.Nat.{ℕ, zero, suc, ◌+◌, ◌/◌, ◌%◌, ◌^◌, ◌≤◌, ◌<◌}
use native.Mathlib.Decide.{dec_lt}
use native.Mathlib.Nat.{pow-suc, not-suc-le-zero, div-lt_iff_lt-mul, mod-eq_of_lt}
use native.Mathlib.Numerals.{add-one}
use native.Mathlib.Omega.{arith}
use mathlib.Core.Bool.{true, false}
use mathlib.Core.List.{List, [], ◌∷◌, ◌++◌}
use mathlib.Core.Path.{◌≡◌, refl, sym, ap, ◌∙◌}
use lib.Dec.{eqb, ltb}
use lib.ListN.{length, length-append}
use borrow.Author.Tests.{lt-ltb, le-ltb, le-leb, ne_eqb}
use Rattle.laws.specs.Pick.{pick}
use Rattle.laws.proofs.Picked.{on_true, on_false}
use Rattle.text.specs.Letters.{letter}
use Rattle.text.specs.Decimals.{is_digit, all_digits, is_decimal, value_from, value_of, digit_of, decimal_in, decimal_of}
use Rattle.text.specs.ReadBack.{DecimalsBack}
use Rattle.text.specs.Code.{Put, digits}
use Rattle.text.proofs.Digits.{Lasts, value_behind, length_lasts}
use Rattle.text.proofs.DecimalLaws.{both_true, decimals, number_good}

-- ---- the digits of a number
pub last_digits : Lasts 10 (λ n. digit_of (n % 10)) digits
unfolding digits
last_digits = record { none = λ n. refl; more = λ count n. refl }

pub length_digits : (count n : ℕ) → length (digits count n) ≡ count
length_digits = length_lasts last_digits

decimal_suc : (most n : ℕ) → decimal_in (suc most) n ≡ pick (ltb n 10) (digit_of n ∷ []) (decimal_in most (n / 10) ++ (digit_of (n % 10) ∷ []))
unfolding decimal_in
decimal_suc most n = refl

one_digit : (most n : ℕ) → n < 10 → decimal_in (suc most) n ≡ digit_of n ∷ []
one_digit most n h = decimal_suc most n ∙ on_true (lt-ltb n 10 h) _ _

more_digits : (most n : ℕ) → 10 ≤ n → decimal_in (suc most) n ≡ decimal_in most (n / 10) ++ (digit_of (n % 10) ∷ [])
more_digits most n h = decimal_suc most n ∙ on_false (le-ltb n 10 h) _ _

tenth : (k n : ℕ) → n < 10 ^ suc k → n / 10 < 10 ^ k
tenth k n h = (div-lt_iff_lt-mul {k = 10} {x = n} {y = 10 ^ k} (omega arith)).1 (rw pow-suc at h)

-- how many digits there may be makes no difference where they are enough
one_more : (k n : ℕ) → n < 10 ^ suc k → decimal_in (suc k) n ≡ decimal_in (suc (suc k)) n
one_more zero n h = one_digit 0 n h ∙ sym (one_digit 1 n h)
one_more (suc k) n h =
    decimal_suc (suc k) n
    ∙ ap (λ (front : List ℕ). pick (ltb n 10) (digit_of n ∷ []) (front ++ (digit_of (n % 10) ∷ []))) (one_more k (n / 10) (tenth (suc k) n h))
    ∙ sym (decimal_suc (suc (suc k)) n)

pub decimal_one : (n : ℕ) → n < 10 → decimal_of n ≡ digit_of n ∷ []
decimal_one n h = one_digit 9 n h

pub decimal_more : (n : ℕ) → n < 10 ^ 10 → 10 ≤ n → decimal_of n ≡ decimal_of (n / 10) ++ (digit_of (n % 10) ∷ [])
decimal_more n h big = more_digits 9 n big ∙ ap (λ (front : List ℕ). front ++ (digit_of (n % 10) ∷ [])) (one_more 8 (n / 10) (tenth 9 n h))

-- what holds of each number below ten, and of any other where it holds of its tenth, holds of every number
by_tenths : (P : ℕ → Type 0) → ((n : ℕ) → n < 10 → P n) → ((n : ℕ) → 10 ≤ n → P (n / 10) → P n) → (n : ℕ) → P n
by_tenths P one more n = go (suc n) n (omega arith)
  where
    split : (n : ℕ) → (10 ≤ n → P (n / 10)) → Dec (n < 10) → P n
    split n rest (yes small) = one n small
    split n rest (no large) = let big : 10 ≤ n = omega arith in more n big (rest big)

    go : (k n : ℕ) → n < k → P n
    go zero n h = absurd (not-suc-le-zero h)
    go (suc k) n h = split n (λ big. go k (n / 10) (omega arith)) (dec_lt n 10)

-- ---- how many digits a number has
pub places_more : (n : ℕ) → n < 10 ^ 10 → 10 ≤ n → length (decimal_of n) ≡ length (decimal_of (n / 10)) + 1
places_more n h big = ap length (decimal_more n h big) ∙ length-append (decimal_of (n / 10)) (digit_of (n % 10) ∷ [])

no_digit : (n : ℕ) → decimal_in 0 n ≡ []
unfolding decimal_in
no_digit n = refl

length_more : (most k n : ℕ) → length (decimal_in most (n / 10)) ≤ k → Dec (n < 10) → length (decimal_in (suc most) n) ≤ suc k
length_more most k n ih (yes small) = omega (arith, ap length (one_digit most n small))
length_more most k n ih (no large) =
    let big : 10 ≤ n = omega arith in
    omega (arith, ap length (more_digits most n big), length-append (decimal_in most (n / 10)) (digit_of (n % 10) ∷ []))

pub length_decimal : (most k n : ℕ) → n < 10 ^ suc k → length (decimal_in most n) ≤ suc k
length_decimal zero k n h = omega (arith, ap length (no_digit n))
length_decimal (suc most) zero n h = omega (arith, ap length (one_digit most n h))
length_decimal (suc most) (suc k) n h = length_more most (suc k) n (length_decimal most k (n / 10) (tenth (suc k) n h)) (dec_lt n 10)

digits_one : (n : ℕ) → n < 10 → digits 1 n ≡ digit_of n ∷ []
unfolding digits
digits_one n h = rw (mod-eq_of_lt h)

pub decimal_digits : (n : ℕ) → n < 10 ^ 10 → decimal_of n ≡ digits (length (decimal_of n)) n
decimal_digits =
    by_tenths (λ n. n < 10 ^ 10 → decimal_of n ≡ digits (length (decimal_of n)) n)
    (λ n small h. rw (decimal_one n small) (sym (digits_one n small)))
    (λ n big ih h.
    let front : n / 10 < 10 ^ 10 = omega arith in
    decimal_more n h big
    ∙ ap (λ (text : List ℕ). text ++ (digit_of (n % 10) ∷ [])) (ih front)
    ∙ sym (last_digits.more (length (decimal_of (n / 10))) n)
    ∙ ap (λ (k : ℕ). digits k n) (sym (places_more n h big ∙ add-one (length (decimal_of (n / 10))))))

pub decimal_put : (n : ℕ) → n < 10 ^ 10 → {count place next : ℕ} {before after : List ℕ} → count ≡ length (decimal_of n)
    → Put (digits count n) place before after next → Put (decimal_of n) place before after next
decimal_put n h e p = rw (decimal_digits n h, ← e) p

-- ---- what the digits come to
value_one : (n : ℕ) → value_of (digit_of n ∷ []) ≡ n
unfolding value_from
value_one n = omega arith

pub decimal_value : (n : ℕ) → n < 10 ^ 10 → value_of (decimal_of n) ≡ n
decimal_value =
    by_tenths (λ n. n < 10 ^ 10 → value_of (decimal_of n) ≡ n)
    (λ n small h. ap value_of (decimal_one n small) ∙ value_one n)
    (λ n big ih h.
    let front : value_of (decimal_of (n / 10)) ≡ n / 10 = ih (omega arith) in
    ap value_of (decimal_more n h big) ∙ value_behind decimals 0 (digit_of (n % 10)) (decimal_of (n / 10)) ∙ omega (arith, front))

-- ---- no leading zeros
digit_is : (n : ℕ) → n < 10 → is_digit (digit_of n) ≡ true
unfolding is_digit
digit_is n h = on_false (le-ltb (digit_of n) (letter "0") (omega arith)) _ _ ∙ le-leb (digit_of n) (letter "9") (omega arith)

digits_behind : (digit : ℕ) (text : List ℕ) → is_digit digit ≡ true → all_digits text ≡ true → all_digits (text ++ (digit ∷ [])) ≡ true
unfolding all_digits
digits_behind digit [] d e = rw d
digits_behind digit (byte ∷ text) d e = let parts = both_true (is_digit byte) (all_digits text) e in rw parts.0 (digits_behind digit text d parts.1)

-- digits of which the first is no 0
High : List ℕ → Type 0
High [] = ⊥
High (byte ∷ text) = (eqb byte (letter "0") ≡ false) × (all_digits (byte ∷ text) ≡ true)

high_behind : (digit : ℕ) (text : List ℕ) → is_digit digit ≡ true → High text → High (text ++ (digit ∷ []))
unfolding High
high_behind digit [] d high = absurd high
high_behind digit (byte ∷ text) d high = (high.0, digits_behind digit (byte ∷ text) d high.1)

high_one : (n : ℕ) → n < 10 → 1 ≤ n → High (digit_of n ∷ [])
unfolding High all_digits
high_one n small some = (ne_eqb (digit_of n) (letter "0") (λ e. omega arith), rw (digit_is n small))

decimal_high : (n : ℕ) → n < 10 ^ 10 → 1 ≤ n → High (decimal_of n)
decimal_high =
    by_tenths (λ n. n < 10 ^ 10 → 1 ≤ n → High (decimal_of n))
    (λ n small h some. rw (decimal_one n small) (high_one n small some))
    (λ n big ih h some.
    rw (decimal_more n h big)
    (high_behind (digit_of (n % 10)) (decimal_of (n / 10)) (digit_is (n % 10) (omega arith)) (ih (omega arith) (omega arith))))

decimal_behind : (digit : ℕ) (text : List ℕ) → is_digit digit ≡ true → High text → is_decimal (text ++ (digit ∷ [])) ≡ true
unfolding High is_decimal
decimal_behind digit [] d high = absurd high
decimal_behind digit (byte ∷ []) d high = rw high.0 (digits_behind digit (byte ∷ []) d high.1)
decimal_behind digit (byte ∷ (next ∷ text)) d high = rw high.0 (digits_behind digit (byte ∷ (next ∷ text)) d high.1)

decimal_few : (n : ℕ) → n < 10 → is_decimal (digit_of n ∷ []) ≡ true
unfolding is_decimal
decimal_few n small = digit_is n small

pub decimal_is : (n : ℕ) → n < 10 ^ 10 → is_decimal (decimal_of n) ≡ true
decimal_is n h = go (dec_lt n 10)
  where
    go : Dec (n < 10) → is_decimal (decimal_of n) ≡ true
    go (yes small) = rw (decimal_one n small) (decimal_few n small)
    go (no large) =
        let big : 10 ≤ n = omega arith in
        rw (decimal_more n h big)
        (decimal_behind (digit_of (n % 10)) (decimal_of (n / 10)) (digit_is (n % 10) (omega arith)) (decimal_high (n / 10) (omega arith) (omega arith)))

pub decimal_back : (n : ℕ) → n < 2 ^ 32 → (is_decimal (decimal_of n) ≡ true) × (value_of (decimal_of n) ≡ n)
decimal_back n h = (decimal_is n (omega arith), decimal_value n (omega arith))

pub decimals_back : DecimalsBack
decimals_back most n low h =
    let was = decimal_back n h in
    let read = number_good most (decimal_of n) was.0 n (sym was.1) low in
    (sym read, sym read)
