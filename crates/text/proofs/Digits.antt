-- Laws of digits in any base: read from the first one on, and stored from the last one on. Assumes nothing.
use Prim.Native.Nat.{ℕ, zero, suc, ◌+◌, ◌*◌, ◌-◌, ◌/◌, ◌≤◌, ◌<◌}
use native.Mathlib.Numerals.{add-one}
use native.Mathlib.Omega.{arith}
use mathlib.Core.List.{List, [], ◌∷◌, ◌++◌}
use mathlib.Core.Path.{◌≡◌, sym, ap, ◌∙◌}
use lib.ListN.{length, get_or, drop, set, length-append, drop_of_length-le}
use lib.Seq.{sets, drop-cons}
use Rattle.text.proofs.WritingLaws.{sets_back}

-- ---- what digits come to after those that came to n
pub record Sums (base : ℕ) (digit : ℕ → ℕ) (value : ℕ → List ℕ → ℕ) : Type 0 where
  pub none : (n : ℕ) → value n [] ≡ n
  pub next : (n byte : ℕ) (text : List ℕ) → value n (byte ∷ text) ≡ value (n * base + digit byte) text

module _ {base : ℕ} {digit : ℕ → ℕ} {value : ℕ → List ℕ → ℕ} (sums : Sums base digit value) where
  pub value_on : (s : List ℕ) (i : ℕ) → i < length s → (n : ℕ) → value n (drop i s) ≡ value (n * base + digit (get_or s i 0)) (drop (i + 1) s)
  value_on s i h n = rw (drop-cons s i 0, add-one i) (sums.next n (get_or s i 0) (drop (suc i) s))

  pub value_end : (s : List ℕ) (i : ℕ) → length s ≤ i → (n : ℕ) → value n (drop i s) ≡ n
  value_end s i h n = rw drop_of_length-le (sums.none n)

  pub value_behind : (n byte : ℕ) (text : List ℕ) → value n (text ++ (byte ∷ [])) ≡ value n text * base + digit byte
  value_behind n byte [] = rw (sums.next n byte [], sums.none (n * base + digit byte), sums.none n)
  value_behind n byte (first ∷ text) =
      rw (sums.next n first (text ++ (byte ∷ [])), sums.next n first text) (value_behind (n * base + digit first) byte text)

-- ---- the last digits of a number, so many of them
pub record Lasts (base : ℕ) (digit : ℕ → ℕ) (text : ℕ → ℕ → List ℕ) : Type 0 where
  pub none : (n : ℕ) → text 0 n ≡ []
  pub more : (count n : ℕ) → text (suc count) n ≡ text count (n / base) ++ (digit n ∷ [])

module _ {base : ℕ} {digit : ℕ → ℕ} {text : ℕ → ℕ → List ℕ} (lasts : Lasts base digit text) where
  pub length_lasts : (count n : ℕ) → length (text count n) ≡ count
  length_lasts zero n = ap length (lasts.none n)
  length_lasts (suc count) n =
      ap length (lasts.more count n) ∙ length-append (text count (n / base)) (digit n ∷ [])
      ∙ ap (λ (k : ℕ). k + 1) (length_lasts count (n / base)) ∙ add-one count

  stored : (buffer all : List ℕ) (place count n : ℕ) → sets buffer place (text (suc count) n) ≡ all
      → sets (set buffer (place + count) (digit n)) place (text count (n / base)) ≡ all
  stored buffer all place count n e =
      ap (λ (k : ℕ). sets (set buffer (place + k) (digit n)) place (text count (n / base))) (sym (length_lasts count (n / base)))
      ∙ sets_back buffer place (digit n) (text count (n / base)) ∙ ap (sets buffer place) (sym (lasts.more count n)) ∙ e

  -- a turn of the loop that stores them
  pub stored_on : (buffer all : List ℕ) (place i n : ℕ) {byte : ℕ} → 0 < i → byte ≡ digit n → sets buffer place (text i n) ≡ all
      → sets (set buffer (place + (i - 1)) byte) place (text (i - 1) (n / base)) ≡ all
  stored_on buffer all place i n h d e =
      let k : i ≡ suc (i - 1) = omega arith in
      ap (λ (x : ℕ). sets (set buffer (place + (i - 1)) x) place (text (i - 1) (n / base))) d
      ∙ stored buffer all place (i - 1) n (ap (λ (j : ℕ). sets buffer place (text j n)) (sym k) ∙ e)

  pub stored_end : (buffer all : List ℕ) (place i n : ℕ) → i ≤ 0 → sets buffer place (text i n) ≡ all → buffer ≡ all
  stored_end buffer all place i n h e =
      let z : i ≡ 0 = omega arith in
      ap (sets buffer place) (sym (lasts.none n)) ∙ ap (λ (j : ℕ). sets buffer place (text j n)) (sym z) ∙ e
