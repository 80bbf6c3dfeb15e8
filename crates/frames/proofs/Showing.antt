-- A capture's window shows the levels that were sampled, and an idle line behind them. Assumes nothing.
use Prim.Native.Nat.{ℕ, ◌+◌, ◌-◌, ◌*◌, ◌/◌, ◌%◌, ◌^◌, ◌<◌, ◌≤◌, min}
use native.Mathlib.Omega.{arith}
use native.Mathlib.Decide.{dec_lt}
use mathlib.Core.Bool.{Bool, true}
use mathlib.Core.List.{List, ◌∷◌, ◌++◌}
use mathlib.Core.Path.{◌≡◌, sym, ◌∙◌, ap}
use lib.ListN.{length, get_or, take, replicate, get_or-append}
use lib.Seq.{get_or-take, get_or_at, length-take-le}
use borrow.Author.Tests.{lt-ltb}
use Rattle.laws.specs.Bit.{bit}
use Rattle.laws.specs.Packed.{packed}
use Rattle.laws.proofs.Picked.{on_true}
use Rattle.laws.proofs.Digits.{packed_digit, bit_lt}
use Rattle.window.specs.Window.{window_of, level_of, tick_at}
use Rattle.station_theorems.proofs.Capturing.{digit, Stored}

-- the level of a tick in its byte
in_byte : (f : ℕ → ℕ) → ((i : ℕ) → f i < 2) → (p byte : ℕ) → byte ≡ packed 2 8 f → byte / 2 ^ (7 - p % 8) % 2 ≡ f (p % 8)
in_byte f small p byte e = rw e (packed_digit 2 8 (p % 8) (7 - p % 8) f (omega arith) small)

in_idle : (p byte : ℕ) → byte ≡ 255 → byte / 2 ^ (7 - p % 8) % 2 ≡ 1
unfolding packed
in_idle p byte e = in_byte (λ i. 1) (λ i. omega arith) p byte e

module _ (level : ℕ → Bool) (n : ℕ) (room : n < 64) (samples : List ℕ) (stored : Stored level n samples) (end : get_or samples n 0 ≡ 255)
    (idle : (k : ℕ) → 8 * n ≤ k → level k ≡ true) where
  abbrev rest : List ℕ
  rest = 255 ∷ replicate (64 - n) 0

  as_many : length (take (n + 1) samples) ≡ n + 1
  as_many = length-take-le (n + 1) samples (omega (arith, stored.whole))

  sample : (i : ℕ) → i < n + 1 → get_or (take (n + 1) samples ++ rest) i 0 ≡ get_or samples i 0
  sample i h = get_or-append (take (n + 1) samples) rest 0 i (omega (arith, as_many)) ∙ get_or-take (n + 1) samples i 0 h

  by_byte : (p : ℕ) → p < 8 * (n + 2) → Dec (p / 8 < n) → Dec (p / 8 < n + 1) → level_of (take (n + 1) samples ++ rest) p ≡ digit level p
  by_byte p h (yes written) here =
      let e : 8 * (p / 8) + p % 8 ≡ p = omega arith in
      in_byte (λ j. digit level (8 * (p / 8) + j)) (λ j. bit_lt (level (8 * (p / 8) + j))) p _ (sample (p / 8) (omega arith) ∙ stored.each (p / 8) written)
      ∙ ap (digit level) e
  by_byte p h (no past) (yes last) =
      let e : p / 8 ≡ n = omega (arith, past) in
      in_idle p _ (sample (p / 8) last ∙ ap (λ i. get_or samples i 0) e ∙ end) ∙ sym (ap bit (idle p (omega arith)))
  by_byte p h (no past) (no over) =
      let e : p / 8 ≡ n + 1 = omega (arith, over) in
      in_idle p _ (ap (λ i. get_or (take (n + 1) samples ++ rest) i 0) e ∙ get_or_at (take (n + 1) samples) 255 (replicate (64 - n) 0) 0 (n + 1) as_many)
      ∙ sym (ap bit (idle p (omega arith)))

  pub shows : (p : ℕ) → p < 8 * (n + 2) → tick_at (window_of samples (n + 1)) p ≡ digit level p
  unfolding window_of tick_at
  shows p h =
      let m : min (n + 1) 64 ≡ n + 1 = omega arith in
      let r : 65 - (n + 1) ≡ 64 - n = omega arith in
      let within : p / 8 < n + 1 + 1 = omega arith in
      simp (m, r, on_true (lt-ltb _ _ within)) (by_byte p h (dec_lt (p / 8) n) (dec_lt (p / 8) (n + 1)))
