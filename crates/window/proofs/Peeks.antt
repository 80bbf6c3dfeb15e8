-- The peek as the code reads it, two bytes at a time and from the earliest position on, is the definition's eight ticks. Assumes nothing.
use mathlib.Core.Path.{◌≡◌, refl, sym, ◌∙◌, ap}
use mathlib.Core.Bool.{Bool, true, false}
use Prim.Native.Nat.{ℕ, suc, ◌+◌, ◌-◌, ◌*◌, ◌/◌, ◌%◌, ◌^◌, ◌≤◌, ◌<◌}
use native.Mathlib.Omega.{arith}
use native.Mathlib.Decide.{dec_lt}
use native.Mathlib.Nat.{zero-div, div-one, mul_assoc, mul_comm, add_comm, mul-add-div_right}
use lib.Dec.{ltb}
use lib.IntN.{ℤ, pos, negsuc, sub_ℕ, ◌+ℤ◌, +ℤ_comm}
use lib.ListN.{get_or, length}
use lib.Pow.{high, low, pow-add, pow_pos, shr_lt, shr-shr, shr_mod, mod-pow-add, mod-mod-pow, field}
use borrow.Author.Tests.{lt-ltb, le-ltb}
use Rattle.std.specs.Prelude.{None, unwrap_or, slice_get}
use Rattle.std.proofs.lemmas.Option.{unwrap_or-slice_get}
use Rattle.std.proofs.lemmas.Grind.{get_or_default_zero}
use Rattle.laws.specs.Packed.{packed}
use Rattle.laws.specs.Pick.{pick}
use Rattle.laws.proofs.Picked.{on_true, on_false}
use Rattle.laws.proofs.Digits.{packed_same, packed_add, packed_bits, packed_part}
use Rattle.window.specs.declared.SampleWindow.{SampleWindow}
use Rattle.window.specs.declared.BitPeeks.{BitPeeks}
use Rattle.window.specs.Window.{tick_at, level_before, peek_at}
use Rattle.window.specs.Code.{byte_at, ten_ticks, peeks_of}

-- ---- positions from the earliest on
pub before : (at : ℕ) → at < 128 → sub_ℕ at 128 ≡ negsuc (127 - at)
before at h = rw (lt-ltb at 128 h) (ap negsuc (omega arith))

pub from : (at : ℕ) → 128 ≤ at → sub_ℕ at 128 ≡ pos (at - 128)
from at h = rw (le-ltb at 128 h)

pub further : (a m i : ℕ) → sub_ℕ a m +ℤ pos i ≡ sub_ℕ (a + i) m
further a m i = go (dec_lt a m) (dec_lt (a + i) m)
  where
    go : Dec (a < m) → Dec (a + i < m) → sub_ℕ a m +ℤ pos i ≡ sub_ℕ (a + i) m
    go (yes p) (yes q) = rw (lt-ltb a m p, lt-ltb (a + i) m q, lt-ltb i (suc (m - suc a)) (omega arith)) (ap negsuc (omega arith))
    go (yes p) (no q) = rw (lt-ltb a m p, le-ltb (a + i) m (omega arith), le-ltb i (suc (m - suc a)) (omega arith)) (ap pos (omega arith))
    go (no p) (yes q) = absurd (omega arith)
    go (no p) (no q) = rw (le-ltb a m (omega arith), le-ltb (a + i) m (omega arith)) (ap pos (omega arith))

pub moved : (p a m : ℕ) → pos p +ℤ sub_ℕ a m ≡ sub_ℕ (p + a) m
moved p a m = +ℤ_comm (pos p) (sub_ℕ a m) ∙ further a m p ∙ ap (λ n. sub_ℕ n m) (omega arith)

-- ---- a tick is a bit of its byte
-- byte k of the window, 0 past the pad
abbrev pub byte_or_0 : SampleWindow → ℕ → ℕ
byte_or_0 w k = unwrap_or (byte_at w k) 0

pub tick_is : (w : SampleWindow) (p : ℕ) → tick_at w p ≡ byte_or_0 w (p / 8) / 2 ^ (7 - p % 8) % 2
unfolding tick_at byte_at
tick_is w p = go (ltb (p / 8) w.len) refl
  where
    go : (t : Bool) → ltb (p / 8) w.len ≡ t
        → pick (ltb (p / 8) w.len) (get_or w.bytes (p / 8) 0 / 2 ^ (7 - p % 8) % 2) 0
        ≡ unwrap_or (pick (ltb (p / 8) w.len) (slice_get w.bytes (p / 8)) None) 0 / 2 ^ (7 - p % 8) % 2
    go true e = simp (on_true e, unwrap_or-slice_get)
    go false e = simp (on_false e, zero-div)

pick_lt : (t : Bool) (a b : ℕ) → a < 2 → b < 2 → pick t a b < 2
unfolding pick
pick_lt true a b h k = h
pick_lt false a b h k = k

tick_lt : (w : SampleWindow) (p : ℕ) → tick_at w p < 2
unfolding tick_at
tick_lt w p = pick_lt (ltb (p / 8) w.len) _ _ (omega arith) (omega arith)

-- ---- two bytes and a shift
window_of_two : (first next r s : ℕ) → r + s ≡ 8 → next < 256 → (first * 256 + next) / 2 ^ r % 256 ≡ first % 2 ^ r * 2 ^ s + next / 2 ^ r % 2 ^ s
window_of_two first next r s e small =
    let eight : r + s ≡ 8 = e in
    let sum : 256 ≡ 2 ^ (r + s) = rw eight in
    let high_part : first * 256 ≡ first * 2 ^ s * 2 ^ r = rw (sum, pow-add 2 r s, mul_comm (2 ^ r) (2 ^ s)) (sym (mul_assoc first (2 ^ s) (2 ^ r))) in
    let next_lt : next < 2 ^ (s + r) = rw (add_comm s r, ← sum) small in
    let n = first * 2 ^ s + next / 2 ^ r in
    ap (λ x. (x + next) / 2 ^ r % 256) high_part
    ∙ ap (λ x. x % 256) (mul-add-div_right (pow_pos r) (first * 2 ^ s) next)
    ∙ ap (λ x. n % x) sum
    ∙ mod-pow-add n r s
    ∙ rw (high first s (shr_lt s r next_lt), low first s (shr_lt s r next_lt), shr_mod s r next_lt)

module _ (w : SampleWindow) (p : ℕ) where
  in_first : packed 2 (8 - p % 8) (λ (i : ℕ). tick_at w (p + i)) ≡ byte_or_0 w (p / 8) % 2 ^ (8 - p % 8)
  in_first =
      let r = 8 - p % 8 in
      packed_same 2 r (λ i. tick_at w (p + i)) (λ i. byte_or_0 w (p / 8) / 2 ^ (0 + (r - 1 - i)) % 2)
      (λ i h. let q : (p + i) / 8 ≡ p / 8 = omega arith in let b : 7 - (p + i) % 8 ≡ 0 + (8 - p % 8 - 1 - i) = omega arith in tick_is w (p + i) ∙ rw (q, b))
      ∙ packed_bits r 0 (byte_or_0 w (p / 8))
      ∙ ap (λ x. x % 2 ^ r) (div-one (byte_or_0 w (p / 8)))

  in_next : packed 2 (p % 8) (λ (i : ℕ). tick_at w (p + (8 - p % 8 + i))) ≡ byte_or_0 w (p / 8 + 1) / 2 ^ (8 - p % 8) % 2 ^ (p % 8)
  in_next =
      let s = p % 8 in
      packed_same 2 s (λ i. tick_at w (p + (8 - s + i))) (λ i. byte_or_0 w (p / 8 + 1) / 2 ^ (8 - s + (s - 1 - i)) % 2)
      (λ i h. let q : (p + (8 - p % 8 + i)) / 8 ≡ p / 8 + 1 = omega arith in let b : 7 - (p + (8 - p % 8 + i)) % 8 ≡ 8 - p % 8 + (p % 8 - 1 - i) = omega arith in tick_is w (p + (8 - p % 8 + i)) ∙ rw (q, b))
      ∙ packed_bits s (8 - s) (byte_or_0 w (p / 8 + 1))

  eight : packed 2 8 (λ (i : ℕ). tick_at w (p + i))
      ≡ byte_or_0 w (p / 8) % 2 ^ (8 - p % 8) * 2 ^ (p % 8) + byte_or_0 w (p / 8 + 1) / 2 ^ (8 - p % 8) % 2 ^ (p % 8)
  eight =
      let e : 8 ≡ 8 - p % 8 + p % 8 = omega arith in
      ap (λ k. packed 2 k (λ (i : ℕ). tick_at w (p + i))) e
      ∙ packed_add 2 (8 - p % 8) (p % 8) (λ (i : ℕ). tick_at w (p + i))
      ∙ rw (in_first, in_next)

  pub two_bytes : byte_or_0 w (p / 8 + 1) < 256
      → (byte_or_0 w (p / 8) * 256 + byte_or_0 w (p / 8 + 1)) / 2 ^ (8 - p % 8) % 256 ≡ packed 2 8 (λ (i : ℕ). tick_at w (p + i))
  two_bytes small = window_of_two _ _ (8 - p % 8) (p % 8) (omega arith) small ∙ sym eight

-- ---- ten ticks in three bytes
-- a bit of two numbers side by side, the upper one and the lower one of eight bits
in_upper : (a b e : ℕ) → b < 256 → (a * 256 + b) / 2 ^ (8 + e) ≡ a / 2 ^ e
in_upper a b e small = let top : (a * 256 + b) / 2 ^ 8 ≡ a = omega arith in sym (shr-shr (a * 256 + b) 8 e) ∙ rw top

in_lower : (a b e : ℕ) → b < 256 → e < 8 → (a * 256 + b) / 2 ^ e % 2 ≡ b / 2 ^ e % 2
in_lower a b e small h =
    let eight : 7 - e + (1 + e) ≡ 8 = omega arith in
    let rest : (a * 256 + b) % 2 ^ (7 - e + (1 + e)) ≡ b % 2 ^ (7 - e + (1 + e)) = rw eight (omega arith) in
    sym (field (a * 256 + b) 1 e)
    ∙ ap (λ x. x / 2 ^ e) (sym (mod-mod-pow (a * 256 + b) (7 - e) (1 + e)) ∙ ap (λ x. x % 2 ^ (1 + e)) rest ∙ mod-mod-pow b (7 - e) (1 + e))
    ∙ field b 1 e

module _ (first second third : ℕ) (small : second < 256) (small' : third < 256) where
  abbrev three : ℕ
  three = (first * 256 + second) * 256 + third

  of_first : (e : ℕ) → three / 2 ^ (16 + e) % 2 ≡ first / 2 ^ e % 2
  of_first e =
      let sum : 16 + e ≡ 8 + (8 + e) = omega arith in
      rw (sum, in_upper (first * 256 + second) third (8 + e) small', in_upper first second e small)

  of_second : (e : ℕ) → e < 8 → three / 2 ^ (8 + e) % 2 ≡ second / 2 ^ e % 2
  of_second e h = rw (in_upper (first * 256 + second) third e small') (in_lower first second e small h)

  of_third : (e : ℕ) → e < 8 → three / 2 ^ e % 2 ≡ third / 2 ^ e % 2
  of_third e h = in_lower (first * 256 + second) third e small' h

three_bytes : (w : SampleWindow) (p first second third : ℕ)
    → first ≡ byte_or_0 w (p / 8) → second ≡ byte_or_0 w (p / 8 + 1) → third ≡ byte_or_0 w (p / 8 + 2)
    → second < 256 → third < 256
    → ((first * 256 + second) * 256 + third) / 2 ^ (14 - p % 8) % 1024 ≡ packed 2 10 (λ (i : ℕ). tick_at w (p + i))
three_bytes w p first second third e1 e2 e3 small small' =
    sym
    (packed_same 2 10 (λ i. tick_at w (p + i)) (λ i. three first second third small small' / 2 ^ (14 - p % 8 + (10 - 1 - i)) % 2) tick
    ∙ packed_bits 10 (14 - p % 8) (three first second third small small'))
  where
    tick : (i : ℕ) → i < 10 → tick_at w (p + i) ≡ three first second third small small' / 2 ^ (14 - p % 8 + (10 - 1 - i)) % 2
    tick i h = tick_is w (p + i) ∙ go (dec_lt (p % 8 + i) 8) (dec_lt (p % 8 + i) 16)
      where
        go : Dec (p % 8 + i < 8) → Dec (p % 8 + i < 16) → byte_or_0 w ((p + i) / 8) / 2 ^ (7 - (p + i) % 8) % 2 ≡ three first second third small small' / 2 ^ (14 - p % 8 + (10 - 1 - i)) % 2
        go (yes a) b =
            let place : (p + i) / 8 ≡ p / 8 = omega arith in
            let bit : 14 - p % 8 + (10 - 1 - i) ≡ 16 + (7 - (p + i) % 8) = omega arith in
            rw (place, bit, ← e1) (sym (of_first first second third small small' (7 - (p + i) % 8)))
        go (no a) (yes b) =
            let place : (p + i) / 8 ≡ p / 8 + 1 = omega (arith, a) in
            let bit : 14 - p % 8 + (10 - 1 - i) ≡ 8 + (7 - (p + i) % 8) = omega (arith, a) in
            rw (place, bit, ← e2) (sym (of_second first second third small small' (7 - (p + i) % 8) (omega arith)))
        go (no a) (no b) =
            let place : (p + i) / 8 ≡ p / 8 + 2 = omega (arith, b) in
            let bit : 14 - p % 8 + (10 - 1 - i) ≡ 7 - (p + i) % 8 = omega (arith, b) in
            rw (place, bit, ← e3) (sym (of_third first second third small small' (7 - (p + i) % 8) (omega arith)))

pub ten : (w : SampleWindow) (p first second third : ℕ)
    → first ≡ byte_or_0 w (p / 8) → second ≡ byte_or_0 w (p / 8 + 1) → third ≡ byte_or_0 w (p / 8 + 2) → second < 256 → third < 256
    → (first * 65536 + second * 256 + third) / 2 ^ (14 - p % 8) % 1024 ≡ ten_ticks w p
unfolding ten_ticks
ten w p first second third e1 e2 e3 small small' =
    let bytes : first * 65536 + second * 256 + third ≡ (first * 256 + second) * 256 + third = omega arith in
    rw bytes (three_bytes w p first second third e1 e2 e3 small small')

-- ---- one peek and three, from the start on
pub peek_past : (w : SampleWindow) (at : ℕ) → 128 ≤ at → w.len ≤ (at - 128) / 8 → 255 ≡ peek_at w (sub_ℕ at 128)
unfolding peek_at
peek_past w at h k = rw (from at h, on_false (le-ltb _ _ k))

pub peek_within : (w : SampleWindow) (at first next : ℕ) → 128 ≤ at → (at - 128) / 8 < w.len → first ≡ byte_or_0 w ((at - 128) / 8)
    → next ≡ byte_or_0 w ((at - 128) / 8 + 1) → next < 256 → (first * 256 + next) / 2 ^ (8 - (at - 128) % 8) % 256 ≡ peek_at w (sub_ℕ at 128)
unfolding peek_at
peek_within w at first next h k e d small =
    rw (from at h, on_true (lt-ltb ((at - 128) / 8) w.len k), e, d) (two_bytes w (at - 128) (rw d at small))

-- the peek that begins j ticks behind the first of ten
peek_in : (w : SampleWindow) (p j r at ticks : ℕ) → j + (8 + r) ≡ 10 → at ≡ 128 + (p + j) → (p + j) / 8 < w.len → ticks ≡ ten_ticks w p
    → ticks / 2 ^ r % 256 ≡ peek_at w (sub_ℕ at 128)
unfolding ten_ticks tick_at peek_at
peek_in w p j r at ticks e place within et =
    let q : at - 128 ≡ p + j = omega arith in
    rw (et, from at (omega arith), q, on_true (lt-ltb ((p + j) / 8) w.len within))
    (packed_part 10 j 8 r (λ i. tick_at w (p + i)) e (λ i. tick_lt w (p + i))
    ∙ packed_same 2 8 (λ i. tick_at w (p + (j + i))) (λ i. tick_at w (p + j + i)) (λ i h. ap (tick_at w) (omega arith)))

abbrev peeks : ℕ → ℕ → ℕ → BitPeeks
peeks centre early late = record { centre = centre; early = early; late = late }

pub together : (w : SampleWindow) (at ticks : ℕ) → 128 < at → (at + 1 - 128) / 8 < w.len → ticks ≡ ten_ticks w (at - 1 - 128)
    → peeks (ticks / 2 % 256) (ticks / 4 % 256) (ticks % 256) ≡ peeks_of w at
unfolding peeks_of
together w at ticks h within e =
    let p = at - 1 - 128 in
    rw (
      ← peek_in w p 1 1 at ticks (omega arith) (omega arith) (omega arith) e,
      ← peek_in w p 0 2 (at - 1) ticks (omega arith) (omega arith) (omega arith) e,
      ← peek_in w p 2 0 (at + 1) ticks (omega arith) (omega arith) (omega arith) e,
      div-one,
    )

-- ---- peeks that begin before the start
pub first_level : (w : SampleWindow) (b : ℕ) → length w.bytes ≡ 66 → b ≡ unwrap_or (byte_at w 0) 255 → b < 256
    → b / 128 ≡ pick (ltb 0 w.len) (tick_at w 0) 1
unfolding byte_at tick_at
first_level w b full e small = go (ltb 0 w.len) refl
  where
    go : (t : Bool) → ltb 0 w.len ≡ t → b / 128 ≡ pick (ltb 0 w.len) (pick (ltb 0 w.len) (get_or w.bytes 0 0 / 128 % 2) 0) 1
    go true h =
        let first = unwrap_or-slice_get w.bytes 0 255 ∙ get_or_default_zero w.bytes 0 255 (omega arith) in
        let d : b ≡ get_or w.bytes 0 0 = e ∙ simp (on_true h) first in
        simp (on_true h) (rw (← d) (omega arith))
    go false h = simp (on_false h) (rw (e ∙ ap (λ o. unwrap_or o 255) (on_false h (slice_get w.bytes 0) None)))

-- what a tick of a peek before the start is read by
pub ruleset levels = (before, from, tick_is, first_level)

pub level_lt : (w : SampleWindow) (q : ℤ) → level_before w q < 2
unfolding level_before
level_lt w (pos p) = pick_lt (ltb p w.bits) _ _ (tick_lt w p) (omega arith)
level_lt w (negsuc k) = pick_lt (ltb 0 w.len) _ _ (tick_lt w 0) (omega arith)

pub peek_before : (w : SampleWindow) (at : ℕ) → at < 128 → peek_at w (sub_ℕ at 128) ≡ packed 2 8 (λ (i : ℕ). level_before w (sub_ℕ (at + i) 128))
unfolding peek_at
peek_before w at h =
    rw (before at h)
    (packed_same 2 8 (λ i. level_before w (negsuc (127 - at) +ℤ pos i)) (λ i. level_before w (sub_ℕ (at + i) 128))
    (λ i k. ap (level_before w) (ap (λ z. z +ℤ pos i) (sym (before at h)) ∙ further at 128 i)))
