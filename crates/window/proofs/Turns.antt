-- Laws of one phase's bits: what a turn of the code's loop does at each stop, and what its sums come to. Assumes nothing.
use mathlib.Core.Path.{◌≡◌, refl, sym, ◌∙◌, ap, subst}
use mathlib.Core.Bool.{Bool, true, false}
use mathlib.Core.List.{List, [], ◌∷◌}
use Prim.Native.Nat.{ℕ, zero, suc, ◌+◌, ◌-◌, ◌*◌, ◌%◌, ◌≤◌, ◌<◌, max}
use native.Mathlib.Omega.{arith}
use native.Mathlib.Numerals.{add-one}
use native.Mathlib.Nat.{add_assoc, add-zero, zero-add}
use lib.Dec.{ltb, eqb}
use lib.IntN.{ℤ, sub_ℕ}
use lib.ListN.{length, get_or, drop, length-drop}
use lib.Seq.{drop-cons}
use borrow.Author.Tests.{lt-ltb, le-ltb, le-leb, lt-leb, ne_eqb, ltb-true, ltb-false}
use Rattle.laws.specs.Packed.{packed}
use Rattle.laws.specs.Pick.{pick}
use Rattle.laws.proofs.Picked.{on_true, on_false}
use Rattle.weight.specs.Weight.{weight_of}
use Rattle.window.specs.declared.SampleWindow.{SampleWindow}
use Rattle.window.specs.declared.PeekStop.{PeekStop}
use Rattle.window.specs.declared.PeekStop.TheVariants as stop
use Rattle.window.specs.declared.BitPeeks.{BitPeeks}
use Rattle.window.specs.declared.PeekAround.{PeekAround}
use Rattle.window.specs.declared.Reading.{Reading}
use Rattle.std.specs.Prelude.{Option, Some, None}
use Rattle.window.specs.Window.{sample_bits, peek_at}
use Rattle.window.specs.Phase.{peek_of, weight_around, stride_of, stride_around, PhaseBits, failed, weighed, after, bits_from, bits_of, score_of, data_bit, stored_bits}
use Rattle.window.specs.Code.{peeks_of, stop_of, around_of, reading, summary_of, stored_of, pushed_of}
use Rattle.window.proofs.Peeks.{moved}
use Rattle.window.proofs.Placing.{pushed_lt}

-- ---- the stride
pub stride_bounds : (c e l : ℕ) → (7 ≤ stride_of c e l) × (stride_of c e l ≤ 9)
unfolding stride_of pick
stride_bounds c e l = go (ltb (max c e) l) (ltb c e)
  where
    go : (a b : Bool) → (7 ≤ pick a 9 (pick b 7 8)) × (pick a 9 (pick b 7 8) ≤ 9)
    go true b = omega arith
    go false true = omega arith
    go false false = omega arith

pub pmax_bounds : (w : SampleWindow) (phase : ℤ) (p : ℕ) (a : PeekAround) → a ≡ around_of w phase p → (7 ≤ a.pmax) × (a.pmax ≤ 9)
unfolding around_of stride_around
pmax_bounds w phase p a e = subst (λ (x : PeekAround). (7 ≤ x.pmax) × (x.pmax ≤ 9)) (sym e) (stride_bounds _ _ _)

-- ---- the peeks of a bit
-- a peek from the earliest position on is the phase's peek at a bit's position
at_phase : (w : SampleWindow) (p b at : ℕ) → at ≡ p + b → peek_at w (sub_ℕ at 128) ≡ peek_of w (sub_ℕ b 128) p
at_phase w p b at e = ap (λ n. peek_at w (sub_ℕ n 128)) e ∙ ap (peek_at w) (sym (moved p b 128))

pub around : (w : SampleWindow) (p b : ℕ) → 1 ≤ p → {peeks : BitPeeks} {c e l m n k : ℕ} {stop : PeekStop}
    → peeks ≡ peeks_of w (p + b) → c ≡ weight_of peeks.centre → e ≡ weight_of peeks.early → l ≡ weight_of peeks.late
    → m ≡ max c e → n ≡ max m l → k ≡ stride_of c e l → stop ≡ stop_of peeks.late
    → record { weightmax = n; pmax = k; stop = stop } ≡ around_of w (sub_ℕ b 128) p
unfolding around_of weight_around stride_around peeks_of
around w p b h ep ec ee el em en ek estop =
    rw (
      en,
      em,
      ek,
      estop,
      ec,
      ee,
      el,
      ep,
      at_phase w p b (p + b) (omega arith),
      at_phase w (p - 1) b (p + b - 1) (omega arith),
      at_phase w (p + 1) b (p + b + 1) (omega arith),
    )

-- ---- a turn
-- by the stop that the late peek gives
abbrev pub on_stop : {A : Type 0} → PeekStop → A → A → A → A
on_stop stop.Idle end fail on = end
on_stop stop.Held end fail on = fail
on_stop stop.None end fail on = on

on_stop_lem : {A : Type 0} (s : ℕ) (end fail on : A) → pick (eqb s 255) end (pick (eqb s 0) fail on) ≡ on_stop (stop_of s) end fail on
unfolding stop_of pick
on_stop_lem s end fail on = go (eqb s 255) (eqb s 0)
  where
    go : (a b : Bool) → pick a end (pick b fail on) ≡ on_stop (pick a stop.Idle (pick b stop.Held stop.None)) end fail on
    go true b = refl
    go false true = refl
    go false false = refl

module _ (w : SampleWindow) (most : ℕ) (phase : ℤ) where
  pub at_end : (f p len : ℕ) → sample_bits w ≤ p + 1 → bits_from f w most phase p len ≡ weighed []
  unfolding bits_from
  at_end zero p len h = refl
  at_end (suc f) p len h = rw (on_false (le-ltb (p + 1) (sample_bits w) h))

  pub at_most : (f p len : ℕ) → p + 1 < sample_bits w → most < len → bits_from f w most phase p len ≡ weighed []
  unfolding bits_from
  at_most zero p len h k = refl
  at_most (suc f) p len h k = rw (on_true (lt-ltb (p + 1) (sample_bits w) h), on_false (lt-leb len most k))

  turn : (f p len : ℕ) (a : PeekAround) → a ≡ around_of w phase p → p + 1 < sample_bits w → len ≤ most
      → bits_from (suc f) w most phase p len ≡ on_stop a.stop (weighed []) failed (after a.weightmax (bits_from f w most phase (p + a.pmax) (len + 1)))
  unfolding bits_from around_of
  turn f p len a e h k =
      rw (on_true (lt-ltb (p + 1) (sample_bits w) h), on_true (le-leb len most k), e)
      (on_stop_lem (peek_of w phase (p + 1)) (weighed []) failed (after (weight_around w phase p) (bits_from f w most phase (p + stride_around w phase p) (len + 1))))

-- ---- what was read so far, with the bits that follow
-- one bit more
abbrev pub with_bit : Reading → ℕ → Reading
with_bit r x = reading (r.bit_len + 1) (r.score + x) (pushed_of r.bits r.bit_len x)

read_all : Reading → List ℕ → Reading
read_all r [] = r
read_all r (x ∷ xs) = read_all (with_bit r x) xs

joined : Reading → PhaseBits → Option Reading
joined r failed = None
joined r (weighed ws) = Some (read_all r ws)

-- what the phase reads in all, if it is at a position and has read this
pub in_all : SampleWindow → ℕ → ℤ → ℕ → Reading → Option Reading
in_all w most phase p r = joined r (bits_from (73 - r.bit_len) w most phase p r.bit_len)

split : (r : Reading) (x : ℕ) (rest : PhaseBits) (s : PeekStop)
    → on_stop s (Some r) None (joined (with_bit r x) rest) ≡ joined r (on_stop s (weighed []) failed (after x rest))
unfolding joined read_all
split r x rest stop.Idle = refl
split r x rest stop.Held = refl
split r x failed stop.None = refl
split r x (weighed ws) stop.None = refl

module _ (w : SampleWindow) (most : ℕ) (phase : ℤ) (p : ℕ) (r : Reading) (x : Option Reading) (inv : in_all w most phase p r ≡ x) where
  pub at_its_end : sample_bits w ≤ p + 1 → Some r ≡ x
  unfolding in_all joined read_all
  at_its_end h = rw at_end at inv

  pub at_its_most : p + 1 < sample_bits w → most < r.bit_len → Some r ≡ x
  unfolding in_all joined read_all
  at_its_most h k = rw at_most at inv

  module _ (low : 1 + 7 * r.bit_len ≤ p) (within : p + 1 < sample_bits w) (k : r.bit_len ≤ most) (a : PeekAround) (e : a ≡ around_of w phase p) where
    turned : (s : PeekStop) → a.stop ≡ s → on_stop s (Some r) None (in_all w most phase (p + a.pmax) (with_bit r a.weightmax)) ≡ x
    unfolding in_all
    turned s es =
        let ef : 73 - r.bit_len ≡ suc (73 - (r.bit_len + 1)) = omega arith in
        let rest = bits_from (73 - (r.bit_len + 1)) w most phase (p + a.pmax) (r.bit_len + 1) in
        let one : joined r (on_stop s (weighed []) failed (after a.weightmax rest)) ≡ x =
        ap (λ z. joined r (on_stop z (weighed []) failed (after a.weightmax rest))) (sym es)
        ∙ ap (joined r) (sym (turn w most phase (73 - (r.bit_len + 1)) p r.bit_len a e within k))
        ∙ (rw ef at inv) in
        split r a.weightmax rest s ∙ one

    pub idle : a.stop ≡ stop.Idle → Some r ≡ x
    idle = turned stop.Idle

    pub held : a.stop ≡ stop.Held → None ≡ x
    held = turned stop.Held

    pub goes_on : a.stop ≡ stop.None → in_all w most phase (p + a.pmax) (with_bit r a.weightmax) ≡ x
    goes_on = turned stop.None

-- ---- all of them
module _ (all : List ℕ) where
  pushed_one : (len v x : ℕ) → x ≡ get_or all len 0 → v ≡ packed 2 (stored_of len) (data_bit all) → pushed_of v len x ≡ packed 2 (stored_of (len + 1)) (data_bit all)
  unfolding pushed_of packed
  pushed_one zero v x ex ev = rw (on_true {t = eqb 0 0} refl) ev
  pushed_one (suc n) v x ex ev = rw (on_false (ne_eqb (suc n) 0 (omega arith))) (go (ltb 64 (suc n)) refl)
    where
      go : (t : Bool) → ltb 64 (suc n) ≡ t → pick (ltb 64 (suc n)) v (v * 2 + x % 2) ≡ packed 2 (stored_of (suc n + 1)) (data_bit all)
      go true e =
          let s : stored_of (suc n + 1) ≡ stored_of (suc n) = omega (arith, ltb-true 64 (suc n) e) in
          rw (on_true e, s) ev
      go false e =
          let s : stored_of (suc n + 1) ≡ suc n = omega (arith, ltb-false 64 (suc n) e) in
          let d : stored_of (suc n) ≡ n = omega (arith, ltb-false 64 (suc n) e) in
          rw (on_false e, s, ev, d, ex) (ap (λ (j : ℕ). packed 2 n (data_bit all) * 2 + get_or all j 0 % 2) (sym (add-one n)))

  all_read : (rest : List ℕ) (r : Reading) → drop r.bit_len all ≡ rest → r.bit_len ≤ length all → r.bits ≡ packed 2 (stored_of r.bit_len) (data_bit all)
      → read_all r rest ≡ reading (r.bit_len + length rest) (r.score + score_of rest) (packed 2 (stored_bits all) (data_bit all))
  unfolding read_all score_of
  all_read [] r e h ev =
      let n : length all - r.bit_len ≡ 0 = sym (length-drop r.bit_len all) ∙ ap length e in
      let l : r.bit_len ≡ length all = omega arith in
      let bits : r.bits ≡ packed 2 (stored_bits all) (data_bit all) = ev ∙ rw l in
      simp (add-zero, ← bits)
  all_read (x ∷ xs) r e h ev =
      let n : length all - r.bit_len ≡ suc (length xs) = sym (length-drop r.bit_len all) ∙ ap length e in
      let k : r.bit_len < length all = omega arith in
      let d = drop-cons all r.bit_len 0 k in
      let ex : x ≡ get_or all r.bit_len 0 = cc in
      let es : drop (suc r.bit_len) all ≡ xs = cc in
      let sum : r.bit_len + suc (length xs) ≡ r.bit_len + 1 + length xs = omega arith in
      rw (sum, ← add_assoc r.score x (score_of xs))
      (all_read xs (with_bit r x) (rw (add-one r.bit_len) es) (omega arith) (pushed_one r.bit_len r.bits x ex ev))

pub from_the_start : (w : SampleWindow) (most : ℕ) (phase : ℤ) → in_all w most phase 1 (reading 0 0 0) ≡ summary_of (bits_of w most phase)
unfolding in_all bits_of joined summary_of packed
from_the_start w most phase = go (bits_from 73 w most phase 1 0)
  where
    go : (r : PhaseBits) → joined (reading 0 0 0) r ≡ summary_of r
    go failed = refl
    go (weighed ws) = simp zero-add at (ap Some (all_read ws ws (reading 0 0 0) refl (omega arith) refl))

-- what a turn of the loop of `read_phase` needs
pub ruleset turns = (pmax_bounds, at_its_end, idle, held, goes_on, pushed_lt)
