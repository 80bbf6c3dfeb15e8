-- Phase 0 reads each bit of a wave as what it is, with one low tick in front of the wave or none. Assumes nothing.
use Prim.Native.Nat.{ℕ, zero, suc, ◌+◌, ◌-◌, ◌*◌, ◌/◌, ◌<◌, ◌≤◌, max}
use native.Mathlib.Omega.{arith}
use native.Mathlib.Decide.{dec_lt}
use native.Mathlib.Nat.{add-zero, zero-add, suc-add}
use native.Mathlib.Numerals.{add-one}
use mathlib.Core.Bool.{Bool, true, false}
use mathlib.Core.List.{List, [], ◌∷◌, ◌++◌}
use mathlib.Core.Path.{◌≡◌, refl, sym, ◌∙◌, ap}
use lib.Dec.{eqb}
use lib.IntN.{pos}
use lib.ListN.{length, get_or, drop, get_or-append, drop_of_length-le}
use lib.Seq.{drop-cons, get_or_at}
use borrow.Author.Tests.{lt-ltb, le-leb}
use Rattle.laws.specs.Bit.{bit}
use Rattle.laws.specs.Packed.{packed}
use Rattle.laws.specs.Pick.{pick}
use Rattle.laws.proofs.Picked.{on_true, on_false}
use Rattle.laws.proofs.Digits.{packed_same}
use Rattle.weight.specs.Weight.{bit_weight, half_weight, folded, weight_of}
use Rattle.window.specs.declared.SampleWindow.{SampleWindow}
use Rattle.window.specs.Window.{sample_bits, tick_at, peek_at}
use Rattle.window.specs.Phase.{peek_of, weight_around, stride_of, stride_around, weighed, bits_from, bits_of}
use Rattle.window.proofs.Turns.{at_end, at_most}
use Rattle.halfbits.specs.Wave.{high, bit_wave, level_at}
use Rattle.halfbits.proofs.Levels.{bit_of, eight, in_bit, later_level}
use Rattle.frames.specs.ReadAs.{clean_weight, clean_weights, frame_weights}
use Rattle.station_theorems.proofs.Capturing.{digit}
use Rattle.frames.proofs.Listening.{late}

-- ---- eight of some levels as a byte, j behind the first
abbrev pub byte_from : List Bool → ℕ → ℕ
byte_from levels j = packed 2 8 (λ i. bit (get_or levels (j + i) high))

-- what ten levels are read as: the best of their three peeks, the stride to the next bit, and whether the late peek ends the phase or
-- holds the line
pub record Read : Type 0 where
  pub weight : ℕ
  pub stride : ℕ
  pub ends : Bool
  pub holds : Bool

abbrev pub read_of : List Bool → Read
read_of levels = let c = weight_of (byte_from levels 1) in let e = weight_of (byte_from levels 0) in let l = weight_of (byte_from levels 2) in
    record { weight = max (max c e) l; stride = stride_of c e l; ends = eqb (byte_from levels 2) 255; holds = eqb (byte_from levels 2) 0 }

abbrev pub goes_on : ℕ → ℕ → Read
goes_on weight stride = record { weight = weight; stride = stride; ends = false; holds = false }

-- a bit between any two levels: the centre wins
whole_bit : (before b behind : Bool) → read_of (before ∷ (bit_wave b ++ (behind ∷ []))) ≡ goes_on (clean_weight b) 8
unfolding bit_wave packed weight_of folded half_weight bit_weight stride_of pick
whole_bit true true true = refl
whole_bit true true false = refl
whole_bit true false true = refl
whole_bit true false false = refl
whole_bit false true true = refl
whole_bit false true false = refl
whole_bit false false true = refl
whole_bit false false false = refl

-- a start bit from its first tick on, whatever comes behind it: the early peek wins
start_bit : (x y : Bool) → read_of (bit_wave true ++ (x ∷ y ∷ [])) ≡ goes_on 25 7
unfolding bit_wave packed weight_of folded half_weight bit_weight stride_of pick
start_bit true true = refl
start_bit true false = refl
start_bit false true = refl
start_bit false false = refl

-- ---- peeks in a window that shows some levels
module _ (w : SampleWindow) (level : ℕ → Bool) (shown : (p : ℕ) → p < 8 * w.len → tick_at w p ≡ digit level p) where
  peek : (p : ℕ) → p + 7 < 8 * w.len → peek_of w (pos 0) p ≡ packed 2 8 (λ i. digit level (p + i))
  unfolding peek_at
  peek p h =
      let within : p / 8 < w.len = omega arith in
      rw (add-zero p, on_true (lt-ltb (p / 8) w.len within))
      (packed_same 2 8 (λ i. tick_at w (p + i)) (λ i. digit level (p + i)) (λ i k. shown (p + i) (omega arith)))

  module _ (p : ℕ) (levels : List Bool) (same : (i : ℕ) → i < 10 → level (p + i) ≡ get_or levels i high) (room : p + 9 < 8 * w.len) where
    peek_at_lem : (j : ℕ) → j < 3 → (q : ℕ) → q ≡ p + j → peek_of w (pos 0) q ≡ byte_from levels j
    peek_at_lem j h q e =
        peek q (omega arith)
        ∙ packed_same 2 8 (λ i. digit level (q + i)) (λ i. bit (get_or levels (j + i) high))
        (λ i k. ap (digit level) (let f : q + i ≡ p + (j + i) = omega arith in f) ∙ ap bit (same (j + i) (omega arith)))

    -- one bit is read, and the others follow
    pub one_bit : (weight stride : ℕ) → read_of levels ≡ goes_on weight stride → (most left len : ℕ) (more : List ℕ) → p + 2 < sample_bits w → len ≤ most
        → bits_from left w most (pos 0) (p + 1 + stride) (len + 1) ≡ weighed more → bits_from (suc left) w most (pos 0) (p + 1) len ≡ weighed (weight ∷ more)
    unfolding bits_from weight_around stride_around
    one_bit weight stride r most left len more inside few rest =
        let early = peek_at_lem 0 (omega arith) (p + 1 - 1) (omega arith) in
        let centre = peek_at_lem 1 (omega arith) (p + 1) refl in
        let late = peek_at_lem 2 (omega arith) (p + 1 + 1) (omega arith) in
        let samples : p + 1 + 1 < sample_bits w = omega arith in
        let goes : (read_of levels).ends ≡ false = ap (λ (x : Read). x.ends) r in
        let free : (read_of levels).holds ≡ false = ap (λ (x : Read). x.holds) r in
        let weighs : (read_of levels).weight ≡ weight = ap (λ (x : Read). x.weight) r in
        let strides : (read_of levels).stride ≡ stride = ap (λ (x : Read). x.stride) r in
        let here = lt-ltb (p + 1 + 1) (sample_bits w) samples in
        simp (on_true here, on_true (le-leb len most few), early, centre, late, on_false goes, on_false free, weighs, strides, rest)

-- ---- a wave behind d low ticks
pub late_at : (level : ℕ → Bool) (d q : ℕ) → late d level (d + q) ≡ level q
late_at level zero q = ap level (zero-add q)
late_at level (suc d) q = ap (late (suc d) level) (suc-add d q) ∙ late_at level d q

module _ (frame : List Bool) (d : ℕ) (w : SampleWindow) (shown : (p : ℕ) → p < 8 * w.len → tick_at w p ≡ digit (late d (level_at frame)) p)
    (padded : sample_bits w + 8 ≤ 8 * w.len) (room : d + 8 * length frame + 16 ≤ sample_bits w) (most : ℕ) (fits : length frame ≤ most) where
  abbrev level : ℕ → Bool
  level = late d (level_at frame)

  abbrev around : ℕ → Bool → List Bool
  around p b = level p ∷ (bit_wave b ++ (level (p + 9) ∷ []))

  in_wave : (p q : ℕ) → p ≡ d + q → level p ≡ level_at frame q
  in_wave p q e = ap level e ∙ late_at (level_at frame) d q

  -- the ten levels around bit k
  at_bit : (p k : ℕ) → p + 1 ≡ d + 8 * k → k ≤ length frame → (i : ℕ) → i < 10 → level (p + i) ≡ get_or (around p (bit_of frame k)) i high
  at_bit p k e h zero t = ap level (add-zero p)
  at_bit p k e h (suc j) t = go (dec_lt j 8)
    where
      go : Dec (j < 8) → level (p + suc j) ≡ get_or (bit_wave (bit_of frame k) ++ (level (p + 9) ∷ [])) j high
      go (yes own) =
          in_wave (p + suc j) (8 * k + j) (omega arith) ∙ in_bit frame k j h own
          ∙ sym (get_or-append (bit_wave (bit_of frame k)) (level (p + 9) ∷ []) high j (omega (arith, eight (bit_of frame k))))
      go (no behind) =
          let last : j ≡ 8 = omega (arith, behind) in
          ap level (let f : p + suc j ≡ p + 9 = omega arith in f)
          ∙ sym (get_or_at (bit_wave (bit_of frame k)) (level (p + 9)) [] high j (eight (bit_of frame k) ∙ sym last))

  -- behind the last bit the line is idle
  past : (left p : ℕ) → p ≡ d + 8 * suc (length frame) → bits_from left w most (pos 0) p (suc (length frame)) ≡ weighed []
  unfolding bits_from packed pick
  past zero p e = refl
  past (suc left) p e = go (dec_lt (p + 1) (sample_bits w)) (dec_lt most (suc (length frame)))
    where
      idle : p + 1 < sample_bits w → peek_of w (pos 0) (p + 1) ≡ 255
      idle h =
          peek w level shown (p + 1) (omega arith)
          ∙ packed_same 2 8 (λ i. digit level (p + 1 + i)) (λ i. 1)
          (λ i k. ap bit (in_wave (p + 1 + i) (8 * suc (length frame) + (1 + i)) (omega arith) ∙ later_level frame (suc (length frame)) (1 + i) (omega arith)))

      go : Dec (p + 1 < sample_bits w) → Dec (most < suc (length frame)) → bits_from (suc left) w most (pos 0) p (suc (length frame)) ≡ weighed []
      go (no over) full = at_end w most (pos 0) (suc left) p (suc (length frame)) (omega (arith, over))
      go (yes h) (yes full) = at_most w most (pos 0) (suc left) p (suc (length frame)) h full
      go (yes h) (no more) = simp (on_true (lt-ltb (p + 1) (sample_bits w) h), on_true (le-leb (suc (length frame)) most (omega (arith, more))), idle h)

  -- the bits from bit k on, r of them
  walk : (r k left p : ℕ) → r + k ≡ suc (length frame) → r ≤ left → p + 1 ≡ d + 8 * k
      → bits_from left w most (pos 0) (p + 1) k ≡ weighed (clean_weights (drop k (true ∷ frame)))
  unfolding clean_weights
  walk zero k left p e h at =
      let last : k ≡ suc (length frame) = omega arith in
      rw (last, drop_of_length-le (true ∷ frame) {i = suc (length frame)} (omega arith)) (past left (p + 1) (omega arith))
  walk (suc r) k zero p e h at = absurd (let none : ⊥ = omega arith in none)
  walk (suc r) k (suc left) p e h at =
      let next : p + 1 + 8 ≡ p + 8 + 1 = omega arith in
      let rest = walk r (suc k) left (p + 8) (omega arith) (omega arith) (omega arith) in
      rw (drop-cons (true ∷ frame) k true (omega arith))
      (one_bit w level shown p (around p (bit_of frame k)) (at_bit p k at (omega arith)) (omega arith) (clean_weight (bit_of frame k)) 8
      (whole_bit (level p) (bit_of frame k) (level (p + 9))) most left k (clean_weights (drop (suc k) (true ∷ frame))) (omega arith) (omega arith) (rw (next, add-one k) rest))

  -- the first ten levels of a wave with no tick in front
  at_start : d ≡ 0 → (i : ℕ) → i < 10 → level (0 + i) ≡ get_or (bit_wave true ++ (level 8 ∷ level 9 ∷ [])) i high
  unfolding bit_wave
  at_start none i t = go (dec_lt i 8) (dec_lt i 9)
    where
      go : Dec (i < 8) → Dec (i < 9) → level (0 + i) ≡ get_or (bit_wave true ++ (level 8 ∷ level 9 ∷ [])) i high
      go (yes own) next =
          in_wave (0 + i) (8 * 0 + i) (omega arith) ∙ in_bit frame 0 i (omega arith) own
          ∙ sym (get_or-append (bit_wave true) (level 8 ∷ level 9 ∷ []) high i own)
      go (no behind) (yes next) = let e : i ≡ 8 = omega (arith, behind) in rw e
      go (no behind) (no second) = let e : i ≡ 9 = omega (arith, second) in rw e

  -- Its start bit is read from its second tick on; with a tick in front, from its first.
  pub reads : d ≤ 1 → length frame ≤ 59 → bits_of w most (pos 0) ≡ weighed (frame_weights frame)
  unfolding bits_of frame_weights clean_weights
  reads few short = go (dec_lt d 1)
    where
      go : Dec (d < 1) → bits_of w most (pos 0) ≡ weighed (frame_weights frame)
      go (yes none) =
          one_bit w level shown 0 (bit_wave true ++ (level 8 ∷ level 9 ∷ [])) (at_start (omega arith)) (omega arith) 25 7
          (start_bit (level 8) (level 9)) most 72 0 (clean_weights frame) (omega arith) (omega arith)
          (walk (length frame) 1 72 7 (omega arith) (omega arith) (omega arith))
      go (no one) = walk (suc (length frame)) 0 73 0 (omega arith) (omega arith) (omega (arith, one))
