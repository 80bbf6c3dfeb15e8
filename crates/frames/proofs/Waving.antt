-- How high a wave runs: no sixteen high ticks running before its last low tick, and as many as one likes behind it. Assumes nothing.
use Prim.Native.Nat.{ℕ, zero, suc, ◌+◌, ◌-◌, ◌*◌, ◌/◌, ◌<◌, ◌≤◌}
use native.Mathlib.Omega.{arith}
use native.Mathlib.Decide.{dec_lt}
use native.Mathlib.Nat.{add-zero, add-suc}
use mathlib.Core.Bool.{Bool, true, false, not}
use mathlib.Core.List.{List}
use mathlib.Core.Path.{◌≡◌, refl, ◌∙◌, ap}
use lib.ListN.{length}
use Rattle.laws.proofs.Picked.{on_true, on_false, cases}
use Rattle.halfbits.specs.Wave.{high, low, level_at}
use Rattle.halfbits.proofs.Levels.{bit_of, first_level, second_level, later_level}
use Rattle.station_theorems.specs.Ticks.{highs_running}

-- ---- any levels
module _ (level : ℕ → Bool) (j : ℕ) (falls : level j ≡ low) where
  -- no more are running than came after a low one
  pub highs_since : (i : ℕ) → highs_running (suc j + i) level ≤ i
  unfolding highs_running
  highs_since zero = rw (add-zero (suc j)) (simp (on_false falls) (omega arith))
  highs_since (suc i) = rw (add-suc (suc j) i) (cases (λ n. n ≤ suc i) (level (suc j + i)) (λ e. let before = highs_since i in omega arith) (λ e. omega arith))

  -- and as many, if all of them are high
  pub highs_all : (i : ℕ) → ((k : ℕ) → k < i → level (suc j + k) ≡ high) → highs_running (suc j + i) level ≡ i
  unfolding highs_running
  highs_all zero all = rw (add-zero (suc j)) (simp (on_false falls))
  highs_all (suc i) all = rw (add-suc (suc j) i) (simp (on_true (all i (omega arith))) (ap suc (highs_all i (λ k h. all k (omega arith)))))

-- ---- a wave
-- the last low tick of a bit
abbrev pub low_in : Bool → ℕ
low_in true = 3
low_in false = 7

pub low_in_bounds : (b : Bool) → (3 ≤ low_in b) × (low_in b ≤ 7)
low_in_bounds true = (omega arith, omega arith)
low_in_bounds false = (omega arith, omega arith)

module _ (frame : List Bool) where
  low_tick : (k : ℕ) → k ≤ length frame → (b : Bool) → bit_of frame k ≡ b → level_at frame (8 * k + low_in b) ≡ low
  low_tick k h true e = first_level frame k 3 h (omega arith) ∙ ap not e
  low_tick k h false e = second_level frame k 3 h (omega arith) ∙ e

  -- the last of all
  abbrev pub last_low : ℕ
  last_low = 8 * length frame + low_in (bit_of frame (length frame))

  pub last_falls : level_at frame last_low ≡ low
  last_falls = low_tick (length frame) (omega arith) (bit_of frame (length frame)) refl

  -- past it the line is high: in the last bit's own high half, and behind that bit
  after : (b : Bool) → bit_of frame (length frame) ≡ b → (i : ℕ) → level_at frame (suc (8 * length frame + low_in b) + i) ≡ high
  after b e i = go b e (dec_lt i 4)
    where
      go : (b : Bool) → bit_of frame (length frame) ≡ b → Dec (i < 4) → level_at frame (suc (8 * length frame + low_in b) + i) ≡ high
      go true e (yes own) =
          let p : suc (8 * length frame + 3) + i ≡ 8 * length frame + (4 + i) = omega arith in
          ap (level_at frame) p ∙ second_level frame (length frame) i (omega arith) own ∙ e
      go true e (no past) =
          let p : suc (8 * length frame + 3) + i ≡ 8 * suc (length frame) + (i - 4) = omega (arith, past) in
          ap (level_at frame) p ∙ later_level frame (suc (length frame)) (i - 4) (omega arith)
      go false e half =
          let p : suc (8 * length frame + 7) + i ≡ 8 * suc (length frame) + i = omega arith in
          ap (level_at frame) p ∙ later_level frame (suc (length frame)) i (omega arith)

  pub after_last : (i : ℕ) → level_at frame (suc last_low + i) ≡ high
  after_last i = after (bit_of frame (length frame)) refl i

  since : (j m : ℕ) → level_at frame j ≡ low → j < m → m ≤ j + 16 → highs_running m (level_at frame) ≤ 15
  since j m falls later near =
      let e : m ≡ suc j + (m - suc j) = omega arith in
      let few = highs_since (level_at frame) j falls (m - suc j) in
      rw e (omega arith)

  -- Fewer than sixteen are running up to there: the start has a low tick, and so have the bit before and the last one.
  up_to : (m k : ℕ) → k ≡ m / 8 - 1 → m < last_low + 16 → Dec (m < 16) → Dec (length frame < k) → highs_running (suc m) (level_at frame) ≤ 15
  up_to m k e h (yes early) past = since 0 (suc m) (first_level frame 0 0 (omega arith) (omega arith)) (omega arith) (omega arith)
  up_to m k e h (no late) (no within) =
      let b = low_in_bounds (bit_of frame k) in
      since (8 * k + low_in (bit_of frame k)) (suc m) (low_tick k (omega (arith, within)) (bit_of frame k) refl) (omega (arith, late)) (omega (arith, late))
  up_to m k e h (no late) (yes past) = let b = low_in_bounds (bit_of frame (length frame)) in since last_low (suc m) last_falls (omega arith) (omega arith)

  pub short : (m : ℕ) → m ≤ last_low + 16 → highs_running m (level_at frame) ≤ 15
  unfolding highs_running
  short zero h = omega arith
  short (suc m) h = up_to m (m / 8 - 1) refl h (dec_lt m 16) (dec_lt (length frame) (m / 8 - 1))

  pub sixteen : highs_running (last_low + 17) (level_at frame) ≡ 16
  sixteen = let e : last_low + 17 ≡ suc last_low + 16 = omega arith in rw e (highs_all (level_at frame) last_low last_falls 16 (λ k h. after_last k))

  pub runs_on : (t : ℕ) → last_low + 17 ≤ t → 16 ≤ highs_running t (level_at frame)
  runs_on t h =
      let e : t ≡ suc last_low + (t - suc last_low) = omega arith in
      let highs = highs_all (level_at frame) last_low last_falls (t - suc last_low) (λ k p. after_last k) in
      rw e (omega (arith, highs))
