-- Going through the ticks one by one finds the longest low run. Assumes nothing.
use mathlib.Core.Bool.{Bool, true, false}
use mathlib.Core.Path.{◌≡◌, refl, ◌∙◌, ap}
use mathlib.Core.List.{List, [], ◌∷◌, ◌++◌}
use Prim.Native.Nat.{ℕ, zero, suc, ◌+◌, ◌-◌, ◌≤◌, max}
use native.Mathlib.Omega.{arith}
use native.Mathlib.Nat.{zero-add, sub-zero}
use lib.Dec.{eqb}
use Rattle.laws.specs.Tabulate.{tabulate}
use Rattle.laws.proofs.Picked.{on_true, on_false, cases}
use Rattle.laws.proofs.Tabulated.{tabulate_add, tabulate_same}
use Rattle.rx_decode.specs.declared.LowRuns.{LowRuns}
use Rattle.rx_decode.specs.Reading.{lows_first, longest_low}
use Rattle.rx_decode.specs.Code.{low_runs, after_tick, after_ticks}

pub first-≤ : (levels : List ℕ) → lows_first levels ≤ longest_low levels
unfolding longest_low lows_first
first-≤ [] = omega arith
first-≤ (level ∷ levels) = omega arith

abbrev best_of : ℕ → ℕ → List ℕ → ℕ
best_of b r levels = max b (max (r + lows_first levels) (longest_low levels))

low_tick : (b r l g : ℕ) → r ≤ b → max (max b (r + 1)) (max (r + 1 + l) g) ≡ max b (max (r + suc l) (max (suc l) g))
low_tick b r l g h = omega arith

high_tick : (b r l g : ℕ) → r ≤ b → l ≤ g → max b (max (0 + l) g) ≡ max b (max (r + 0) (max 0 g))
high_tick b r l g h first = omega arith

one_tick : (b r level : ℕ) (levels : List ℕ) → r ≤ b
    → (after_ticks (low_runs (max b (r + 1)) (r + 1)) levels).best ≡ best_of (max b (r + 1)) (r + 1) levels
    → (after_ticks (low_runs b 0) levels).best ≡ best_of b 0 levels
    → (after_ticks (low_runs b r) (level ∷ levels)).best ≡ best_of b r (level ∷ levels)
unfolding after_ticks after_tick longest_low lows_first
one_tick b r level levels h low high = go (eqb level 0) refl
  where
    go : (t : Bool) → eqb level 0 ≡ t → (after_ticks (after_tick (low_runs b r) level) levels).best ≡ best_of b r (level ∷ levels)
    go true e = simp (on_true e, low) (low_tick b r (lows_first levels) (longest_low levels) h)
    go false e = simp (on_false e, high) (high_tick b r (lows_first levels) (longest_low levels) h (first-≤ levels))

-- the best of what was known, of the run that goes on and of the runs to come
best_of_lem : (b r : ℕ) (levels : List ℕ) → r ≤ b → (after_ticks (low_runs b r) levels).best ≡ best_of b r levels
unfolding after_ticks longest_low lows_first
best_of_lem b r [] h = omega arith
best_of_lem b r (level ∷ levels) h =
    one_tick b r level levels h (best_of_lem (max b (r + 1)) (r + 1) levels (omega arith)) (best_of_lem b 0 levels (omega arith))

pub longest : (levels : List ℕ) → (after_ticks (low_runs 0 0) levels).best ≡ longest_low levels
longest levels = let h = first-≤ levels in best_of_lem 0 0 levels (omega arith) ∙ omega (arith, h)

-- ---- in parts
in_parts : (runs : LowRuns) (a b : List ℕ) → after_ticks runs (a ++ b) ≡ after_ticks (after_ticks runs a) b
unfolding after_ticks
in_parts runs [] b = refl
in_parts runs (level ∷ a) b = in_parts (after_tick runs level) a b

-- the ticks from one on
abbrev pub ticks_from : (ℕ → ℕ) → ℕ → ℕ → List ℕ
ticks_from f at n = tabulate (n - at) (λ k. f (at + k))

pub turn : (f : ℕ → ℕ) (at step n : ℕ) → at + step ≤ n → (runs : LowRuns)
    → after_ticks runs (ticks_from f at n) ≡ after_ticks (after_ticks runs (tabulate step (λ k. f (at + k)))) (ticks_from f (at + step) n)
turn f at step n h runs =
    let e : n - at ≡ step + (n - (at + step)) = omega arith in
    let same = tabulate_same (n - (at + step)) (λ k. f (at + (step + k))) (λ k. f (at + step + k)) (λ k h. ap f (omega arith)) in
    rw (e, tabulate_add step (n - (at + step)) (λ k. f (at + k)), in_parts, same)

pub from_start : (f : ℕ → ℕ) (n : ℕ) → ticks_from f 0 n ≡ tabulate n f
from_start f n = rw (sub-zero n) (tabulate_same n (λ k. f (0 + k)) f (λ k h. ap f (zero-add k)))

pub at_end : (f : ℕ → ℕ) (at n : ℕ) → n ≤ at → (runs : LowRuns) → after_ticks runs (ticks_from f at n) ≡ runs
unfolding tabulate after_ticks
at_end f at n h runs = let e : n - at ≡ 0 = omega arith in rw e

-- a run grows by at most one tick a tick
pub tick-≤ : (runs : LowRuns) (level : ℕ) → (after_tick runs level).run ≤ runs.run + 1
unfolding after_tick
tick-≤ runs level = cases (λ (r : LowRuns). r.run ≤ runs.run + 1) (eqb level 0) (λ e. omega arith) (λ e. omega arith)

pub ticks-≤ : (n : ℕ) (f : ℕ → ℕ) (runs : LowRuns) → (after_ticks runs (tabulate n f)).run ≤ runs.run + n
unfolding tabulate after_ticks
ticks-≤ zero f runs = omega arith
ticks-≤ (suc n) f runs = let h = tick-≤ runs (f 0) in let hs = ticks-≤ n (λ i. f (suc i)) (after_tick runs (f 0)) in omega arith
