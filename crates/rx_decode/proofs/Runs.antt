-- The longest low run is one, and none is longer. Assumes nothing.
use mathlib.Core.Path.{◌≡◌}
use mathlib.Core.List.{List, [], ◌∷◌}
use Prim.Native.Nat.{ℕ, zero, suc, ◌+◌, ◌≤◌, ◌<◌, max}
use native.Mathlib.Omega.{arith}
use native.Mathlib.Nat.{zero-add, suc-add}
use native.Mathlib.Decide.{dec_lt}
use lib.Dec.{eqb}
use lib.ListN.{get_or}
use borrow.Author.Tests.{eqb-true, eqb-false}
use Rattle.laws.proofs.Picked.{cases}
use Rattle.rx_decode.specs.Reading.{lows_first, longest_low}
use Rattle.rx_decode.specs.LowRun.{LowFrom, LongestLowRun}

-- ---- one tick more in front
later : (level : ℕ) (levels : List ℕ) (place ticks : ℕ) → LowFrom levels place ticks → LowFrom (level ∷ levels) (suc place) ticks
later level levels place ticks low i h = rw (suc-add place i) (low i h)

earlier : (level : ℕ) (levels : List ℕ) (place ticks : ℕ) → LowFrom (level ∷ levels) (suc place) ticks → LowFrom levels place ticks
earlier level levels place ticks low i h = rw (suc-add place i) at (low i h)

longer : (level : ℕ) (levels : List ℕ) (ticks : ℕ) → level ≡ 0 → LowFrom levels 0 ticks → LowFrom (level ∷ levels) 0 (suc ticks)
longer level levels ticks e low zero h = e
longer level levels ticks e low (suc i) h = rw (zero-add (suc i)) (rw (zero-add i) at (low i (omega arith)))

shorter : (level : ℕ) (levels : List ℕ) (ticks : ℕ) → LowFrom (level ∷ levels) 0 (suc ticks) → LowFrom levels 0 ticks
shorter level levels ticks low i h = rw (zero-add i) (rw (zero-add (suc i)) at (low (suc i) (omega arith)))

first_low : (level : ℕ) (levels : List ℕ) (ticks : ℕ) → LowFrom (level ∷ levels) 0 (suc ticks) → level ≡ 0
first_low level levels ticks low = low 0 (omega arith)

no_ticks : (levels : List ℕ) (place : ℕ) → LowFrom levels place 0
no_ticks levels place i h = absurd (omega arith)

no_levels : (place ticks : ℕ) → LowFrom [] place ticks → ticks ≤ 0
no_levels place zero low = omega arith
no_levels place (suc ticks) low = high (low 0 (omega arith))
  where
    high : get_or {A = ℕ} [] (place + 0) 1 ≡ 0 → suc ticks ≤ 0
    high e = omega (arith, e)

-- ---- the ticks before the first that is not low
all_low : (levels : List ℕ) → LowFrom levels 0 (lows_first levels)
unfolding lows_first
all_low [] = no_ticks [] 0
all_low (level ∷ levels) =
    cases (LowFrom (level ∷ levels) 0) (eqb level 0) (λ e. longer level levels (lows_first levels) (eqb-true _ _ e) (all_low levels)) (λ e. no_ticks (level ∷ levels) 0)

none_more : (levels : List ℕ) (ticks : ℕ) → LowFrom levels 0 ticks → ticks ≤ lows_first levels
unfolding lows_first
none_more levels zero low = omega arith
none_more [] (suc ticks) low = no_levels 0 (suc ticks) low
none_more (level ∷ levels) (suc ticks) low =
    let more = none_more levels ticks (shorter level levels ticks low) in
    cases (λ n. suc ticks ≤ n) (eqb level 0) (λ e. omega (arith, more)) (λ e. absurd (eqb-false _ _ e (first_low level levels ticks low)))

-- ---- from any tick
one : (levels : List ℕ) → (place : ℕ) × LowFrom levels place (longest_low levels)
unfolding longest_low
one [] = (0, no_ticks [] 0)
one (level ∷ levels) = go (dec_lt (longest_low levels) (lows_first (level ∷ levels))) (one levels)
  where
    go : Dec (longest_low levels < lows_first (level ∷ levels)) → (place : ℕ) × LowFrom levels place (longest_low levels)
        → (place : ℕ) × LowFrom (level ∷ levels) place (max (lows_first (level ∷ levels)) (longest_low levels))
    go (yes h) later-one = let e : max (lows_first (level ∷ levels)) (longest_low levels) ≡ lows_first (level ∷ levels) = omega arith in rw e (0, all_low (level ∷ levels))
    go (no h) (place, low) =
        let e : max (lows_first (level ∷ levels)) (longest_low levels) ≡ longest_low levels = omega (arith, h) in
        rw e (suc place, later level levels place (longest_low levels) low)

none_longer : (levels : List ℕ) (place ticks : ℕ) → LowFrom levels place ticks → ticks ≤ longest_low levels
unfolding longest_low
none_longer [] place ticks low = no_levels place ticks low
none_longer (level ∷ levels) zero ticks low = let first = none_more (level ∷ levels) ticks low in omega (arith, first)
none_longer (level ∷ levels) (suc place) ticks low =
    let rest = none_longer levels place ticks (earlier level levels place ticks low) in omega (arith, rest)

pub longest_low_run : LongestLowRun
longest_low_run levels = (one levels, none_longer levels)
