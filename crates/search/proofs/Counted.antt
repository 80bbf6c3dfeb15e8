-- The steps are counted from a new search on, the fifth ends it, and no later one changes it. Assumes nothing.
use mathlib.Core.Path.{◌≡◌, refl, sym, ◌∙◌}
use mathlib.Core.Bool.{Bool, true, false}
use mathlib.Core.List.{List, [], ◌∷◌}
use Prim.Native.Nat.{ℕ, ◌+◌, ◌≤◌, ◌<◌, min}
use native.Mathlib.Decide.{dec_lt, ℕ_discrete}
use native.Mathlib.Omega.{arith}
use lib.Dec.{eqb}
use lib.IntN.{pos}
use lib.ListN.{length}
use borrow.Author.Tests.{eq-eqb, ne_eqb}
use Rattle.laws.specs.Pick.{pick}
use Rattle.laws.proofs.Picked.{on_true, on_false}
use Rattle.window.specs.declared.SampleWindow.{SampleWindow}
use Rattle.window.specs.Phase.{phase_of}
use Rattle.std.specs.Prelude.{None}
use Rattle.search.specs.declared.BestPhaseSearch.{BestPhaseSearch}
use Rattle.search.specs.Search.{is_preferred, search_with, new_of, first_of, ended_of, step_of}
use Rattle.search.specs.Steps.{after_steps, StepsAreCounted, ScanGoesOn, FifthIsDone, LaterStepsRepeat, FirstIsNotKept}
use Rattle.search.proofs.Steps.{first_by, clash, took, fifth_step, ended_step}

-- the search's own counter
counter : (s : BestPhaseSearch) (ws : List SampleWindow) → s.step ≤ 5 → (after_steps s ws).step ≡ min (s.step + length ws) 5
unfolding after_steps
counter s [] h = omega arith
counter s (w ∷ ws) h =
    let n = (took s w h).next in
    let k = counter (step_of s w).search ws (omega arith) in
    omega arith

-- the step after n others is the first, one of the next three, or a later one
by_count : (n steps : ℕ) → steps ≡ min (n + 1) 5 → (1 ≤ n → 4 ≤ n) → steps ≡ pick (eqb n 0) 1 5
by_count n steps e over = go (ℕ_discrete n 0)
  where
    go : Dec (n ≡ 0) → steps ≡ pick (eqb n 0) 1 5
    go (yes z) = rw (on_true (eq-eqb n 0 z)) (omega arith)
    go (no z) = let o = over (omega (arith, z)) in rw (on_false (ne_eqb n 0 z)) (omega arith)

pub steps_are_counted : StepsAreCounted
steps_are_counted m ws w a e =
    let s = after_steps (new_of m) ws in
    let k = counter (new_of m) ws (omega arith) in
    let t = took s w (omega arith) in
    by_count (length ws) a.steps (let c = t.count a e in omega arith) (λ h. go (dec_lt (length ws) 4) h)
  where
    go : Dec (length ws < 4) → 1 ≤ length ws → 4 ≤ length ws
    go (yes few) h =
        let k = counter (new_of m) ws (omega arith) in
        clash a (sym e ∙ (took (after_steps (new_of m) ws) w (omega arith)).middle (omega arith) (omega arith))
    go (no few) h = omega arith

pub scan_goes_on : ScanGoesOn
scan_goes_on m ws w h j =
    let k = counter (new_of m) ws (omega arith) in
    (took (after_steps (new_of m) ws) w (omega arith)).middle (omega arith) (omega arith)

pub fifth_is_done : FifthIsDone
fifth_is_done m ws w h =
    let k = counter (new_of m) ws (omega arith) in
    (took (after_steps (new_of m) ws) w (omega arith)).last (omega arith)

-- a search at its end stays as it is
stays : (s : BestPhaseSearch) (ws : List SampleWindow) → 4 < s.step → after_steps s ws ≡ s
unfolding after_steps ended_of
stays s [] h = refl
stays s (w ∷ ws) h = rw (ended_step s w h) (stays s ws h)

pub later_steps_repeat : LaterStepsRepeat
later_steps_repeat m four v more w e =
    let s = after_steps (new_of m) four in
    let k = counter (new_of m) four (omega arith) in
    let n = (took s v (omega arith)).next in
    rw (stays (step_of s v).search more (omega arith)) (ended_step (step_of s v).search w (omega arith) ∙ sym (fifth_step s v (omega arith)))

pub first_is_not_kept : FirstIsNotKept
unfolding step_of first_of pick
first_is_not_kept m w = go (is_preferred m (phase_of w 32 (pos 0)))
  where
    go : (t : Bool) → (first_by m None w t).search ≡ search_with m 1 None
    go true = refl
    go false = refl
