-- A run is its steps, and of five steps one says Done. A new search's run is the search in one piece. Assumes nothing.
use mathlib.Core.Path.{◌≡◌, refl, sym, ◌∙◌, ap}
use mathlib.Core.Bool.{Bool, true, false}
use Prim.Native.Nat.{ℕ, zero, suc, ◌-◌, ◌<◌}
use native.Mathlib.Omega.{arith}
use lib.IntN.{pos}
use lib.ListN.{drop_of_length-le}
use borrow.Author.Tests.{ne_eqb}
use Rattle.laws.specs.Pick.{pick}
use Rattle.lengths.specs.declared.BitLengths.{BitLengths}
use Rattle.window.specs.declared.SampleWindow.{SampleWindow}
use Rattle.window.specs.declared.PhaseDecode.{PhaseDecode}
use Rattle.window.specs.Phase.{phase_of}
use Rattle.std.specs.Prelude.{Option, Some, None}
use Rattle.search.specs.declared.SearchAnswer.{SearchAnswer}
use Rattle.search.specs.declared.PhaseSearch.TheVariants.{Searching, Done}
use Rattle.search.specs.declared.BestPhaseSearch.{BestPhaseSearch}
use Rattle.search.specs.declared.Stepped.{Stepped}
use Rattle.search.specs.Search.{is_preferred, accepted_of, search_with, new_of, first_of, ended_of, scanned_of, scan_phases, scan_phase, step_of, or_later, first_done, handed_out, run_of}
use Rattle.search.specs.Answers.{ends_at_once, ends_with, best_of}
use Rattle.search.specs.Steps.{search_of, RunOfNew, RunIsSteps}
use Rattle.search.proofs.Steps.{first_by, ended_step, same_answer}

-- what a run hands out, in one piece
abbrev pub whole_of : BestPhaseSearch → SampleWindow → SearchAnswer
whole_of s w = record { found = accepted_of (ends_with s w); steps = pick (ends_at_once s w) 1 5 }

-- a search past its fifth step
past : (s : BestPhaseSearch) (w : SampleWindow) → 4 < s.step → first_done 5 s w ≡ Done (whole_of s w)
unfolding first_done ended_of ends_with best_of pick
past s w h = rw (ended_step s w h, ne_eqb s.step 0 (omega arith), drop_of_length-le scan_phases {i = s.step - 1} (omega arith))

module _ (m : BitLengths) (best : Option PhaseDecode) (w : SampleWindow) where
  five : (k : ℕ) → first_done 5 (search_with m k best) w ≡ Done (whole_of (search_with m k best) w)
  unfolding first_done step_of first_of scanned_of ended_of scan_phase ends_with best_of pick
  five zero = go (is_preferred m (phase_of w 32 (pos 0)))
    where
      go : (t : Bool) → or_later (first_by m best w t).answer (first_done 4 (first_by m best w t).search w)
          ≡ Done (record { found = accepted_of (pick t (Some (phase_of w 32 (pos 0))) (best_of m w best scan_phases)); steps = pick t 1 5 })
      go true = refl
      go false = refl
  five (suc zero) = refl
  five (suc (suc zero)) = refl
  five (suc (suc (suc zero))) = refl
  five (suc (suc (suc (suc zero)))) = refl
  five (suc (suc (suc (suc (suc k))))) = past (search_with m (suc (suc (suc (suc (suc k))))) best) w (omega arith)

pub five_suffice : (s : BestPhaseSearch) (w : SampleWindow) → first_done 5 s w ≡ Done (whole_of s w)
five_suffice s w = five s.preferred s.best w s.step

pub run_whole : (s : BestPhaseSearch) (w : SampleWindow) → run_of s w ≡ whole_of s w
unfolding run_of
run_whole s w = ap handed_out (five_suffice s w)

pub run_of_new : RunOfNew
unfolding search_of ends_with pick
run_of_new m w = run_whole (new_of m) w ∙ go (is_preferred m (phase_of w 32 (pos 0)))
  where
    go : (t : Bool) → ◌≡◌ {A = SearchAnswer} (record { found = accepted_of (pick t (Some (phase_of w 32 (pos 0))) (best_of m w None scan_phases)); steps = pick t 1 5 })
        (pick t (record { found = accepted_of (Some (phase_of w 32 (pos 0))); steps = 1 }) (record { found = accepted_of (best_of m w None scan_phases); steps = 5 }))
    go true = refl
    go false = refl

-- ---- one step, and the run of what it leaves
past_one : (s : BestPhaseSearch) (w : SampleWindow) → 4 < s.step → Done (whole_of s w) ≡ or_later (step_of s w).answer (Done (whole_of (step_of s w).search w))
unfolding ended_of ends_with best_of pick
past_one s w h = rw (ended_step s w h, ne_eqb s.step 0 (omega arith), drop_of_length-le scan_phases {i = s.step - 1} (omega arith))

module _ (m : BitLengths) (best : Option PhaseDecode) (w : SampleWindow) where
  one : (k : ℕ) → let s = search_with m k best in Done (whole_of s w) ≡ or_later (step_of s w).answer (Done (whole_of (step_of s w).search w))
  unfolding step_of first_of scanned_of ended_of scan_phase ends_with best_of pick
  one zero = go (is_preferred m (phase_of w 32 (pos 0)))
    where
      go : (t : Bool) → Done (record { found = accepted_of (pick t (Some (phase_of w 32 (pos 0))) (best_of m w best scan_phases)); steps = pick t 1 5 })
          ≡ or_later (first_by m best w t).answer (Done (whole_of (first_by m best w t).search w))
      go true = refl
      go false = refl
  one (suc zero) = refl
  one (suc (suc zero)) = refl
  one (suc (suc (suc zero))) = refl
  one (suc (suc (suc (suc zero)))) = refl
  one (suc (suc (suc (suc (suc k))))) = past_one (search_with m (suc (suc (suc (suc (suc k))))) best) w (omega arith)

pub run_is_steps : RunIsSteps
run_is_steps s w = rw (run_whole s w, run_whole (step_of s w).search w) (one s.preferred s.best w s.step)

-- ---- the loop
pub run_next : (s : BestPhaseSearch) (w : SampleWindow) (r : Stepped) (x : SearchAnswer) → r ≡ step_of s w → r.answer ≡ Searching → run_of s w ≡ x → run_of r.search w ≡ x
run_next s w r x e a inv = same_answer _ _ (sym (run_is_steps s w ∙ rw (← e, a))) ∙ inv

pub run_done : (s : BestPhaseSearch) (w : SampleWindow) (r : Stepped) (a x : SearchAnswer) → r ≡ step_of s w → r.answer ≡ Done a → run_of s w ≡ x → a ≡ x
run_done s w r a x e d inv = same_answer _ _ (sym (run_is_steps s w ∙ rw (← e, d))) ∙ inv
