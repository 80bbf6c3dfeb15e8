-- What each case of an answer says is so. Assumes nothing.
use mathlib.Core.Path.{◌≡◌, refl}
use mathlib.Core.Bool.{Bool, true, false}
use Prim.Native.Nat.{ℕ, zero, suc, ◌-◌, ◌<◌}
use native.Mathlib.Omega.{arith}
use lib.IntN.{pos}
use lib.ListN.{drop_of_length-le}
use borrow.Author.Tests.{ltb-true, ltb-false, ne_eqb, le-leb}
use Rattle.std.proofs.lemmas.Option.{same_Some}
use Rattle.laws.specs.Pick.{pick}
use Rattle.laws.proofs.Picked.{cases}
use Rattle.lengths.specs.declared.BitLengths.{BitLengths}
use Rattle.window.specs.declared.SampleWindow.{SampleWindow}
use Rattle.window.specs.declared.PhaseDecode.{PhaseDecode}
use Rattle.window.specs.Phase.{phase_of}
use Rattle.std.specs.Prelude.{Option, Some, None}
use Rattle.search.specs.declared.SearchAnswer.{SearchAnswer}
use Rattle.search.specs.declared.PhaseSearch.TheVariants.{Done}
use Rattle.search.specs.declared.BestPhaseSearch.{BestPhaseSearch}
use Rattle.search.specs.declared.Stepped.{Stepped}
use Rattle.search.specs.Search.{is_preferred, accepted_of, search_with, first_of, ended_of, scanned_of, scan_phases, scan_phase, step_of, first_done, run_of}
use Rattle.search.specs.Answers.{ends_with, best_of, SaysFound, SaysAnswer, SaysStep}
use Rattle.search.proofs.Steps.{first_by, ended_step}
use Rattle.search.proofs.Runs.{whole_of, five_suffice, run_whole}

-- ---- what is handed out of what the search ended with
pub says_found : (ended : Option PhaseDecode) → SaysFound (accepted_of ended) ended
unfolding SaysFound accepted_of
says_found None = λ d e. absurd cc
says_found (Some d) =
    cases (λ r. SaysFound r (Some d)) _
    (λ few. λ e h. rw (← same_Some d e h) (ltb-true _ _ few))
    (λ enough. (refl, ltb-false _ _ enough))

says_whole : (s : BestPhaseSearch) (w : SampleWindow) → SaysAnswer (whole_of s w) s w
says_whole s w = record { found_is = says_found (ends_with s w); steps_are = refl }

-- ---- a step
past : (s : BestPhaseSearch) (w : SampleWindow) → 4 < s.step → SaysStep (step_of s w).answer s w
unfolding SaysStep ended_of ends_with best_of pick
past s w h =
    rw (ended_step s w h) (
      rw (ne_eqb s.step 0 (omega arith), le-leb 4 s.step (omega arith)),
      record {
        found_is = rw (ne_eqb s.step 0 (omega arith), drop_of_length-le scan_phases {i = s.step - 1} (omega arith)) (says_found s.best);
        steps_are = rw (ne_eqb s.step 0 (omega arith));
      },
    )

module _ (m : BitLengths) (best : Option PhaseDecode) (w : SampleWindow) where
  at_first : (t : Bool) → is_preferred m (phase_of w 32 (pos 0)) ≡ t → SaysStep (first_by m best w t).answer (search_with m 0 best) w
  unfolding SaysStep ends_with pick
  at_first true e = (rw e, record { found_is = rw e (says_found (Some (phase_of w 32 (pos 0)))); steps_are = rw e })
  at_first false e = rw e

  by_step : (k : ℕ) → let s = search_with m k best in SaysStep (step_of s w).answer s w
  unfolding SaysStep step_of first_of scanned_of ended_of scan_phase ends_with best_of pick
  by_step zero = at_first (is_preferred m (phase_of w 32 (pos 0))) refl
  by_step (suc zero) = refl
  by_step (suc (suc zero)) = refl
  by_step (suc (suc (suc zero))) = refl
  by_step (suc (suc (suc (suc zero)))) = (refl, says_whole (search_with m 4 best) w)
  by_step (suc (suc (suc (suc (suc k))))) = past (search_with m (suc (suc (suc (suc (suc k))))) best) w (omega arith)

pub says : (s : BestPhaseSearch) (w : SampleWindow) → SaysStep (step_of s w).answer s w
says s w = by_step s.preferred s.best w s.step

-- ---- the promises, from the results that they name
pub tells : (s : BestPhaseSearch) (w : SampleWindow) (r : Stepped) → r ≡ step_of s w → SaysStep r.answer s w
tells s w r e = rw e (says s w)

pub tells_run : (s : BestPhaseSearch) (w : SampleWindow) (r : SearchAnswer) → r ≡ run_of s w → (r ≡ run_of s w) × ((first_done 5 s w ≡ Done r) × SaysAnswer r s w)
tells_run s w r e = (e, (rw (e, run_whole s w) (five_suffice s w), rw (e, run_whole s w) (says_whole s w)))
