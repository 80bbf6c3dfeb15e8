-- Document 01, "Search": what each answer of a step or a run says about the search and the window. Assumes nothing.
use Rattle.std.specs.Prelude.{◌-◌, ◌≤◌, ◌<◌, Bool, true, false, ◌&&◌, ◌||◌, List, [], ◌∷◌, ◌≡◌, eqb, leb, ℤ, pos, drop, Option, Some, None}
use Rattle.laws.specs.Pick.{pick}
use Rattle.lengths.specs.declared.BitLengths.{BitLengths}
use Rattle.window.specs.declared.SampleWindow.{SampleWindow}
use Rattle.window.specs.declared.PhaseDecode.{PhaseDecode}
use Rattle.window.specs.Phase.{phase_of}
use Rattle.search.specs.declared.SearchAnswer.{SearchAnswer}
use Rattle.search.specs.declared.PhaseSearch.{PhaseSearch}
use Rattle.search.specs.declared.PhaseSearch.TheVariants.{Searching, Done}
use Rattle.search.specs.declared.BestPhaseSearch.{BestPhaseSearch}
use Rattle.search.specs.Search.{is_preferred, kept_better, scan_phases}

-- ---- what a search ends with
-- The first step ends the search if the length at phase 0 is preferred.
abbrev pub ends_at_once : BestPhaseSearch → SampleWindow → Bool
ends_at_once s w = eqb s.step 0 && is_preferred s.preferred (phase_of w 32 (pos 0))

-- The best decode after a scan of these phases, one after the other. The scan begins with the best so far.
unfoldable pub best_of : BitLengths → SampleWindow → Option PhaseDecode → List ℤ → Option PhaseDecode
best_of m w best [] = best
best_of m w best (phase ∷ phases) = best_of m w (kept_better best (phase_of w 32 phase) m) phases

-- the phases that the scan has still to read
abbrev pub phases_left : BestPhaseSearch → List ℤ
phases_left s = drop (s.step - 1) scan_phases

-- The search ends with the decode at phase 0 if the first step ends it, and else with the best of the scan.
unfoldable pub ends_with : BestPhaseSearch → SampleWindow → Option PhaseDecode
ends_with s w = pick (ends_at_once s w) (Some (phase_of w 32 (pos 0))) (best_of s.preferred w s.best (phases_left s))

-- ---- what each case says
-- A decode is the one that the search ended with, and it has three bits or more. None means that the search ended with no decode, or with one of
-- fewer than three bits.
unfoldable pub SaysFound : Option PhaseDecode → Option PhaseDecode → Type 0
SaysFound (Some d) ended = (ended ≡ Some d) × (3 ≤ d.bit_len)
SaysFound None ended = (d : PhaseDecode) → ended ≡ Some d → d.bit_len < 3

-- An answer says what the search found, and in how many steps: 1 if the first step ended it, else 5.
pub record SaysAnswer (answer : SearchAnswer) (s : BestPhaseSearch) (w : SampleWindow) : Type 0 where
  pub found_is : SaysFound answer.found (ends_with s w)
  pub steps_are : answer.steps ≡ pick (ends_at_once s w) 1 5

-- The next step says Done: it is a first step that ends the search, or the fifth, or a later one.
abbrev pub is_over : BestPhaseSearch → SampleWindow → Bool
is_over s w = ends_at_once s w || leb 4 s.step

-- Searching means that the search is not over. Done means that it is, and carries its answer.
unfoldable pub SaysStep : PhaseSearch → BestPhaseSearch → SampleWindow → Type 0
SaysStep Searching s w = is_over s w ≡ false
SaysStep (Done answer) s w = (is_over s w ≡ true) × SaysAnswer answer s w
