-- Document 01, "Search", as statements: the search in one piece, the count of its steps, and the steps after Done. Assumes nothing.
use Rattle.std.specs.Prelude.{◌≤◌, ◌≡◌, eqb, pos, length, Some, None}
use mathlib.Core.List.{List, [], ◌∷◌, Memᴰ}
use Rattle.laws.specs.Pick.{pick}
use Rattle.lengths.specs.declared.BitLengths.{BitLengths}
use Rattle.window.specs.declared.SampleWindow.{SampleWindow}
use Rattle.window.specs.declared.PhaseDecode.{PhaseDecode}
use Rattle.window.specs.Phase.{phase_of}
use Rattle.search.specs.declared.SearchAnswer.{SearchAnswer}
use Rattle.search.specs.declared.PhaseSearch.TheVariants.{Searching, Done}
use Rattle.search.specs.declared.BestPhaseSearch.{BestPhaseSearch}
use Rattle.search.specs.Search.{is_preferred, accepted_of, search_with, new_of, scan_phases, step_of, or_later, run_of}
use Rattle.search.specs.Answers.{best_of}

-- ---- in one piece
-- If the length at phase 0 is preferred, the search ends with that decode after one step. If not, it ends with the best of the four phases of the
-- scan after five.
unfoldable pub search_of : BitLengths → SampleWindow → SearchAnswer
search_of m w =
    pick (is_preferred m (phase_of w 32 (pos 0)))
    (record { found = accepted_of (Some (phase_of w 32 (pos 0))); steps = 1 })
    (record { found = accepted_of (best_of m w None scan_phases); steps = 5 })

-- A run of a new search answers what the search in one piece answers.
abbrev pub RunOfNew : Type 0
RunOfNew = (m : BitLengths) (w : SampleWindow) → run_of (new_of m) w ≡ search_of m w

-- If the first step of a run says Done, the run hands that answer out. If not, the run goes on with the search that the step left.
abbrev pub RunIsSteps : Type 0
RunIsSteps = (s : BestPhaseSearch) (w : SampleWindow) → Done (run_of s w) ≡ or_later (step_of s w).answer (Done (run_of (step_of s w).search w))

-- ---- step by step
-- the search after one step in each of these windows, whatever the steps answered
unfoldable pub after_steps : BestPhaseSearch → List SampleWindow → BestPhaseSearch
after_steps s [] = s
after_steps s (w ∷ ws) = after_steps (step_of s w).search ws

-- If the first step of a search says Done, it reports 1 step. If a later one says Done, it reports 5.
abbrev pub StepsAreCounted : Type 0
StepsAreCounted =
    (m : BitLengths) (ws : List SampleWindow) (w : SampleWindow) (a : SearchAnswer)
    → (step_of (after_steps (new_of m) ws) w).answer ≡ Done a → a.steps ≡ pick (eqb (length ws) 0) 1 5

-- Steps two, three and four say Searching, even if the first step said Done.
abbrev pub ScanGoesOn : Type 0
ScanGoesOn =
    (m : BitLengths) (ws : List SampleWindow) (w : SampleWindow) → 1 ≤ length ws → length ws ≤ 3
    → (step_of (after_steps (new_of m) ws) w).answer ≡ Searching

-- The fifth step and every later one say Done.
abbrev pub FifthIsDone : Type 0
FifthIsDone =
    (m : BitLengths) (ws : List SampleWindow) (w : SampleWindow) → 4 ≤ length ws → (a : SearchAnswer) × ((step_of (after_steps (new_of m) ws) w).answer ≡ Done a)

-- After the fifth step every step, in whatever window, repeats the fifth step's answer and leaves the search as the fifth left it. (The fifth step
-- takes the window v. The later ones take `more`, and then w.)
abbrev pub LaterStepsRepeat : Type 0
LaterStepsRepeat =
    (m : BitLengths) (four : List SampleWindow) (v : SampleWindow) (more : List SampleWindow) (w : SampleWindow) → length four ≡ 4
    → let fifth = step_of (after_steps (new_of m) four) v in
    step_of (after_steps fifth.search more) w ≡ fifth

-- The scan begins with no decode kept, whatever the first step answered.
abbrev pub FirstIsNotKept : Type 0
FirstIsNotKept = (m : BitLengths) (w : SampleWindow) → (step_of (new_of m) w).search ≡ search_with m 1 None

-- A decode that the search hands out has three bits or more. It is what one of the windows reads at phase 0 or at a phase of the scan.
-- (`List.Memᴰ x xs` says that x is in the list xs.)
abbrev pub DecodesAreRead : Type 0
DecodesAreRead =
    (m : BitLengths) (ws : List SampleWindow) (w : SampleWindow) (a : SearchAnswer) (d : PhaseDecode)
    → (step_of (after_steps (new_of m) ws) w).answer ≡ Done a → a.found ≡ Some d
    → (3 ≤ d.bit_len) × ((v : SampleWindow) × Memᴰ v (w ∷ ws) × Memᴰ d.phase_ticks (pos 0 ∷ scan_phases) × (d ≡ phase_of v 32 d.phase_ticks))
