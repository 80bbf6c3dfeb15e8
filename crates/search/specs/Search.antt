-- Document 01, "Search", with the scan order of "Weights and phases": which decode a search keeps, its steps, and its run. Assumes nothing.
use Rattle.std.specs.Prelude.{ℕ, zero, suc, ◌+◌, ◌-◌, Bool, List, [], ◌∷◌, ltb, eqb, ℤ, pos, negsuc, nat_abs, get_or, Option, Some, None}
use Rattle.std.specs.Bool.{beq}
use Rattle.laws.specs.Pick.{pick}
use Rattle.lengths.specs.declared.BitLengths.{BitLengths}
use Rattle.lengths.specs.Lengths.{holds}
use Rattle.window.specs.declared.SampleWindow.{SampleWindow}
use Rattle.window.specs.declared.PhaseDecode.{PhaseDecode}
use Rattle.window.specs.Phase.{phase_of}
use Rattle.search.specs.declared.SearchAnswer.{SearchAnswer}
use Rattle.search.specs.declared.PhaseSearch.{PhaseSearch}
use Rattle.search.specs.declared.PhaseSearch.TheVariants.{Searching, Done}
use Rattle.search.specs.declared.BestPhaseSearch.{BestPhaseSearch}
use Rattle.search.specs.declared.Stepped.{Stepped}

-- ---- which decode the search keeps
-- the length of the decode is preferred
abbrev pub is_preferred : BitLengths → PhaseDecode → Bool
is_preferred preferred d = holds preferred d.bit_len

-- The higher score wins. On equal scores the phase nearer to 0 wins. If both are equally near, the candidate does not win.
unfoldable pub higher_of : PhaseDecode → PhaseDecode → Bool
higher_of candidate current =
    pick (eqb candidate.score current.score)
    (ltb (nat_abs candidate.phase_ticks) (nat_abs current.phase_ticks))
    (ltb current.score candidate.score)

-- A preferred length wins over any other. Score and phase decide only if both lengths are preferred, or neither is.
unfoldable pub better_of : PhaseDecode → PhaseDecode → BitLengths → Bool
better_of candidate current preferred =
    pick (beq (is_preferred preferred candidate) (is_preferred preferred current)) (higher_of candidate current) (is_preferred preferred candidate)

-- The search keeps a candidate if it has none yet or if the candidate is better. It never keeps one of length 0.
unfoldable pub kept_better : Option PhaseDecode → PhaseDecode → BitLengths → Option PhaseDecode
kept_better None candidate preferred = pick (eqb candidate.bit_len 0) None (Some candidate)
kept_better (Some current) candidate preferred =
    pick (eqb candidate.bit_len 0) (Some current)
    (pick (better_of candidate current preferred) (Some candidate) (Some current))

-- The search hands out no decode of fewer than three bits.
unfoldable pub accepted_of : Option PhaseDecode → Option PhaseDecode
accepted_of None = None
accepted_of (Some d) = pick (ltb d.bit_len 3) None (Some d)

-- ---- one step
-- a search by its fields: the preferred lengths, the steps taken (5 at most), and the best decode so far
abbrev pub search_with : BitLengths → ℕ → Option PhaseDecode → BestPhaseSearch
search_with preferred step best = record { preferred = preferred; step = step; best = best }

-- A new search has taken no step and kept no decode.
abbrev pub new_of : BitLengths → BestPhaseSearch
new_of preferred = search_with preferred 0 None

-- Done, with the decode if it is long enough, and the number of steps
abbrev pub done : Option PhaseDecode → ℕ → PhaseSearch
done found steps = Done (record { found = accepted_of found; steps = steps })

-- a search beside its answer
abbrev pub stepped : BestPhaseSearch → PhaseSearch → Stepped
stepped search answer = record { search = search; answer = answer }

-- The first step reads phase 0 and says Done if that length is preferred. In neither case does the search keep the decode.
unfoldable pub first_of : BestPhaseSearch → PhaseDecode → Stepped
first_of s d =
    let next = search_with s.preferred 1 s.best in
    pick (is_preferred s.preferred d) (stepped next (done (Some d) 1)) (stepped next Searching)

-- After the scan every step answers with the best decode and leaves the search as it is.
unfoldable pub ended_of : BestPhaseSearch → Stepped
ended_of s = stepped s (done s.best 5)

-- Steps two to five are the scan. Each reads one phase and keeps the better decode, and the fifth says Done.
unfoldable pub scanned_of : BestPhaseSearch → PhaseDecode → Stepped
scanned_of s d =
    let next = search_with s.preferred (s.step + 1) (kept_better s.best d s.preferred) in
    pick (ltb s.step 4) (stepped next Searching) (ended_of next)

-- the phases of the scan in their order: -2, -1, 1 and 2 (`negsuc n` is -(n + 1))
abbrev pub scan_phases : List ℤ
scan_phases = negsuc 1 ∷ negsuc 0 ∷ pos 1 ∷ pos 2 ∷ []

-- the phase that the scan reads at each of its steps, which are counted from 0
unfoldable pub scan_phase : ℕ → ℤ
scan_phase k = get_or scan_phases k (pos 2)

-- A step is the first one, one of the scan, or, after the fifth, a repeated answer.
unfoldable pub step_of : BestPhaseSearch → SampleWindow → Stepped
step_of s w =
    pick (eqb s.step 0) (first_of s (phase_of w 32 (pos 0)))
    (pick (ltb 4 s.step) (ended_of s)
    (scanned_of s (phase_of w 32 (scan_phase (s.step - 1)))))

-- ---- a run
-- the answer of a step if it says Done, else a later answer
abbrev pub or_later : PhaseSearch → PhaseSearch → PhaseSearch
or_later Searching later = later
or_later (Done answer) later = Done answer

-- The first Done among n steps in one window. If none of them says Done, it is Searching.
unfoldable pub first_done : ℕ → BestPhaseSearch → SampleWindow → PhaseSearch
first_done zero s w = Searching
first_done (suc n) s w = or_later (step_of s w).answer (first_done n (step_of s w).search w)

-- The answer that Done carries. Searching carries none, and `run` never hands out what stands for it.
abbrev pub handed_out : PhaseSearch → SearchAnswer
handed_out Searching = record { found = None; steps = 0 }
handed_out (Done answer) = answer

-- A run hands out the answer of the first step that says Done. Every search says Done within five steps: the promise of `run` says that too.
unfoldable pub run_of : BestPhaseSearch → SampleWindow → SearchAnswer
run_of s w = handed_out (first_done 5 s w)
