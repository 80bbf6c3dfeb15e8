-- A decode that is handed out was read in one of the windows. Assumes nothing.
use mathlib.Core.Path.{◌≡◌, refl, sym, ap, subst}
use mathlib.Core.List.Memᴰ
use mathlib.Core.List.{List, [], ◌∷◌, Memᴰ}
use Prim.Native.Nat.{ℕ, zero, suc, ◌-◌}
use lib.Dec.{ltb, eqb}
use lib.IntN.{ℤ, pos}
use lib.ListN.{drop}
use Rattle.std.proofs.lemmas.Option.{same_Some}
use Rattle.laws.proofs.Picked.{cases}
use Rattle.lengths.specs.declared.BitLengths.{BitLengths}
use Rattle.window.specs.declared.SampleWindow.{SampleWindow}
use Rattle.window.specs.declared.PhaseDecode.{PhaseDecode}
use Rattle.window.specs.Phase.{PhaseBits, failed, weighed, bits_of, decode_of, phase_of}
use Rattle.std.specs.Prelude.{Option, Some, None}
use Rattle.search.specs.declared.BestPhaseSearch.{BestPhaseSearch}
use Rattle.search.specs.declared.Stepped.{Stepped}
use Rattle.search.specs.Search.{is_preferred, kept_better, better_of, new_of, first_of, ended_of, scanned_of, scan_phases, scan_phase, step_of}
use Rattle.search.specs.Answers.{ends_at_once, ends_with, best_of, phases_left, SaysFound, SaysStep}
use Rattle.search.specs.Steps.{after_steps, DecodesAreRead}
use Rattle.search.proofs.Telling.{says}

-- a decode tells its own phase
own_phase : (w : SampleWindow) (most : ℕ) (phase : ℤ) → (phase_of w most phase).phase_ticks ≡ phase
unfolding phase_of decode_of
own_phase w most phase = go (bits_of w most phase)
  where
    go : (r : PhaseBits) → (decode_of phase r).phase_ticks ≡ phase
    go failed = refl
    go (weighed weights) = refl

dropped : {phase : ℤ} (n : ℕ) (phases : List ℤ) → Memᴰ phase (drop n phases) → Memᴰ phase phases
dropped zero phases h = h
dropped (suc n) [] h = h
dropped (suc n) (p ∷ phases) h = Memᴰ.tail (dropped n phases h)

scanned : (k : ℕ) → Memᴰ (scan_phase k) scan_phases
unfolding scan_phase
scanned zero = Memᴰ.head refl
scanned (suc zero) = Memᴰ.tail (Memᴰ.head refl)
scanned (suc (suc zero)) = Memᴰ.tail (Memᴰ.tail (Memᴰ.head refl))
scanned (suc (suc (suc zero))) = Memᴰ.tail (Memᴰ.tail (Memᴰ.tail (Memᴰ.head refl)))
scanned (suc (suc (suc (suc k)))) = Memᴰ.tail (Memᴰ.tail (Memᴰ.tail (Memᴰ.head refl)))

-- ---- what holds of every decode that is read holds of the one that is kept
module _ (P : PhaseDecode → Type 0) where
  abbrev Kept : Option PhaseDecode → Type 0
  Kept found = (d : PhaseDecode) → found ≡ Some d → P d

  abbrev Scanned : SampleWindow → Type 0
  Scanned w = (phase : ℤ) → Memᴰ phase scan_phases → P (phase_of w 32 phase)

  just : (d : PhaseDecode) → P d → Kept (Some d)
  just d p e h = subst P (same_Some d e h) p

  nothing : Kept None
  nothing d e = absurd cc

  of_kept : (m : BitLengths) (best : Option PhaseDecode) (d : PhaseDecode) → Kept best → P d → Kept (kept_better best d m)
  unfolding kept_better
  of_kept m None d k p = cases Kept (eqb d.bit_len 0) (λ e. k) (λ e. just d p)
  of_kept m (Some b) d k p = cases Kept (eqb d.bit_len 0) (λ e. k) (λ e. cases Kept (better_of d b m) (λ e. just d p) (λ e. k))

  of_step : (s : BestPhaseSearch) (w : SampleWindow) → Kept s.best → Scanned w → Kept (step_of s w).search.best
  unfolding step_of first_of ended_of scanned_of
  of_step s w k all =
      let Q : Stepped → Type 0 = λ r. Kept r.search.best in
      cases Q (eqb s.step 0) (λ e. cases Q (is_preferred s.preferred (phase_of w 32 (pos 0))) (λ e. k) (λ e. k))
      (λ e. cases Q (ltb 4 s.step) (λ e. k)
      (λ e. let next = of_kept s.preferred s.best _ k (all _ (scanned (s.step - 1))) in cases Q (ltb s.step 4) (λ e. next) (λ e. next)))

  of_steps : (s : BestPhaseSearch) (ws : List SampleWindow) → Kept s.best → ((v : SampleWindow) → Memᴰ v ws → Scanned v) → Kept (after_steps s ws).best
  unfolding after_steps
  of_steps s [] k all = k
  of_steps s (w ∷ ws) k all = of_steps (step_of s w).search ws (of_step s w k (all w (Memᴰ.head refl))) (λ v h. all v (Memᴰ.tail h))

  of_phases : (m : BitLengths) (w : SampleWindow) (best : Option PhaseDecode) (phases : List ℤ) → Kept best → ((phase : ℤ) → Memᴰ phase phases → P (phase_of w 32 phase)) → Kept (best_of m w best phases)
  unfolding best_of
  of_phases m w best [] k all = k
  of_phases m w best (phase ∷ phases) k all = of_phases m w (kept_better best (phase_of w 32 phase) m) phases (of_kept m best _ k (all phase (Memᴰ.head refl))) (λ p h. all p (Memᴰ.tail h))

  of_end : (s : BestPhaseSearch) (w : SampleWindow) → Kept s.best → P (phase_of w 32 (pos 0)) → Scanned w → Kept (ends_with s w)
  unfolding ends_with
  of_end s w k first all =
      cases Kept (ends_at_once s w) (λ e. just _ first) (λ e. of_phases s.preferred w s.best (phases_left s) k (λ phase h. all phase (dropped (s.step - 1) scan_phases h)))

pub decodes_are_read : DecodesAreRead
unfolding SaysStep SaysFound
decodes_are_read m ws w a d answered found =
    let s = after_steps (new_of m) ws in
    let told = rw answered at (says s w) in
    let is = rw found at told.1.found_is in
    (is.1, of_end P s w (of_steps P (new_of m) ws (nothing P) (λ v h. all (Memᴰ.tail h))) (read (Memᴰ.head refl) (Memᴰ.head refl)) (all (Memᴰ.head refl)) d is.0)
  where
    P : PhaseDecode → Type 0
    P d = (v : SampleWindow) × Memᴰ v (w ∷ ws) × Memᴰ d.phase_ticks (pos 0 ∷ scan_phases) × (d ≡ phase_of v 32 d.phase_ticks)

    read : {v : SampleWindow} {phase : ℤ} → Memᴰ v (w ∷ ws) → Memᴰ phase (pos 0 ∷ scan_phases) → P (phase_of v 32 phase)
    read {v} {phase} h k = let e = own_phase v 32 phase in (v, h, Memᴰ.cast e k, sym (ap (phase_of v 32) e))

    all : {v : SampleWindow} → Memᴰ v (w ∷ ws) → Scanned P v
    all h phase k = read h (Memᴰ.tail k)
