-- Laws of the search's steps. Assumes nothing.
use mathlib.Core.Path.{◌≡◌, refl, sym, ◌∙◌, ap}
use mathlib.Core.Bool.{Bool, true, false}
use Prim.Native.Nat.{ℕ, zero, suc, ◌+◌, ◌-◌, ◌≤◌, ◌<◌, min}
use native.Mathlib.Decide.{dec_lt, ℕ_discrete}
use native.Mathlib.Omega.{arith}
use lib.Dec.{ltb}
use lib.IntN.{pos}
use mir.Syntax.{w8}
use mir.Val.{to_z, of_z}
use borrow.Author.Tests.{ltb-true, ltb-false, lt-ltb, le-ltb, eq-eqb, ne_eqb}
use Rattle.laws.specs.Pick.{pick}
use Rattle.laws.proofs.Picked.{on_true, on_false}
use Rattle.lengths.specs.declared.BitLengths.{BitLengths}
use Rattle.window.specs.declared.SampleWindow.{SampleWindow}
use Rattle.window.specs.declared.PhaseDecode.{PhaseDecode}
use Rattle.window.specs.Phase.{phase_of}
use Rattle.std.specs.Prelude.{Option, Some}
use Rattle.search.specs.declared.SearchAnswer.{SearchAnswer}
use Rattle.search.specs.declared.PhaseSearch.TheVariants.{Searching, Done}
use Rattle.search.specs.declared.BestPhaseSearch.{BestPhaseSearch}
use Rattle.search.specs.declared.Stepped.{Stepped}
use Rattle.search.specs.Search.{is_preferred, kept_better, search_with, done, stepped, first_of, ended_of, scanned_of, scan_phase, step_of}

pub scan_back : (k : ℕ) → to_z w8 (of_z w8 (scan_phase k)) ≡ scan_phase k
unfolding scan_phase
scan_back zero = refl
scan_back (suc zero) = refl
scan_back (suc (suc zero)) = refl
scan_back (suc (suc (suc zero))) = refl
scan_back (suc (suc (suc (suc n)))) = refl

pub scanned_last : (k : ℕ) → (k ≡ 0 → ⊥) → (k ≡ 1 → ⊥) → (k ≡ 2 → ⊥) → scan_phase k ≡ pos 2
unfolding scan_phase
scanned_last zero a b d = absurd (a refl)
scanned_last (suc zero) a b d = absurd (b refl)
scanned_last (suc (suc zero)) a b d = absurd (d refl)
scanned_last (suc (suc (suc zero))) a b d = refl
scanned_last (suc (suc (suc (suc n)))) a b d = refl

-- ---- which step this is: the first, one of the scan, or one after the fifth
first_step : (s : BestPhaseSearch) (w : SampleWindow) → s.step ≡ 0 → step_of s w ≡ first_of s (phase_of w 32 (pos 0))
unfolding step_of
first_step s w e = rw (on_true (eq-eqb s.step 0 e))

scan_step : (s : BestPhaseSearch) (w : SampleWindow) → (s.step ≡ 0 → ⊥) → s.step ≤ 4 → step_of s w ≡ scanned_of s (phase_of w 32 (scan_phase (s.step - 1)))
unfolding step_of
scan_step s w n h = rw (on_false (ne_eqb s.step 0 n), on_false (le-ltb 4 s.step h))

-- the fifth step leaves a search at its end, and answers what that one answers
pub fifth_step : (s : BestPhaseSearch) (w : SampleWindow) → s.step ≡ 4 → step_of s w ≡ ended_of (step_of s w).search
unfolding scanned_of ended_of
fifth_step s w e = rw (scan_step s w (omega arith) (omega arith), on_false (le-ltb s.step 4 (omega arith)))

pub ended_step : (s : BestPhaseSearch) (w : SampleWindow) → 4 < s.step → step_of s w ≡ ended_of s
unfolding step_of
ended_step s w h = rw (on_false (ne_eqb s.step 0 (omega arith)), on_true (lt-ltb 4 s.step h))

-- the first step of a search, by whether its length is preferred
abbrev pub first_by : BitLengths → Option PhaseDecode → SampleWindow → Bool → Stepped
first_by m best w t = pick t (stepped (search_with m 1 best) (done (Some (phase_of w 32 (pos 0))) 1)) (stepped (search_with m 1 best) Searching)

-- ---- what the step after n steps leaves and answers
pub clash : {P : Type 0} (a : SearchAnswer) → Done a ≡ Searching → P
clash a e = absurd cc

pub same_answer : (a b : SearchAnswer) → Done a ≡ Done b → a ≡ b
same_answer a b e = cc

pub record Took (n : ℕ) (r : Stepped) : Type 0 where
  pub next : r.search.step ≡ min (n + 1) 5
  pub count : (a : SearchAnswer) → r.answer ≡ Done a → a.steps ≡ min (n + 1) 5
  pub middle : 1 ≤ n → n ≤ 3 → r.answer ≡ Searching
  pub last : 4 ≤ n → (a : SearchAnswer) × (r.answer ≡ Done a)
  pub more : r.answer ≡ Searching → n < 4

done_took : (n : ℕ) (s : BestPhaseSearch) (f : Option PhaseDecode) (k : ℕ) → s.step ≡ min (n + 1) 5 → k ≡ min (n + 1) 5 → (1 ≤ n → 4 ≤ n) → Took n (stepped s (done f k))
done_took n s f k e d over = record {
  next = e;
  count = λ a h. sym (ap (λ (x : SearchAnswer). x.steps) (same_answer _ a h)) ∙ d;
  middle = λ h j. let o = over h in absurd (omega arith);
  last = λ h. (_, refl);
  more = λ h. clash _ h;
}

searching_took : (n : ℕ) (s : BestPhaseSearch) → s.step ≡ min (n + 1) 5 → n < 4 → Took n (stepped s Searching)
searching_took n s e h = record {
  next = e;
  count = λ a d. clash a (sym d);
  middle = λ k j. refl;
  last = λ k. absurd (omega arith);
  more = λ d. h;
}

first_took : (s : BestPhaseSearch) (d : PhaseDecode) → s.step ≡ 0 → Took s.step (first_of s d)
unfolding first_of pick
first_took s d e = go (is_preferred s.preferred d)
  where
    next : BestPhaseSearch
    next = search_with s.preferred 1 s.best

    go : (t : Bool) → Took s.step (pick t (stepped next (done (Some d) 1)) (stepped next Searching))
    go true = done_took s.step next (Some d) 1 (omega arith) (omega arith) (λ h. omega arith)
    go false = searching_took s.step next (omega arith) (omega arith)

scan_took : (s : BestPhaseSearch) (d : PhaseDecode) → s.step ≤ 4 → Took s.step (scanned_of s d)
unfolding scanned_of ended_of pick
scan_took s d h = go (ltb s.step 4) refl
  where
    next : BestPhaseSearch
    next = search_with s.preferred (s.step + 1) (kept_better s.best d s.preferred)

    go : (t : Bool) → ltb s.step 4 ≡ t → Took s.step (pick t (stepped next Searching) (stepped next (done next.best 5)))
    go true e = searching_took s.step next (omega arith) (ltb-true s.step 4 e)
    go false e = let k = ltb-false s.step 4 e in done_took s.step next next.best 5 (omega arith) (omega arith) (λ h. omega arith)

pub took : (s : BestPhaseSearch) (w : SampleWindow) → s.step ≤ 5 → Took s.step (step_of s w)
unfolding ended_of
took s w h = go (ℕ_discrete s.step 0) (dec_lt 4 s.step)
  where
    go : Dec (s.step ≡ 0) → Dec (4 < s.step) → Took s.step (step_of s w)
    go (yes e) k = rw (first_step s w e) (first_took s (phase_of w 32 (pos 0)) e)
    go (no n) (yes k) = rw (ended_step s w k) (done_took s.step s s.best 5 (omega arith) (omega arith) (λ h. omega arith))
    go (no n) (no k) = rw (scan_step s w n (omega arith)) (scan_took s (phase_of w 32 (scan_phase (s.step - 1))) (omega arith))

-- a step that says Searching is one of the first four
pub goes : (s : BestPhaseSearch) (w : SampleWindow) (r : Stepped) → r ≡ step_of s w → r.answer ≡ Searching → (r.search.step ≡ s.step + 1) × (s.step < 4)
unfolding ended_of
goes s w r e h = go (dec_lt 5 s.step)
  where
    a : (step_of s w).answer ≡ Searching
    a = sym (ap (λ (x : Stepped). x.answer) e) ∙ h

    go : Dec (5 < s.step) → (r.search.step ≡ s.step + 1) × (s.step < 4)
    go (yes k) = clash _ (sym (ap (λ (x : Stepped). x.answer) (ended_step s w (omega arith))) ∙ a)
    go (no k) =
        let t = took s w (omega arith) in
        let m = t.more a in
        let n = t.next in
        rw e (omega arith, m)
