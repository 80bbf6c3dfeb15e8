-- What an ordered list of rules means. Assumes nothing.
use Prim.Native.Nat.{ℕ}
use mathlib.Core.Bool.{Bool, true, false, ◌&&◌}
use mathlib.Core.List.{List, [], ◌∷◌, ◌++◌, append-nil}
use mathlib.Core.Path.{◌≡◌, refl, sym, ap, ◌∙◌}
use Rattle.std.specs.Prelude.{Result, Ok, Err}
use Rattle.laws.specs.Pick.{pick}
use Rattle.text.proofs.DecimalLaws.{both_true}
use Rattle.bench_text.specs.declared.Refusal.{Refusal}
use Rattle.bench_text.specs.Rules.{Rule, judged_by}
use Rattle.bench_text.specs.FirstBroken.{all_hold, FirstOf, FirstBroken, numbers_of, ByNumber}

-- ---- good lines
good_step : (t all : Bool) (answer : Result (Unit {0}) Refusal) (refusal : Refusal) → (answer ≡ Ok tt → all ≡ true) → pick t answer (Err refusal) ≡ Ok tt → (t && all) ≡ true
unfolding pick
good_step true all answer refusal ih e = ih e
good_step false all answer refusal ih e = cc

good_holds : (rs : List Rule) (l : List ℕ) → judged_by rs l ≡ Ok tt → all_hold rs l ≡ true
unfolding judged_by all_hold
good_holds [] l e = refl
good_holds (r ∷ rs) l e = good_step (r.holds l) (all_hold rs l) (judged_by rs l) r.refusal (good_holds rs l) e

-- rules that hold of a line leave it to those behind them
pub passed : (before rs : List Rule) (l : List ℕ) → all_hold before l ≡ true → judged_by (before ++ rs) l ≡ judged_by rs l
unfolding judged_by all_hold pick
passed [] rs l e = refl
passed (r ∷ before) rs l e = let both = both_true (r.holds l) (all_hold before l) e in rw both.0 (passed before rs l both.1)

holds_good : (rs : List Rule) (l : List ℕ) → all_hold rs l ≡ true → judged_by rs l ≡ Ok tt
unfolding judged_by
holds_good rs l e = ap (λ (all : List Rule). judged_by all l) (sym (append-nil rs)) ∙ passed rs [] l e

-- ---- refused lines
first_step : (r : Rule) (rs : List Rule) (l : List ℕ) (refusal : Refusal) (t : Bool) → r.holds l ≡ t → (judged_by rs l ≡ Err refusal → FirstOf rs l refusal)
    → judged_by (r ∷ rs) l ≡ Err refusal → FirstOf (r ∷ rs) l refusal
unfolding judged_by all_hold pick
first_step r rs l refusal true u later e =
    let first = later (rw u at e) in
    record {
      before = r ∷ first.before;
      rule = first.rule;
      behind = first.behind;
      stands = ap (λ (all : List Rule). r ∷ all) first.stands;
      hold_before = rw u first.hold_before;
      broken = first.broken;
      named = first.named;
    }
first_step r rs l refusal false u later e =
    let said : ◌≡◌ {A = Result (Unit {0}) Refusal} (Err r.refusal) (Err refusal) = rw u at e in
    record { before = []; rule = r; behind = rs; stands = refl; hold_before = refl; broken = u; named = cc }

refused_first : (rs : List Rule) (l : List ℕ) (refusal : Refusal) → judged_by rs l ≡ Err refusal → FirstOf rs l refusal
unfolding judged_by
refused_first [] l refusal e = cc
refused_first (r ∷ rs) l refusal e = first_step r rs l refusal (r.holds l) refl (refused_first rs l refusal) e

first_refused : (rs : List Rule) (l : List ℕ) (refusal : Refusal) → FirstOf rs l refusal → judged_by rs l ≡ Err refusal
unfolding judged_by pick
first_refused rs l refusal first =
    ap (λ (all : List Rule). judged_by all l) first.stands ∙ passed first.before (first.rule ∷ first.behind) l first.hold_before
    ∙ rw first.broken (ap Err first.named)

pub first_broken : FirstBroken
first_broken rs l = ((good_holds rs l, holds_good rs l), λ refusal. (refused_first rs l refusal, first_refused rs l refusal))

-- ---- the rules of a line
pub by_number : ByNumber
unfolding numbers_of
by_number = refl
