-- One turn of each of the two loops: what is left to do gives the answer of the whole. Assumes nothing.
use Rattle.std.specs.Prelude.{Result, ⊤}
use mathlib.Core.Path.{◌≡◌, refl, sym, ◌∙◌}
use mathlib.Core.Bool.{Bool, true, false}
use mathlib.Core.List.{List, [], ◌∷◌}
use Prim.Native.Nat.{ℕ, zero, suc, ◌+◌, ◌-◌, ◌≤◌, ◌<◌}
use native.Mathlib.Omega.{arith}
use native.Mathlib.Nat.{not-suc-le-zero}
use native.Mathlib.Numerals.{add-one}
use lib.ListN.{length, drop, get_or, drop_of_length-le}
use lib.Seq.{drop-cons}
use Rattle.laws.specs.Bit.{bit}
use Rattle.laws.proofs.Picked.{on_true, on_false}
use Rattle.fsm.specs.Starting.{start_tx_of}
use Rattle.fsm.specs.Ticking.{ticked}
use Rattle.fsm.specs.declared.DaliBitbangPhy.{DaliBitbangPhy}
use Rattle.fsm.specs.declared.StartError.{StartError}
use Rattle.fsm.specs.declared.Answered.{Answered}
use Rattle.fsm.specs.declared.Ticked.{Ticked}
use Rattle.timed_ticks.specs.declared.Pass.{Pass}
use Rattle.timed_ticks.specs.Ticks.{frame, starts_of, readied, level_of, one_more, pass_from, pass_of, summed, timed_from}

pub bit_small : (b : Bool) → bit b ≤ 1
bit_small true = omega arith
bit_small false = omega arith

-- ---- the station that ticks: it was started, or it was left as it is
pub started : (sends : Bool) (s : DaliBitbangPhy) {b : Bool} {x : Answered (Result ⊤ StartError)} {r : DaliBitbangPhy} → b ≡ starts_of sends s → b ≡ true → x ≡ start_tx_of s frame → r ≡ x.station
    → r ≡ readied sends s
unfolding readied
started sends s eb e ex er = rw (er, ex, on_true (sym eb ∙ e))

pub left_alone : (sends : Bool) (s : DaliBitbangPhy) {b : Bool} {r : DaliBitbangPhy} → b ≡ starts_of sends s → b ≡ false → r ≡ s → r ≡ readied sends s
unfolding readied
left_alone sends s eb e er = rw (er, on_false (sym eb ∙ e))

-- ---- a pass
pass_cons : (sends : Bool) (p : Pass) (level : ℕ) (more : List ℕ) → pass_from sends p (level ∷ more) ≡ pass_from sends (one_more sends p level) more
unfolding pass_from
pass_cons sends p level more = refl

pub pass_on : (sends : Bool) (s : DaliBitbangPhy) (h : ℕ) (levels : List ℕ) (i : ℕ) {r : DaliBitbangPhy} {heard : Bool} {t : Ticked} {x : DaliBitbangPhy} {k : ℕ} → i < length levels
    → r ≡ readied sends s → heard ≡ level_of sends r.core.bus.driven_high (get_or levels i 0) → t ≡ ticked r heard → x ≡ t.station → k ≡ h + bit t.driven_high
    → pass_from sends (record { station = x; highs = k }) (drop (i + 1) levels) ≡ pass_from sends (record { station = s; highs = h }) (drop i levels)
unfolding one_more
pass_on sends s h levels i lt er eh et ex ek = rw (drop-cons levels i 0 lt, pass_cons, ek, ex, et, eh, er, add-one i)

pub pass_done : (sends : Bool) (p : Pass) (levels : List ℕ) (i : ℕ) {q : Pass} → length levels ≤ i → pass_from sends p (drop i levels) ≡ q → p ≡ q
unfolding pass_from
pass_done sends p levels i h e = let none : drop i levels ≡ [] = drop_of_length-le levels {i = i} h in rw none at e

-- ---- all passes
pub all_on : (sends : Bool) (levels : List ℕ) (left : ℕ) (s : DaliBitbangPhy) (sum : ℕ) {p : Pass} {next : ℕ} → 0 < left → p ≡ pass_of sends s levels → next ≡ summed sum (left - 1) p
    → timed_from sends levels (left - 1) p.station next ≡ timed_from sends levels left s sum
unfolding timed_from
all_on sends levels zero s sum h ep en = absurd (not-suc-le-zero h)
all_on sends levels (suc left) s sum h ep en = let k : suc left - 1 ≡ left = omega arith in rw (en, ep, k)

pub all_done : (sends : Bool) (levels : List ℕ) (left : ℕ) (s : DaliBitbangPhy) (sum : ℕ) {whole : ℕ} → left ≡ 0 → timed_from sends levels left s sum ≡ whole → sum ≡ whole
unfolding timed_from
all_done sends levels left s sum h e = rw h at e
