-- Stations that drive one level are heard as one. Assumes nothing.
use Prim.Native.Nat.{ℕ, zero, suc, ◌<◌, ◌≤◌}
use native.Mathlib.Omega.{arith}
use native.Mathlib.Decide.{dec_lt}
use native.Mathlib.Nat.{not-suc-le-zero}
use mathlib.Core.Bool.{Bool, true, false}
use mathlib.Core.Logic.{◌⊎◌, inl, inr}
use mathlib.Core.Path.{◌≡◌, refl, sym, ◌∙◌, ap, ap₂}
use Rattle.fsm.specs.declared.DaliBitbangPhy.{DaliBitbangPhy}
use Rattle.machine.specs.States.{hears}
use Rattle.fsm.specs.Ticking.{tick_of}
use Rattle.bench_line.specs.declared.BenchLine.{BenchLine}
use Rattle.bench_line.specs.Line.{stations_on, station_at}
use Rattle.station_theorems.specs.Ticks.{drives, after_levels, alone}
use Rattle.line_theorems.specs.Reached.{ReachedLine}
use Rattle.line_theorems.specs.Lines.{LineHolds}
use Rattle.line_theorems.specs.OnLine.{ticks_on}
use Rattle.line_theorems.proofs.Lines.{line_invariants}
use Rattle.line_theorems.proofs.Hearing.{levels, ticks_reached, same_count, on_line, left_if_all_high, left_if_one_low, listens_on, listener_drives, heard_reached}

-- ---- one station, at any tick
module _ (l : BenchLine) (reached : ReachedLine l) where
  pub holds_at : (t : ℕ) → LineHolds (ticks_on t l)
  holds_at t = line_invariants (ticks_on t l) (ticks_reached t l reached)

  -- the line is high if all that are on it drive high, and low if one drives low
  pub high_at : (t : ℕ) → ((n : ℕ) → n < stations_on l → drives (after_levels t (levels l) (station_at l n)) ≡ true) → levels l t ≡ true
  high_at t all =
      left_if_all_high (ticks_on t l) (holds_at t)
      (λ n on. let here : n < stations_on l = omega (arith, on, same_count t l) in ap (λ (s : DaliBitbangPhy). drives s) (on_line l reached n here t) ∙ all n here)

  pub low_at : (t n : ℕ) → n < stations_on l → drives (after_levels t (levels l) (station_at l n)) ≡ false → levels l t ≡ false
  low_at t n on falls =
      left_if_one_low (ticks_on t l) (holds_at t) n (omega (arith, on, same_count t l)) (ap (λ (s : DaliBitbangPhy). drives s) (on_line l reached n on t) ∙ falls)

  -- one that listens leaves it high
  pub listening : (t n : ℕ) → n < stations_on l → hears (after_levels t (levels l) (station_at l n)).core.bus.bus_state ≡ true → drives (after_levels t (levels l) (station_at l n)) ≡ true
  listening t n on hearing = listener_drives _ (heard_reached t (levels l) (station_at l n) ((line_invariants l reached).reached n on)) hearing

  -- and goes on to listen
  pub still_listening : (t n : ℕ) → hears (station_at l n).core.bus.bus_state ≡ true → hears (after_levels t (levels l) (station_at l n)).core.bus.bus_state ≡ true
  still_listening t n hearing = (listens_on t (levels l) (record { hearing = hearing; collisions = refl; marked = refl; yields = refl })).hearing

-- ---- senders of one level
-- one that drives this level for so many ticks, as long as it hears itself
abbrev pub Drives : (ℕ → Bool) → ℕ → DaliBitbangPhy → Type 0
Drives level ticks s = (t : ℕ) → t < ticks → drives (alone t s) ≡ level t

module _ (l : BenchLine) (reached : ReachedLine l) (level : ℕ → Bool) (ticks : ℕ)
    (roles : (n : ℕ) → n < stations_on l → (hears (station_at l n).core.bus.bus_state ≡ true) ⊎ Drives level ticks (station_at l n))
    (one : ℕ) (on : one < stations_on l) (sends : Drives level ticks (station_at l one)) where
  abbrev Same : ℕ → Type 0
  Same t = (i : ℕ) → i < t → levels l i ≡ level i

  as_alone : (t : ℕ) → t ≤ ticks → Same t → (s : DaliBitbangPhy) → Drives level ticks s → after_levels t (levels l) s ≡ alone t s
  unfolding after_levels alone
  as_alone zero h same s f = refl
  as_alone (suc t) h same s f = ap₂ tick_of (as_alone t (omega arith) (λ i p. same i (omega arith)) s f) (same t (omega arith) ∙ sym (f t (omega arith)))

  next : (t : ℕ) → t < ticks → Same t → levels l t ≡ level t
  next t h same = go (level t) refl
    where
      sender : (n : ℕ) → Drives level ticks (station_at l n) → drives (after_levels t (levels l) (station_at l n)) ≡ level t
      sender n f = ap (λ (s : DaliBitbangPhy). drives s) (as_alone t (omega arith) same (station_at l n) f) ∙ f t h

      by_role : (n : ℕ) → n < stations_on l → level t ≡ true → (hears (station_at l n).core.bus.bus_state ≡ true) ⊎ Drives level ticks (station_at l n)
          → drives (after_levels t (levels l) (station_at l n)) ≡ true
      by_role n p e (inl hearing) = listening l reached t n p (still_listening l reached t n hearing)
      by_role n p e (inr f) = sender n f ∙ e

      go : (b : Bool) → level t ≡ b → levels l t ≡ b
      go true e = high_at l reached t (λ n p. by_role n p e (roles n p))
      go false e = low_at l reached t one on (sender one sends ∙ e)

  same_up_to : (t : ℕ) → t ≤ ticks → Same t
  same_up_to zero h i p = absurd (not-suc-le-zero p)
  same_up_to (suc t) h i p = go (same_up_to t (omega arith)) (dec_lt i t)
    where
      go : Same t → Dec (i < t) → levels l i ≡ level i
      go same (yes before) = same i before
      go same (no last) = let e : i ≡ t = omega (arith, last) in rw e (next t (omega arith) same)

  -- The line has that level, and each of them hears itself.
  pub heard_as_one : (t : ℕ) → t < ticks → levels l t ≡ level t
  heard_as_one t h = same_up_to ticks (omega arith) t h

  pub hears_itself : (t : ℕ) → t ≤ ticks → (s : DaliBitbangPhy) → Drives level ticks s → after_levels t (levels l) s ≡ alone t s
  hears_itself t h s f = as_alone t h (λ i p. heard_as_one i (omega arith)) s f
