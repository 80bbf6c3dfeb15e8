-- Two senders started between the same two ticks: both starts are taken, and the line that has both (specs/TwoSenders). Assumes nothing.
use Prim.Native.Nat.{ℕ, ◌<◌, ◌≤◌}
use native.Mathlib.Omega.{arith}
use mathlib.Core.Bool.{true, not}
use mathlib.Core.Logic.{◌⊎◌, inl, inr, ⊎_elim}
use mathlib.Core.Path.{◌≡◌, refl, sym, ◌∙◌, ap, subst}
use lib.ListN.{length}
use borrow.Author.Tests.{ne_eqb}
use Rattle.halfbits.specs.HalfBits.{half_bits_of}
use Rattle.halfbits.specs.Wave.{high}
use Rattle.machine.specs.declared.CollisionPolicy.{CollisionPolicy}
use Rattle.machine.specs.Sending.{watches_of}
use Rattle.fsm.specs.declared.DaliBitbangPhy.{DaliBitbangPhy}
use Rattle.bench_line.specs.declared.BenchLine.{BenchLine}
use Rattle.bench_line.specs.Line.{stations_on, station_at}
use Rattle.station_theorems.specs.Ticks.{IsIdle}
use Rattle.frames.proofs.SendingTicks as sending
use Rattle.line_theorems.specs.Reached.{ReachedLine}
use Rattle.line_theorems.specs.OnLine.{AllIdle, Sender, IsSender, started_on}
use Rattle.line_theorems.specs.TwoSenders.{Watches, Pair, both_on, BothStarted}
use Rattle.line_theorems.proofs.Starting.{bits_in, many_bits, fits, same_stations, reached_on, at_other, answers, ready}
use Rattle.line_theorems.proofs.Clashing.{Ready}

-- ---- Auto and On watch frames of 16 and 24 bits
module _ (l : BenchLine) (a : Sender) (is : IsSender l a) (w : Watches l a) where
  abbrev policy_is : CollisionPolicy
  policy_is = (station_at l a.number).core.collision_policy

  not_8 : 9 ≤ a.bits
  not_8 = ⊎_elim (λ e. omega (arith, e)) (λ e. omega (arith, e)) w.long

  watched : watches_of policy_is (half_bits_of (length (bits_in a))) ≡ true
  unfolding watches_of
  watched =
      ⊎_elim (λ e. rw e (ap not (ne_eqb (half_bits_of (length (bits_in a))) 22 (λ same. let none : ⊥ = omega (arith, same, not_8, many_bits l a is) in none)))) (λ e. rw e refl)
      w.policy

  pub as_long : (length (bits_in a) ≡ 16) ⊎ (length (bits_in a) ≡ 24)
  as_long = ⊎_elim (λ e. inl (many_bits l a is ∙ e)) (λ e. inr (many_bits l a is ∙ e)) w.long

-- ---- the line with both started
module _ (l : BenchLine) (reached : ReachedLine l) (idle : AllIdle l) (a b : Sender) (pair : Pair l a b) where
  abbrev first : BenchLine
  first = (started_on l a).line

  abbrev both : BenchLine
  both = both_on l a b

  b_apart : b.number ≡ a.number → ⊥
  b_apart e = pair.apart (sym e)

  other_is : IsSender first b
  other_is = record { on = omega (arith, pair.other.on, same_stations l a pair.one); counts = pair.other.counts; are_bytes = pair.other.are_bytes }

  -- the second start finds its station as it was
  b_before : station_at first b.number ≡ station_at l b.number
  b_before = at_other l a pair.one b.number b_apart

  b_idle : IsIdle (station_at first b.number)
  b_idle = subst (λ (s : DaliBitbangPhy). IsIdle s) (sym b_before) (idle b.number pair.other.on)

  first_reached : ReachedLine first
  first_reached = reached_on l a pair.one reached

  pub both_reached : ReachedLine both
  both_reached = reached_on first b other_is first_reached

  pub same : stations_on both ≡ stations_on l
  same = same_stations first b other_is ∙ same_stations l a pair.one

  abbrev policy_of : Sender → CollisionPolicy
  policy_of c = (station_at l c.number).core.collision_policy

  pub one_ready : Ready both a.number (bits_in a) (policy_of a)
  one_ready = record {
    on = omega (arith, pair.one.on, same);
    fits = fits l a pair.one;
    watched = watched l a pair.one pair.one_watches;
    sender =
        subst (λ (s : DaliBitbangPhy). sending.Sender (bits_in a) (policy_of a) 3 0 0 high s) (sym (at_other first b other_is a.number pair.apart))
        (ready l a pair.one reached (idle a.number pair.one.on));
  }

  pub other_ready : Ready both b.number (bits_in b) (policy_of b)
  other_ready = record {
    on = omega (arith, pair.other.on, same);
    fits = fits l b pair.other;
    watched = watched l b pair.other pair.other_watches;
    sender =
        subst (λ (s : DaliBitbangPhy). sending.Sender (bits_in b) s.core.collision_policy 3 0 0 high (station_at both b.number)) b_before
        (ready first b other_is first_reached b_idle);
  }

  pub listening : (n : ℕ) → n < stations_on both → (n ≡ a.number → ⊥) → (n ≡ b.number → ⊥) → IsIdle (station_at both n)
  listening n on from-a from-b =
      subst (λ (s : DaliBitbangPhy). IsIdle s) (sym (at_other first b other_is n from-b ∙ at_other l a pair.one n from-a)) (idle n (omega (arith, on, same)))

pub both_started : BothStarted
both_started l reached idle a b pair = (
  answers l a pair.one reached (idle a.number pair.one.on),
  answers (started_on l a).line b (other_is l reached idle a b pair) (first_reached l reached idle a b pair) (b_idle l reached idle a b pair),
)
