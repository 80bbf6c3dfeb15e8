-- After a clash the winner is a lone sender (specs/Retry). Assumes nothing.
use Prim.Native.Nat.{ℕ, ◌+◌, ◌-◌, ◌≤◌, ◌<◌}
use native.Mathlib.Omega.{arith}
use mathlib.Core.List.{List, [], ◌∷◌}
use mathlib.Core.Logic.{inl, inr, ⊎_elim}
use mathlib.Core.Path.{◌≡◌, refl, sym, ◌∙◌, subst}
use Rattle.bench_line.specs.declared.BenchLine.{BenchLine}
use Rattle.bench_line.specs.Line.{stations_on}
use Rattle.frames.specs.Sends.{Start}
use Rattle.line_theorems.specs.Reached.{LineCall, ReachedLine, line_after, line_after_all, StartNothing, ticks_in}
use Rattle.line_theorems.specs.OnLine.{ticks_on, AllIdle, Sender, IsSender}
use Rattle.line_theorems.specs.LoneSender.{Alone}
use Rattle.line_theorems.specs.TwoSenders.{Pair, both_on}
use Rattle.line_theorems.specs.Retry.{again, CanRetry, Retries, Retry}
use Rattle.line_theorems.proofs.Hearing.{same_count}
use Rattle.line_theorems.proofs.Asking.{count_kept, Settling, all_settle, settled_line}
use Rattle.line_theorems.proofs.LoneSender.{lone_sender}
use Rattle.line_theorems.proofs.BothStarted.{same}
use Rattle.line_theorems.proofs.DifferentFrames.{Won, first_difference, who_won, clashed}

counts_kept : (calls : List LineCall) (l : BenchLine) → (line_after_all calls l).count ≡ l.count
unfolding line_after_all
counts_kept [] l = refl
counts_kept (c ∷ cs) l = counts_kept cs (line_after c l) ∙ count_kept l c

module _ (l : BenchLine) (reached : ReachedLine l) (idle : AllIdle l) (a b : Sender) (pair : Pair l a b) where
  module _ (winner loser : Sender) (is : IsSender l winner) (loser-on : loser.number < stations_on l) (apart : winner.number ≡ loser.number → ⊥)
      (j : ℕ) (won : Won l reached idle a b pair winner loser j) where
    module _ (ticks : ℕ) (late : 230 ≤ ticks) (calls : List LineCall) (nothing : StartNothing calls) (idle-by : 231 ≤ ticks + ticks_in calls) where
      abbrev now : BenchLine
      now = line_after_all calls (ticks_on ticks (both_on l a b))

      all_on : stations_on now ≡ stations_on l
      all_on = omega (arith, counts_kept calls (ticks_on ticks (both_on l a b)), same_count ticks (both_on l a b), same l reached idle a b pair)

      settled_now : Settling 0 now
      settled_now =
          let none : 231 - ticks - ticks_in calls ≡ 0 = omega (arith, idle-by) in
          subst (λ n. Settling n now) none (all_settle calls nothing (231 - ticks) (ticks_on ticks (both_on l a b)) (won.settled_so.settles ticks late))

      all_idle : AllIdle now
      all_idle = settled_line now settled_now

      alone : (by : Start) → Alone now (again winner by)
      alone by =
          lone_sender now settled_now.reached all_idle (again winner by)
          (record { on = omega (arith, is.on, all_on); counts = is.counts; are_bytes = is.are_bytes })

      can_retry : CanRetry now winner loser
      can_retry = record {
        idle = all_idle;
        alone = alone;
        loser_hears = λ by more long. (alone by).heard more long loser.number (omega (arith, loser-on, all_on)) (λ e. apart (sym e));
      }

    retries : Retries (both_on l a b) winner loser j
    retries = record { clashed = clashed l reached idle a b pair apart won; can_retry = can_retry }

pub retry : Retry
retry l reached idle a b pair different =
    let (j, d) = first_difference l reached idle a b pair different in (
      j,
      ⊎_elim (λ w. inl (retries l reached idle a b pair a b pair.one pair.other.on pair.apart j w))
          (λ w. inr (retries l reached idle a b pair b a pair.other pair.one.on (λ e. pair.apart (sym e)) j w)) (who_won l reached idle a b pair j d),
    )
