-- `timed_ticks::one_pass` meets its contract. Assumes nothing.
use mathlib.Core.Path.{◌≡◌}
use Prim.Native.Nat.{◌≤◌}
use lib.ListN.{drop}
use Rattle.timed_ticks.specs.Ticks.{pass_from, pass_of}
use Rattle.timed_ticks.proofs.one_pass.Given as goal

abbrev pub invariant-loop-level : goal.invariant-loop-level
invariant-loop-level l =
    (l.highs ≤ l.level-index)
    × (pass_from l.sends (record { station = l.station; highs = l.highs }) (drop l.level-index l.levels) ≡ pass_of l.sends l.initial.station l.levels)
