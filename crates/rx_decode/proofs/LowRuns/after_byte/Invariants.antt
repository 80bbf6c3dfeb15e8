-- `LowRuns::after_byte` meets its contract. The loop's invariant: the runs with the byte's ticks that are left are those with all eight.
use mathlib.Core.Path.{◌≡◌}
use Prim.Native.Nat.{◌+◌, ◌≤◌}
use Rattle.rx_decode.specs.Code.{after_ticks, level_in, after_byte}
use Rattle.rx_decode.proofs.Longest.{ticks_from}
use Rattle.rx_decode.proofs.LowRuns.after_byte.Given as goal

abbrev pub invariant-loop-at : goal.invariant-loop-at
invariant-loop-at l = record {
  grown : l.runs.run ≤ l.initial.runs.run + l.at;
  left : after_ticks l.runs (ticks_from (level_in l.byte) l.at 8) ≡ after_byte l.initial.runs l.byte;
}
