-- `rx_decode::longest_dominant_run_ticks` meets its contract. The loop's invariant: the runs with the ticks of the bytes that
-- are left are those with all ticks. Assumes nothing.
use mathlib.Core.Path.{◌≡◌}
use mathlib.Core.List.{List}
use Prim.Native.Nat.{ℕ, ◌*◌, ◌≤◌}
use Rattle.laws.specs.Tabulate.{tabulate}
use Rattle.window.specs.Window.{level_of}
use Rattle.rx_decode.specs.declared.LowRuns.{LowRuns}
use Rattle.rx_decode.specs.Code.{low_runs, after_ticks}
use Rattle.rx_decode.proofs.Longest.{ticks_from}
use Rattle.rx_decode.proofs.longest_dominant_run_ticks.Given as goal

-- the runs of all ticks of the first n bytes
abbrev pub all : List ℕ → ℕ → LowRuns
all samples n = after_ticks (low_runs 0 0) (tabulate (n * 8) (level_of samples))

-- the runs and the ticks from byte i on
abbrev pub left : List ℕ → ℕ → ℕ → LowRuns → LowRuns
left samples n i runs = after_ticks runs (ticks_from (level_of samples) (i * 8) (n * 8))

abbrev pub invariant-loop-byte : goal.invariant-loop-byte
invariant-loop-byte l = record {
  grown : l.runs.run ≤ l.byte-index * 8;
  same : left l.fn.ev.samples l.n l.byte-index l.runs ≡ all l.fn.ev.samples l.n;
}
