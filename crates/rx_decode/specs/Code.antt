-- Document 01, "Reading": what the private functions of the longest low run promise. No public promise cites this file. Assumes nothing.
use Rattle.std.specs.Prelude.{ℕ, ◌+◌, ◌-◌, ◌/◌, ◌%◌, ◌^◌, max, List, [], ◌∷◌, eqb}
use Rattle.laws.specs.Pick.{pick}
use Rattle.laws.specs.Tabulate.{tabulate}
use Rattle.rx_decode.specs.declared.LowRuns.{LowRuns}

-- the longest low run so far, and the low run at the last tick
abbrev pub low_runs : ℕ → ℕ → LowRuns
low_runs best run = record { best = best; run = run }

-- A low tick lengthens the run at the last tick. A high tick ends it.
unfoldable pub after_tick : LowRuns → ℕ → LowRuns
after_tick runs level = pick (eqb level 0) (low_runs (max runs.best (runs.run + 1)) (runs.run + 1)) (low_runs runs.best 0)

-- the runs after these ticks, one after the other
unfoldable pub after_ticks : LowRuns → List ℕ → LowRuns
after_ticks runs [] = runs
after_ticks runs (level ∷ levels) = after_ticks (after_tick runs level) levels

-- tick number `at` of a byte, the first in its top bit
abbrev pub level_in : ℕ → ℕ → ℕ
level_in byte at = byte / 2 ^ (7 - at) % 2

-- the runs after the eight ticks of a byte
unfoldable pub after_byte : LowRuns → ℕ → LowRuns
after_byte runs byte = after_ticks runs (tabulate 8 (level_in byte))
