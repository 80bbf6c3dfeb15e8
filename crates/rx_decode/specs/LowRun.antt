-- Document 01, "Reading", as a statement: what the longest low run is. Assumes nothing.
use Rattle.std.specs.Prelude.{ℕ, ◌+◌, ◌<◌, ◌≤◌, List, ◌≡◌, get_or}
use Rattle.rx_decode.specs.Reading.{longest_low}

-- From the tick `place` on, `ticks` ticks running are low. There is no low tick past the last one.
abbrev pub LowFrom : List ℕ → ℕ → ℕ → Type 0
LowFrom levels place ticks = (i : ℕ) → i < ticks → get_or levels (place + i) 1 ≡ 0

-- There is a low run as long as `longest_low` says, and none is longer.
abbrev pub LongestLowRun : Type 0
LongestLowRun =
    (levels : List ℕ)
    → ((place : ℕ) × LowFrom levels place (longest_low levels))
    × ((place ticks : ℕ) → LowFrom levels place ticks → ticks ≤ longest_low levels)
