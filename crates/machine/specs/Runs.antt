-- Document 01, "Machine": each tick first counts both runs. Assumes nothing.
use Rattle.std.specs.Prelude.{ℕ, ◌+◌, min, Bool}
use Rattle.laws.specs.Pick.{pick}
use Rattle.machine.specs.Fields.{with_runs}
use Rattle.machine.specs.declared.Runs.{Runs}
use Rattle.machine.specs.declared.Core.{Core}

-- both runs by their lengths
abbrev runs_of : ℕ → ℕ → Runs
runs_of high low = record { high_run_ticks = high; low_run_ticks = low }

-- The run of the sampled level grows by one tick, up to 65,535. The run of the other level ends.
unfoldable pub runs_counted : Core → Bool → Core
runs_counted c high =
    with_runs c
    (pick high
    (runs_of (min (c.runs.high_run_ticks + 1) 65535) 0)
    (runs_of 0 (min (c.runs.low_run_ticks + 1) 65535)))
