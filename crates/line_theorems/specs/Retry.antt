-- Document 01, "Bench line" (demand 3): after a clash the winner can send its frame again, and the loser hears it like any listener. Assumes nothing.
use Rattle.std.specs.Prelude.{ℕ, ◌+◌, ◌≤◌, List, ◌⊎◌, ◌≡◌}
use Rattle.bench_line.specs.declared.BenchLine.{BenchLine}
use Rattle.frames.specs.Sends.{Start}
use Rattle.line_theorems.specs.Reached.{LineCall, ReachedLine, line_after_all, StartNothing, ticks_in}
use Rattle.line_theorems.specs.OnLine.{ticks_on, AllIdle, Sender, frame_in, started_on, HoldsFrame}
use Rattle.line_theorems.specs.LoneSender.{Alone}
use Rattle.line_theorems.specs.TwoSenders.{Pair, both_on, Clashed}

-- the same sender with the same frame, started by the call `by`
abbrev pub again : Sender → Start → Sender
again a by = record { number = a.number; by = by; bits = a.bits; first = a.first; second = a.second; third = a.third }

-- All stations are Idle. If the winner starts now, it is a lone sender, and from 230 ticks later on the loser holds its frame.
pub record CanRetry (now : BenchLine) (winner loser : Sender) : Type 0 where
  pub idle : AllIdle now
  pub alone : (by : Start) → Alone now (again winner by)
  pub loser_hears : (by : Start) (ticks : ℕ) → 230 ≤ ticks
      → HoldsFrame (frame_in winner) loser.number (ticks_on ticks (started_on now (again winner by)).line)

-- The two have clashed. From tick 230 on the host may make any calls that start nothing, and from tick 231 on the winner can retry.
pub record Retries (l : BenchLine) (winner loser : Sender) (j : ℕ) : Type 0 where
  pub clashed : Clashed l winner loser j
  pub can_retry : (ticks : ℕ) → 230 ≤ ticks → (calls : List LineCall) → StartNothing calls → 231 ≤ ticks + ticks_in calls
      → CanRetry (line_after_all calls (ticks_on ticks l)) winner loser

-- If the frames differ, one of the two senders is the winner and can retry.
abbrev pub Retry : Type 0
Retry =
    (l : BenchLine) → ReachedLine l → AllIdle l → (a b : Sender) → Pair l a b → (frame_in a ≡ frame_in b → ⊥)
    → (j : ℕ) × (Retries (both_on l a b) a b j ⊎ Retries (both_on l a b) b a j)
