-- Document 01, "Bench line" (demand 3): one sender alone. Assumes nothing.
use Rattle.std.specs.Prelude.{ℕ, ◌+◌, ◌*◌, ◌≤◌, ◌<◌, Bool, true, List, ◌∷◌, ◌≡◌, length, get_or}
use Rattle.laws.specs.Pick.{pick}
use Rattle.halfbits.specs.Frame.{frame_bits}
use Rattle.std.specs.declared.result.Result.TheVariants as result
use Rattle.fsm.specs.declared.TxPollResult.TheVariants.{Ok}
use Rattle.bench_line.specs.declared.BenchLine.{BenchLine}
use Rattle.bench_line.specs.Line.{stations_on}
use Rattle.frames.specs.Sends.{idle_at}
use Rattle.line_theorems.specs.Reached.{ReachedLine}
use Rattle.line_theorems.specs.OnLine.{ticks_on, AllIdle, Sender, frame_in, IsSender, started_on, HoldsFrame, Polls}

-- The start is not refused. From tick 230 on every listener holds the sender's frame, a poll of the sender tells Ok, and all stations are Idle again.
pub record Alone (l : BenchLine) (a : Sender) : Type 0 where
  pub started : (started_on l a).answer ≡ result.Ok (result.Ok tt)
  pub heard : (ticks : ℕ) → 230 ≤ ticks → (listener : ℕ) → listener < stations_on l → (listener ≡ a.number → ⊥)
      → HoldsFrame (frame_in a) listener (ticks_on ticks (started_on l a).line)
  pub sent : (ticks : ℕ) → 230 ≤ ticks → Polls Ok a.number (ticks_on ticks (started_on l a).line)
  pub rests : (ticks : ℕ) → 230 ≤ ticks → AllIdle (ticks_on ticks (started_on l a).line)

-- This holds for every reached line on which all are Idle, for both starts and whatever the policies are.
abbrev pub LoneSender : Type 0
LoneSender = (l : BenchLine) → ReachedLine l → AllIdle l → (a : Sender) → IsSender l a → Alone l a

-- ---- from which tick on
-- the last half-bit that pulls low, counted from 0 with those of the start bit: the second half of the last bit, or its first half if that bit is a 1
abbrev pub last_pull : List Bool → ℕ
last_pull row = pick (get_or (true ∷ row) (length row) true) (2 * length row) (2 * length row + 1)

-- the tick that completes a listener's capture: 88 or 92 for 8 bits, 152 or 156 for 16, 216 or 220 for 24
abbrev pub complete_at : List Bool → ℕ
complete_at row = 24 + 4 * last_pull row

-- From that tick on every listener holds the frame. Once the sender is Idle again, a poll of it tells Ok.
abbrev pub LoneSenderFrom : Type 0
LoneSenderFrom =
    (l : BenchLine) → ReachedLine l → AllIdle l → (a : Sender) → IsSender l a → (ticks : ℕ)
    → (complete_at (frame_bits (frame_in a)) ≤ ticks → (listener : ℕ) → listener < stations_on l → (listener ≡ a.number → ⊥)
    → HoldsFrame (frame_in a) listener (ticks_on ticks (started_on l a).line))
    × (idle_at a.bits ≤ ticks → Polls Ok a.number (ticks_on ticks (started_on l a).line))
