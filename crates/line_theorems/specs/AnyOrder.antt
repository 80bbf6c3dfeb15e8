-- Document 01, "Bench line" (demand 3): from tick 230 on the host may ask the stations in any order, and ticks may come between its calls. Each
-- answer of LoneSender and TwoSenders stands at least until the host has got it. Assumes nothing.
use Rattle.std.specs.Prelude.{ℕ, ◌≤◌, ◌<◌, Bool, false, List, ◌≡◌}
use Rattle.halfbits.specs.Frame.{Frame}
use Rattle.fsm.specs.declared.TxPollResult.TheVariants.{Ok, Collision}
use Rattle.bench_line.specs.declared.BenchLine.{BenchLine}
use Rattle.bench_line.specs.Line.{stations_on}
use Rattle.line_theorems.specs.Reached.{LineCall, poll, take_idle, take_rx, acknowledge, line_after, ReachedLine, line_after_all, StartNothing, Without}
use Rattle.line_theorems.specs.OnLine.{ticks_on, AllIdle, Sender, frame_in, buffer_in, IsSender, started_on, HoldsFrame, Polls, FindsIdle}
use Rattle.line_theorems.specs.TwoSenders.{Pair, both_on, pulls_in, FirstDifference}

-- ---- what stands through any calls that start nothing
-- The station holds the frame until a call takes or acknowledges its event.
abbrev pub KeepsFrame : Frame → ℕ → BenchLine → Type 0
KeepsFrame frame number l =
    (calls : List LineCall) → StartNothing calls → Without (take_rx number) calls → Without (acknowledge number) calls
    → HoldsFrame frame number (line_after_all calls l)

-- Every poll of the station tells Ok.
abbrev pub KeepsOk : ℕ → BenchLine → Type 0
KeepsOk number l = (calls : List LineCall) → StartNothing calls → Polls Ok number (line_after_all calls l)

-- The first poll of the station tells Collision, and every later one Ok. The first take of the after-break mark tells whether the break found the
-- line idle, and every later one tells that it did not.
pub record KeepsClash (found : Bool) (number : ℕ) (l : BenchLine) : Type 0 where
  pub knows : (calls : List LineCall) → StartNothing calls → Without (poll number) calls → Polls Collision number (line_after_all calls l)
  pub knows_once : (calls : List LineCall) → StartNothing calls → (more : List LineCall) → StartNothing more
      → Polls Ok number (line_after_all more (line_after (poll number) (line_after_all calls l)))
  pub finds : (calls : List LineCall) → StartNothing calls → Without (take_idle number) calls → FindsIdle found number (line_after_all calls l)
  pub finds_once : (calls : List LineCall) → StartNothing calls → (more : List LineCall) → StartNothing more
      → FindsIdle false number (line_after_all more (line_after (take_idle number) (line_after_all calls l)))

-- ---- one sender
-- Every poll of the sender tells Ok, and every listener holds the frame.
abbrev pub LoneSenderInAnyOrder : Type 0
LoneSenderInAnyOrder =
    (l : BenchLine) → ReachedLine l → AllIdle l → (a : Sender) → IsSender l a → (ticks : ℕ) → 230 ≤ ticks
    → let now = ticks_on ticks (started_on l a).line in
    KeepsOk a.number now
    × ((listener : ℕ) → listener < stations_on l → (listener ≡ a.number → ⊥) → KeepsFrame (frame_in a) listener now)

-- ---- two senders
-- If the frames are equal, every poll of both senders tells Ok, and every listener holds the frame.
abbrev pub EqualFramesInAnyOrder : Type 0
EqualFramesInAnyOrder =
    (l : BenchLine) → ReachedLine l → AllIdle l → (a b : Sender) → Pair l a b → frame_in a ≡ frame_in b → (ticks : ℕ) → 230 ≤ ticks
    → let now = ticks_on ticks (both_on l a b) in
    KeepsOk a.number now × KeepsOk b.number now
    × ((listener : ℕ) → listener < stations_on l → (listener ≡ a.number → ⊥) → (listener ≡ b.number → ⊥) → KeepsFrame (frame_in a) listener now)

-- If the frames differ, both senders tell of the clash. The one that pulled low at the first half-bit that differs finds the line idle, and the other
-- does not.
abbrev pub DifferentFramesInAnyOrder : Type 0
DifferentFramesInAnyOrder =
    (l : BenchLine) → ReachedLine l → AllIdle l → (a b : Sender) → Pair l a b → (j : ℕ) → FirstDifference (buffer_in a) (buffer_in b) j
    → (ticks : ℕ) → 230 ≤ ticks
    → let now = ticks_on ticks (both_on l a b) in
    KeepsClash (pulls_in (buffer_in a) j) a.number now × KeepsClash (pulls_in (buffer_in b) j) b.number now
