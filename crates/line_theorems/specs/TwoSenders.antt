-- Document 01, "Bench line" (demand 3): two senders started between the same two ticks. Assumes nothing.
use Rattle.std.specs.Prelude.{ℕ, ◌-◌, ◌/◌, ◌%◌, ◌^◌, ◌≤◌, ◌<◌, Bool, true, false, List, [], ◌∷◌, ◌⊎◌, ◌≡◌, eqb, get_or}
use Rattle.halfbits.specs.declared.HalfBitBuffer.{HalfBitBuffer}
use Rattle.halfbits.specs.Wave.{high, low}
use Rattle.machine.specs.declared.CollisionPolicy.TheVariants.{Auto, On}
use Rattle.std.specs.declared.result.Result.TheVariants as result
use Rattle.fsm.specs.declared.TxPollResult.TheVariants.{Ok, Collision}
use Rattle.bench_line.specs.declared.BenchLine.{BenchLine}
use Rattle.bench_line.specs.Line.{stations_on, station_at}
use Rattle.line_theorems.specs.Reached.{ReachedLine}
use Rattle.line_theorems.specs.OnLine.{ticks_on, AllIdle, Sender, frame_in, buffer_in, IsSender, started_on, BreaksBy, Answer, polls, finds_idle, holds_frame, InARow}

-- ---- the two
-- The sender's frame has 16 or 24 bits, and its policy is Auto or On, so it watches for a clash.
pub record Watches (l : BenchLine) (a : Sender) : Type 0 where
  pub long : (a.bits ≡ 16) ⊎ (a.bits ≡ 24)
  pub policy : ((station_at l a.number).core.collision_policy ≡ Auto) ⊎ ((station_at l a.number).core.collision_policy ≡ On)

-- two senders that watch, each with a station of its own
pub record Pair (l : BenchLine) (a b : Sender) : Type 0 where
  pub one : IsSender l a
  pub other : IsSender l b
  pub one_watches : Watches l a
  pub other_watches : Watches l b
  pub apart : a.number ≡ b.number → ⊥

-- the line after both starts, with no tick between them
abbrev pub both_on : BenchLine → Sender → Sender → BenchLine
both_on l a b = (started_on (started_on l a).line b).line

-- On a reached line on which all are Idle, neither start is refused.
abbrev pub BothStarted : Type 0
BothStarted =
    (l : BenchLine) → ReachedLine l → AllIdle l → (a b : Sender) → Pair l a b
    → ((started_on l a).answer ≡ result.Ok (result.Ok tt)) × ((started_on (started_on l a).line b).answer ≡ result.Ok (result.Ok tt))

-- ---- equal frames
-- calls in a row: a poll of each sender tells Ok, and then come the calls of `more`
abbrev pub sent_answers : ℕ → ℕ → List Answer → List Answer
sent_answers one other more = polls one Ok ∷ polls other Ok ∷ more

-- From tick 230 on a poll of each sender tells Ok, every listener then holds the frame, and all stations are Idle again.
pub record Agreed (l : BenchLine) (a b : Sender) : Type 0 where
  pub sent : (ticks : ℕ) → 230 ≤ ticks → InARow (sent_answers a.number b.number []) (ticks_on ticks (both_on l a b))
  pub heard : (ticks : ℕ) → 230 ≤ ticks → (listener : ℕ) → listener < stations_on l → (listener ≡ a.number → ⊥) → (listener ≡ b.number → ⊥)
      → InARow (sent_answers a.number b.number (holds_frame listener (frame_in a) ∷ [])) (ticks_on ticks (both_on l a b))
  pub rests : (ticks : ℕ) → 230 ≤ ticks → AllIdle (ticks_on ticks (both_on l a b))

-- If the frames are equal, the senders agree.
abbrev pub EqualFrames : Type 0
EqualFrames = (l : BenchLine) → ReachedLine l → AllIdle l → (a b : Sender) → Pair l a b → frame_in a ≡ frame_in b → Agreed l a b

-- ---- different frames
-- whether half-bit j of a buffer pulls low; the top bit of a byte comes first, and no half-bit past the last byte pulls
unfoldable pub pulls_in : HalfBitBuffer → ℕ → Bool
pulls_in hb j = eqb (get_or hb.«data» (j / 8) 0 / 2 ^ (7 - j % 8) % 2) 1

-- Half-bit j is the first at which the two buffers differ.
pub record FirstDifference (this that : HalfBitBuffer) (j : ℕ) : Type 0 where
  pub same : (i : ℕ) → i < j → pulls_in this i ≡ pulls_in that i
  pub differs : pulls_in this j ≡ pulls_in that j → ⊥

-- four calls in a row: a poll of each sender tells Collision, the winner finds the line idle after its break, and the loser does not
abbrev pub clash_answers : ℕ → ℕ → List Answer
clash_answers winner loser = polls winner Collision ∷ polls loser Collision ∷ finds_idle winner true ∷ finds_idle loser false ∷ []

-- What becomes of two senders that clash at half-bit j; `l` is the line after both starts.
pub record Clashed (l : BenchLine) (winner loser : Sender) (j : ℕ) : Type 0 where
  -- At the first half-bit that differs the winner pulls low, and the loser releases the line.
  pub first_difference : FirstDifference (buffer_in winner) (buffer_in loser) j
  pub pulled : pulls_in (buffer_in winner) j ≡ true
  pub released : pulls_in (buffer_in loser) j ≡ false
  -- By tick 216 both breaks are over. At the end of its break the winner samples high, and the loser samples low.
  pub winner_sampled : BreaksBy 216 l winner.number high
  pub loser_sampled : BreaksBy 216 l loser.number low
  -- From tick 230 on both senders tell of the clash, and each tells whether it is the winner.
  pub told : (ticks : ℕ) → 230 ≤ ticks → InARow (clash_answers winner.number loser.number) (ticks_on ticks l)
  -- From tick 231 on all stations are Idle, the listeners too.
  pub rests : (ticks : ℕ) → 231 ≤ ticks → AllIdle (ticks_on ticks l)

-- If the frames differ, one of the two senders is the winner and the other is the loser.
abbrev pub DifferentFrames : Type 0
DifferentFrames =
    (l : BenchLine) → ReachedLine l → AllIdle l → (a b : Sender) → Pair l a b → (frame_in a ≡ frame_in b → ⊥)
    → (j : ℕ) × (Clashed (both_on l a b) a b j ⊎ Clashed (both_on l a b) b a j)
