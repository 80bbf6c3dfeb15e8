-- The theorems hold of a line on which a frame was sent before and policies were set. Assumes nothing.
use Rattle.std.specs.Prelude.{⊤}
use Prim.Native.Nat.{ℕ, ◌+◌, ◌<◌, ◌≤◌, min}
use native.Mathlib.Omega.{arith}
use native.Mathlib.Decide.{ℕ_discrete}
use mathlib.Core.List.{List, [], ◌∷◌}
use mathlib.Core.Logic.{◌⊎◌, inl, inr, ⊎_elim}
use mathlib.Core.Path.{◌≡◌, refl, sym, ◌∙◌, ap, subst}
use lib.Seq.{get_or-set_same, get_or-set_other}
use borrow.Author.Tests.{lt-ltb}
use Rattle.laws.specs.Pick.{pick}
use Rattle.laws.proofs.Picked.{on_true}
use Rattle.halfbits.specs.Frame.{bytes_of, frame_bits}
use Rattle.halfbits.specs.Encoding.{frame_of}
use Rattle.machine.specs.declared.CollisionPolicy.{CollisionPolicy}
use Rattle.machine.specs.declared.CollisionPolicy.TheVariants.{Auto, Off, On}
use Rattle.fsm.specs.declared.DaliBitbangPhy.{DaliBitbangPhy}
use Rattle.std.specs.declared.result.Result.TheVariants as result
use Rattle.fsm.specs.declared.TxPollResult.TheVariants.{Collision}
use Rattle.fsm.specs.Station.{new_station}
use Rattle.fsm.specs.Calls.{with_policy}
use Rattle.bench_line.specs.declared.BenchLine.{BenchLine}
use Rattle.bench_line.specs.declared.LineAnswered.{LineAnswered}
use Rattle.bench_line.specs.Line.{stations_on, station_at, with_station, new_line_of}
use Rattle.bench_line.specs.Calls.{answered_at}
use Rattle.station_theorems.specs.Ticks.{IsIdle}
use Rattle.frames.specs.Sends.{Start, by_start_answer}
use Rattle.line_theorems.specs.Reached.{LineCall, tick, poll, take_idle, take_rx, acknowledge, policy, line_after, ReachedLine, called}
use Rattle.line_theorems.specs.Reached.{line_after_all, Each, starts_nothing, StartNothing, Without, is_tick, ticks_in}
use Rattle.line_theorems.specs.OnLine.{frame_in, HoldsFrame, Polls, ticks_on, AllIdle, Sender, buffer_in, IsSender, started_on, Breaks}
use Rattle.line_theorems.specs.LoneSender.{Alone, complete_at}
use Rattle.line_theorems.specs.TwoSenders.{Pair, both_on, Agreed, pulls_in, FirstDifference, Clashed}
use Rattle.line_theorems.specs.Clash.{clash_at}
use Rattle.line_theorems.specs.Retry.{CanRetry}
use Rattle.line_theorems.proofs.Lines.{line_invariants}
use Rattle.line_theorems.proofs.Hearing.{ticks_reached, same_count}
use Rattle.line_theorems.proofs.Asking.{distinct}
use Rattle.line_theorems.proofs.Starting.{same_stations, reached_on}
use Rattle.line_theorems.proofs.LoneSender.{lone_sender, lone_sender_from, lone_sender_in_any_order}
use Rattle.line_theorems.proofs.BothStarted.{both_started}
use Rattle.line_theorems.proofs.EqualFrames.{equal_frames, equal_frames_in_any_order}
use Rattle.line_theorems.proofs.DifferentFrames.{first_difference, different_frames, different_frames_in_any_order, clash_ticks}
use Rattle.line_theorems.proofs.Retry.{retry}
use Rattle.line_theorems.proofs.Senders.{new_all_idle, four_reached, sends_8, sends_16, sends_24, is_8, is_16, is_24, bytes_in}

-- a policy is set: all else stays
module _ (l : BenchLine) (reached : ReachedLine l) (idle : AllIdle l) (number : ℕ) (on : number < stations_on l) (p : CollisionPolicy) where
  abbrev set_line : BenchLine
  set_line = line_after (policy number p) l

  set_is : set_line ≡ with_station l number (with_policy (station_at l number) p)
  unfolding line_after answered_at
  set_is = ap (λ (r : LineAnswered ⊤). r.line) (on_true (lt-ltb number (stations_on l) on) _ _)

  set_stations : stations_on set_line ≡ stations_on l
  set_stations = rw set_is

  set_here : station_at set_line number ≡ with_policy (station_at l number) p
  set_here = rw set_is (get_or-set_same l.stations number _ new_station (omega (arith, (line_invariants l reached).places, on)))

  set_there : (n : ℕ) → (n ≡ number → ⊥) → station_at set_line n ≡ station_at l n
  set_there n apart = rw set_is (get_or-set_other l.stations number n _ new_station apart)

  set_idle : AllIdle set_line
  unfolding with_policy
  set_idle n here = go (ℕ_discrete n number)
    where
      go : Dec (n ≡ number) → IsIdle (station_at set_line n)
      go (yes e) = subst (λ m. IsIdle (station_at set_line m)) (sym e) (subst (λ (s : DaliBitbangPhy). IsIdle s) (sym set_here) (idle number on))
      go (no apart) = subst (λ (s : DaliBitbangPhy). IsIdle s) (sym (set_there n apart)) (idle n (omega (arith, here, set_stations)))

  set_policy : (station_at set_line number).core.collision_policy ≡ p
  unfolding with_policy
  set_policy = ap (λ (s : DaliBitbangPhy). s.core.collision_policy) set_here

-- Station 0 of four has sent 8 bits, which nobody has taken; then station 0 is told to watch always and station 2 by itself.
abbrev earlier : Sender
earlier = sends_8 0 by_start_answer 5

earlier_is : IsSender (new_line_of 4) earlier
unfolding new_line_of
earlier_is = is_8 (new_line_of 4) 0 by_start_answer 5 (omega arith) (omega arith)

abbrev sent_once : BenchLine
sent_once = ticks_on 230 (started_on (new_line_of 4) earlier).line

sent_reached : ReachedLine sent_once
sent_reached = ticks_reached 230 (started_on (new_line_of 4) earlier).line (reached_on (new_line_of 4) earlier earlier_is four_reached)

sent_idle : AllIdle sent_once
sent_idle = (lone_sender (new_line_of 4) four_reached (new_all_idle 4) earlier earlier_is).rests 230 (omega arith)

sent_four : stations_on sent_once ≡ 4
unfolding new_line_of
sent_four = ap (λ n. min n 4) (same_count 230 (started_on (new_line_of 4) earlier).line) ∙ same_stations (new_line_of 4) earlier earlier_is

abbrev watched_once : BenchLine
watched_once = line_after (policy 0 On) sent_once

abbrev old_line : BenchLine
old_line = line_after (policy 2 Auto) watched_once

watched_four : stations_on watched_once ≡ 4
watched_four = set_stations sent_once sent_reached sent_idle 0 (omega (arith, sent_four)) On ∙ sent_four

watched_idle : AllIdle watched_once
watched_idle = set_idle sent_once sent_reached sent_idle 0 (omega (arith, sent_four)) On

watched_reached : ReachedLine watched_once
watched_reached = called (policy 0 On) sent_reached

old_reached : ReachedLine old_line
old_reached = called (policy 2 Auto) watched_reached

old_idle : AllIdle old_line
old_idle = set_idle watched_once watched_reached watched_idle 2 (omega (arith, watched_four)) Auto

old_four : stations_on old_line ≡ 4
old_four = set_stations watched_once watched_reached watched_idle 2 (omega (arith, watched_four)) Auto ∙ watched_four

zero_watches : (station_at old_line 0).core.collision_policy ≡ On
zero_watches =
    ap (λ (s : DaliBitbangPhy). s.core.collision_policy)
    (set_there watched_once watched_reached watched_idle 2 (omega (arith, watched_four)) Auto 0 (λ e. let none : ⊥ = omega (arith, e) in none))
    ∙ set_policy sent_once sent_reached sent_idle 0 (omega (arith, sent_four)) On

two_watches : (station_at old_line 2).core.collision_policy ≡ Auto
two_watches = set_policy watched_once watched_reached watched_idle 2 (omega (arith, watched_four)) Auto

-- It is heard again, whoever sends, and in whatever way.
module _ (n : ℕ) (on : n < 4) (x y : ℕ) (h : x < 256) (k : y < 256) (by : Start) where
  on_old : IsSender old_line (sends_16 n by x y)
  on_old = is_16 old_line n by x y (omega (arith, on, old_four)) h k

  pub old_line_hears : Alone old_line (sends_16 n by x y)
  old_line_hears = lone_sender old_line old_reached old_idle (sends_16 n by x y) on_old

  pub old_line_hears_from : (ticks : ℕ) → complete_at (frame_bits (frame_in (sends_16 n by x y))) ≤ ticks → (listener : ℕ) → listener < 4 → (listener ≡ n → ⊥)
      → HoldsFrame (frame_in (sends_16 n by x y)) listener (ticks_on ticks (started_on old_line (sends_16 n by x y)).line)
  old_line_hears_from ticks complete listener here apart =
      (lone_sender_from old_line old_reached old_idle (sends_16 n by x y) on_old ticks).0 complete listener (omega (arith, here, old_four)) apart

-- Two that send on it agree if their frames are equal, and else know that they clashed.
module _ (x y : ℕ) (h : x < 256) (k : y < 256) (u v w : ℕ) (p : u < 256) (q : v < 256) (r : w < 256) (by other-by : Start) where
  abbrev one : Sender
  one = sends_24 0 by u v w

  abbrev short : Sender
  short = sends_16 2 other-by x y

  abbrev long : Sender
  long = sends_24 2 other-by u v w

  one_on_old : IsSender old_line one
  one_on_old = is_24 old_line 0 by u v w (omega (arith, old_four)) p q r

  old_pair : (other : Sender) → other.number ≡ 2 → IsSender old_line other → (other.bits ≡ 16) ⊎ (other.bits ≡ 24) → Pair old_line one other
  old_pair other at-2 is wide = record {
    one = one_on_old;
    other = is;
    one_watches = record { long = inr refl; policy = inr zero_watches };
    other_watches = record { long = wide; policy = inl (ap (λ n. (station_at old_line n).core.collision_policy) at-2 ∙ two_watches) };
    apart = λ e. let none : ⊥ = omega (arith, e, at-2) in none;
  }

  long_pair : Pair old_line one long
  long_pair = old_pair long refl (is_24 old_line 2 other-by u v w (omega (arith, old_four)) p q r) (inr refl)

  pub old_line_agrees : Agreed old_line one long
  old_line_agrees = equal_frames old_line old_reached old_idle one long long_pair refl

  short_pair : Pair old_line one short
  short_pair = old_pair short refl (is_16 old_line 2 other-by x y (omega (arith, old_four)) h k) (inl refl)

  pub old_line_starts : ((started_on old_line one).answer ≡ result.Ok (result.Ok tt)) × ((started_on (started_on old_line one).line short).answer ≡ result.Ok (result.Ok tt))
  old_line_starts = both_started old_line old_reached old_idle one short short_pair

  other_frames : frame_in one ≡ frame_in short → ⊥
  unfolding bytes_in bytes_of frame_of pick
  other_frames e = let none : ⊥ = omega (arith, ap bytes_in e) in none

  pub old_line_clashes : (j : ℕ) × (Clashed (both_on old_line one short) one short j ⊎ Clashed (both_on old_line one short) short one j)
  old_line_clashes = different_frames old_line old_reached old_idle one short short_pair other_frames

  -- and so each breaks at its tick
  pub place : (j : ℕ) × FirstDifference (buffer_in one) (buffer_in short) j
  place = first_difference old_line old_reached old_idle one short short_pair other_frames

  pub old_line_breaks : let j = place.0 in
      Breaks (both_on old_line one short) 0 (clash_at (buffer_in one) j) (pulls_in (buffer_in one) j)
      × Breaks (both_on old_line one short) 2 (clash_at (buffer_in short) j) (pulls_in (buffer_in short) j)
  old_line_breaks = clash_ticks old_line old_reached old_idle one short short_pair place.0 place.1

  -- ---- calls in another order, and a tick between
  -- the frame's other sender and a listener are asked before, and a policy is set
  abbrev before : List LineCall
  before = take_rx 1 ∷ policy 3 Off ∷ poll 2 ∷ tick ∷ take_idle 2 ∷ []

  before_starts_nothing : StartNothing before
  unfolding Each starts_nothing
  before_starts_nothing = (refl, (refl, (refl, (refl, (refl, tt)))))

  leaves_poll : Without (poll 0) before
  unfolding Each
  leaves_poll = (λ e. distinct (cc), (λ e. distinct (cc), (λ e. distinct (cc), (λ e. distinct (cc), (λ e. distinct (cc), tt)))))

  leaves_take : Without (take_rx 3) before × Without (acknowledge 3) before
  unfolding Each
  leaves_take = (
    (λ e. distinct (cc), (λ e. distinct (cc), (λ e. distinct (cc), (λ e. distinct (cc), (λ e. distinct (cc), tt))))),
    (λ e. distinct (cc), (λ e. distinct (cc), (λ e. distinct (cc), (λ e. distinct (cc), (λ e. distinct (cc), tt))))),
  )

  pub zero_still_knows : Polls Collision 0 (line_after_all before (ticks_on 230 (both_on old_line one short)))
  zero_still_knows =
      let (zero-keeps, two-keeps) = different_frames_in_any_order old_line old_reached old_idle one short short_pair place.0 place.1 230 (omega arith) in
      zero-keeps.knows before before_starts_nothing leaves_poll

  pub three_still_holds : HoldsFrame (frame_in one) 3 (line_after_all before (ticks_on 300 (both_on old_line one long)))
  three_still_holds =
      let (zero_ok, two_ok, listeners) = equal_frames_in_any_order old_line old_reached old_idle one long long_pair refl 300 (omega arith) in
      listeners 3 (omega (arith, old_four)) (λ e. let none : ⊥ = omega (arith, e) in none) (λ e. let none : ⊥ = omega (arith, e) in none)
      before before_starts_nothing leaves_take.0 leaves_take.1

  pub three_holds_from_one : HoldsFrame (frame_in one) 3 (line_after_all before (ticks_on 230 (started_on old_line one).line))
  three_holds_from_one =
      (lone_sender_in_any_order old_line old_reached old_idle one one_on_old 230 (omega arith)).1 3 (omega (arith, old_four)) (λ e. let none : ⊥ = omega (arith, e) in none)
      before before_starts_nothing leaves_take.0 leaves_take.1

  -- ---- what gateways do: each polls and takes, and after a tick more the winner starts again
  abbrev asked : List LineCall
  asked = poll 0 ∷ poll 2 ∷ take_idle 0 ∷ take_idle 2 ∷ tick ∷ []

  asked_starts_nothing : StartNothing asked
  unfolding Each starts_nothing
  asked_starts_nothing = (refl, (refl, (refl, (refl, (refl, tt)))))

  asked_ticks : 231 ≤ 230 + ticks_in asked
  unfolding ticks_in is_tick pick
  asked_ticks = omega arith

  pub old_line_retries : let now = line_after_all asked (ticks_on 230 (both_on old_line one short)) in CanRetry now one short ⊎ CanRetry now short one
  old_line_retries =
      let (j, who) = retry old_line old_reached old_idle one short short_pair other_frames in
      ⊎_elim (λ r. inl (r.can_retry 230 (omega arith) asked asked_starts_nothing asked_ticks)) (λ r. inr (r.can_retry 230 (omega arith) asked asked_starts_nothing asked_ticks)) who
