-- A start on a line, and what a station of a line then tells. Assumes nothing.
use Rattle.std.specs.Prelude.{⊤, Result, Option, Some, None, is_some}
use Prim.Native.Nat.{ℕ, ◌<◌, ◌≤◌}
use native.Mathlib.Omega.{arith}
use mathlib.Core.Bool.{Bool, true, false≢true}
use mathlib.Core.List.{List}
use mathlib.Core.Path.{◌≡◌, refl, ◌∙◌, ap}
use lib.ListN.{length}
use lib.Seq.{get_or-set_same, get_or-set_other}
use borrow.Author.Tests.{lt-ltb}
use Rattle.laws.proofs.Picked.{on_true}
use Rattle.halfbits.specs.declared.HalfBitBuffer.{HalfBitBuffer}
use Rattle.halfbits.specs.Frame.{Frame, frame_bits}
use Rattle.halfbits.specs.HalfBits.{buffer_of}
use Rattle.halfbits.specs.Wave.{high}
use Rattle.halfbits.specs.Encoding.{encoded_of}
use Rattle.halfbits.proofs.Encodes.{few, as_many}
use Rattle.event.specs.declared.RxCompletedEvent.{RxCompletedEvent}
use Rattle.fsm.specs.declared.DaliBitbangPhy.{DaliBitbangPhy}
use Rattle.std.specs.declared.result.Result.TheVariants as result
use Rattle.fsm.specs.declared.TxPollResult.{TxPollResult}
use Rattle.fsm.specs.Station.{new_station}
use Rattle.fsm.specs.Polling.{polled}
use Rattle.fsm.specs.Calls.{took_idle}
use Rattle.fsm.specs.declared.StartError.{StartError}
use Rattle.bench_line.specs.declared.BenchLine.{BenchLine}
use Rattle.bench_line.specs.declared.LineAnswered.{LineAnswered}
use Rattle.bench_line.specs.Line.{stations_on, is_on, station_at, with_station}
use Rattle.bench_line.specs.Calls.{answered_at}
use Rattle.station_theorems.specs.Ticks.{IsIdle}
use Rattle.frames.specs.Sends.{handed_out, Start, by_start_tx, by_start_answer, started_by, FitsBuffer}
use Rattle.frames.specs.ReadAs.{event_in, IsReady, taken, ReadAs}
use Rattle.frames.proofs.SendingTicks as sending
use Rattle.frames.proofs.Sending.{begins}
use Rattle.line_theorems.specs.Reached.{line_after, ReachedLine, called}
use Rattle.line_theorems.specs.Reached as call
use Rattle.line_theorems.specs.OnLine.{Sender, frame_in, buffer_in, IsSender, started_on, HoldsFrame, Polls, FindsIdle}
use Rattle.line_theorems.proofs.Lines.{line_invariants}

-- ---- what a station of the line tells
handed_on : (answer : Option RxCompletedEvent) → is_some answer ≡ true → answer ≡ Some (event_in answer)
handed_on None h = absurd (false≢true h)
handed_on (Some event) h = refl

module _ (l : BenchLine) (n : ℕ) (on : n < stations_on l) where
  is_on_lem : is_on l n ≡ true
  is_on_lem = lt-ltb n (stations_on l) on

  pub tells_frame : (frame : Frame) → IsReady (station_at l n) → ReadAs frame (taken (station_at l n)) → HoldsFrame frame n l
  unfolding answered_at
  tells_frame frame ready read = (taken (station_at l n), rw (on_true is_on_lem) (ap result.Ok (handed_on _ ready)), read)

  pub tells_poll : (answer : TxPollResult) → (polled (station_at l n)).answer ≡ answer → Polls answer n l
  unfolding answered_at
  tells_poll answer e = simp (on_true is_on_lem) (ap result.Ok e)

  pub tells_idle : (found : Bool) → (station_at l n).core.told.tx_idle_after_break ≡ found → FindsIdle found n l
  unfolding answered_at took_idle
  tells_idle found e = simp (on_true is_on_lem) (ap result.Ok e)

-- ---- a start
-- the bits that it sends
abbrev pub bits_in : Sender → List Bool
bits_in a = frame_bits (frame_in a)

module _ (l : BenchLine) (a : Sender) (is : IsSender l a) where
  pub many_bits : length (bits_in a) ≡ a.bits
  many_bits = as_many a.first a.second a.third a.bits is.counts

  pub few_bits : length (bits_in a) ≤ 24
  few_bits = omega (arith, many_bits, few a.bits is.counts)

  pub fits : FitsBuffer (bits_in a)
  fits = omega (arith, few_bits)

  pub buffer_is : buffer_in a ≡ buffer_of (bits_in a)
  unfolding encoded_of
  buffer_is = ap handed_out (on_true is.counts _ _)

  abbrev before : DaliBitbangPhy
  before = station_at l a.number

  abbrev after : DaliBitbangPhy
  after = (started_by a.by before (buffer_in a)).station

  line_is : started_on l a ≡ record { line = with_station l a.number after; answer = result.Ok (started_by a.by before (buffer_in a)).answer }
  unfolding answered_at
  line_is = on_true (is_on_lem l a.number is.on) _ _

  pub same_stations : stations_on (started_on l a).line ≡ stations_on l
  same_stations = rw line_is

  pub reached_on : ReachedLine l → ReachedLine (started_on l a).line
  unfolding started_by line_after
  reached_on reached = go a.by
    where
      go : (by : Start) → ReachedLine (answered_at l a.number (started_by by before (buffer_in a))).line
      go by_start_tx = called (call.start_tx a.number (buffer_in a)) reached
      go by_start_answer = called (call.start_answer a.number (buffer_in a)) reached

  pub at_other : (n : ℕ) → (n ≡ a.number → ⊥) → station_at (started_on l a).line n ≡ station_at l n
  at_other n apart = rw line_is (get_or-set_other l.stations a.number n after new_station apart)

  module _ (reached : ReachedLine l) (idle : IsIdle before) where
    at_sender : station_at (started_on l a).line a.number ≡ after
    at_sender = rw line_is (get_or-set_same l.stations a.number after new_station (omega (arith, (line_invariants l reached).places, is.on)))

    began : let started = started_by a.by before (buffer_of (bits_in a)) in
        (started.answer ≡ result.Ok tt) × sending.Sender (bits_in a) before.core.collision_policy 3 0 0 high started.station
    began = begins (bits_in a) fits before ((line_invariants l reached).reached a.number is.on) idle a.by

    pub answers : (started_on l a).answer ≡ result.Ok (result.Ok tt)
    answers = ap (λ (r : LineAnswered (Result ⊤ StartError)). r.answer) line_is ∙ ap result.Ok (ap (λ (hb : HalfBitBuffer). (started_by a.by before hb).answer) buffer_is ∙ began.0)

    -- It is ready to send, under the policy that it had.
    pub ready : sending.Sender (bits_in a) before.core.collision_policy 3 0 0 high (station_at (started_on l a).line a.number)
    ready = rw (at_sender ∙ ap (λ (hb : HalfBitBuffer). (started_by a.by before hb).station) buffer_is) began.1
