-- What stations have to tell, and how long they keep it: through ticks, and through calls that start nothing. Assumes nothing.
use Rattle.std.specs.Prelude.{is_some}
use Prim.Native.Nat.{ℕ}
use mathlib.Core.Bool.{Bool, true, false, false≢true, not}
use mathlib.Core.List.{List}
use mathlib.Core.Path.{◌≡◌, refl, sym, ◌∙◌, ap, subst}
use lib.Dec.{eqb}
use borrow.Author.Tests.{eqb-true}
use Rattle.laws.specs.Pick.{pick}
use Rattle.laws.proofs.Picked.{cases}
use Rattle.halfbits.specs.Frame.{Frame}
use Rattle.laws.proofs.Joined.{is}
use Rattle.machine.specs.declared.BusState.{BusState}
use Rattle.machine.specs.declared.BusState.TheVariants as bus
use Rattle.machine.specs.declared.Bus.{Bus}
use Rattle.machine.specs.declared.Told.{Told}
use Rattle.machine.specs.Runs.{runs_counted}
use Rattle.machine.specs.Idle.{idle_tick, silent, fell}
use Rattle.fsm.specs.Station.{last_event}
use Rattle.fsm.specs.declared.DaliBitbangPhy.{DaliBitbangPhy}
use Rattle.fsm.specs.declared.Answered.{Answered}
use Rattle.fsm.specs.declared.TxPollResult.{TxPollResult}
use Rattle.fsm.specs.declared.TxPollResult.TheVariants.{Ok, Collision}
use Rattle.machine.specs.States.{hears, is_tx}
use Rattle.fsm.specs.Ticking.{tick_in, tick_of}
use Rattle.fsm.specs.Polling.{polled}
use Rattle.fsm.specs.Calls.{took_idle, took_rx}
use Rattle.bench_line.specs.declared.BenchLine.{BenchLine}
use Rattle.bench_line.specs.Line.{station_at}
use Rattle.station_theorems.specs.Calls as station
use Rattle.station_theorems.specs.Calls.{Call, after, is_between}
use Rattle.station_theorems.specs.Ticks.{IsIdle}
use Rattle.frames.specs.ReadAs.{event_in, IsReady, taken, ReadAs}
use Rattle.line_theorems.specs.Reached.{LineCall, poll, take_idle, take_rx, acknowledge, line_after, called, line_after_all, starts_nothing, StartNothing, Without}
use Rattle.line_theorems.specs.OnLine.{AllIdle, Polls, FindsIdle, HoldsFrame}
use Rattle.line_theorems.specs.AnyOrder.{KeepsFrame, KeepsOk, KeepsClash}
use Rattle.line_theorems.proofs.Hearing.{Listens, tick_keeps}
use Rattle.line_theorems.proofs.Asking.{distinct, kept, line_call, stays, polled_here, taken_here, all_keep, each_both, Any, each_any, On, still_on, on_keeps, settling, stays_high, idle_next}
use Rattle.line_theorems.proofs.Starting.{tells_frame, tells_poll, tells_idle}

abbrev Hears : DaliBitbangPhy → Type 0
Hears s = hears s.core.bus.bus_state ≡ true

not_sending : (state : BusState) → hears state ≡ true → is_tx state ≡ false
unfolding hears is_tx
not_sending bus.Idle e = refl
not_sending bus.Rx e = refl
not_sending bus.Tx e = absurd (false≢true e)
not_sending bus.CollisionTx e = refl

-- ---- a clash, or none
-- A station that hears, and did not yield.
pub record Unyielded (s : DaliBitbangPhy) : Type 0 where
  pub hearing : hears s.core.bus.bus_state ≡ true
  pub yields : s.core.told.tx_yielded ≡ false

-- so many clashes to tell
pub record Clashes (many : ℕ) (s : DaliBitbangPhy) : Type 0 where
  pub unyielded : Unyielded s
  pub collisions : s.core.told.tx_collision ≡ many

-- what the break found
pub record Marked (found : Bool) (s : DaliBitbangPhy) : Type 0 where
  pub hearing : hears s.core.bus.bus_state ≡ true
  pub marked : s.core.told.tx_idle_after_break ≡ found

module _ (s : DaliBitbangPhy) where
  module _ (level : Bool) where
    unyielded_ticks : Unyielded s → Unyielded (tick_of s level)
    unyielded_ticks h = let k = tick_keeps s level h.hearing in record { hearing = k.hearing; yields = ap (λ (told : Told). told.tx_yielded) k.told ∙ h.yields }

    clashes_tick : {many : ℕ} → Clashes many s → Clashes many (tick_of s level)
    clashes_tick h = record {
      unyielded = unyielded_ticks h.unyielded;
      collisions = ap (λ (told : Told). told.tx_collision) (tick_keeps s level h.unyielded.hearing).told ∙ h.collisions;
    }

    marked_ticks : {found : Bool} → Marked found s → Marked found (tick_of s level)
    marked_ticks h =
        let k = tick_keeps s level h.hearing in
        record { hearing = k.hearing; marked = ap (λ (told : Told). told.tx_idle_after_break) k.told ∙ h.marked }

  module _ (k : Call) (between : is_between k ≡ true) where
    hearing_stays : hears s.core.bus.bus_state ≡ true → hears (after k s).core.bus.bus_state ≡ true
    hearing_stays h = ap (λ (b : Bus). hears b.bus_state) (kept s k between).bus ∙ h

    clashes_stay : {many : ℕ} → (k ≡ station.poll → ⊥) → Clashes many s → Clashes many (after k s)
    clashes_stay other h = record {
      unyielded = record { hearing = hearing_stays h.unyielded.hearing; yields = (kept s k between).yields other ∙ h.unyielded.yields };
      collisions = (kept s k between).collisions other ∙ h.collisions;
    }

    marked_stays : {found : Bool} → (k ≡ station.take_idle → ⊥) → Marked found s → Marked found (after k s)
    marked_stays other h = record { hearing = hearing_stays h.hearing; marked = (kept s k between).marked other ∙ h.marked }

  -- A poll tells it.
  says_collision : Clashes 1 s → (polled s).answer ≡ Collision
  unfolding polled pick
  says_collision h = rw (h.unyielded.yields, h.collisions)

  says_ok : Clashes 0 s → (polled s).answer ≡ Ok
  unfolding polled pick
  says_ok h = rw (h.unyielded.yields, h.collisions, not_sending s.core.bus.bus_state h.unyielded.hearing)

  -- and clears it
  clears : Unyielded s → Clashes 0 (polled s).station
  unfolding polled
  clears h =
      let P : Answered TxPollResult → Type 0 = λ (x : Answered TxPollResult). Clashes 0 x.station in
      cases P s.core.told.tx_yielded (λ e. absurd (false≢true (sym h.yields ∙ e)))
      (λ _. cases P (not (eqb s.core.told.tx_collision 0))
      (λ _. record { unyielded = record { hearing = h.hearing; yields = h.yields }; collisions = refl })
      (λ e.
      let none : Clashes 0 s = record { unyielded = h; collisions = eqb-true s.core.told.tx_collision 0 (is _ e) } in
      cases P (is_tx s.core.bus.bus_state) (λ _. none) (λ _. none)))

  -- A frame that was sent leaves nothing to tell.
  pub nothing_to_tell : IsIdle s → (polled s).answer ≡ Ok → Clashes 0 s
  unfolding polled hears
  nothing_to_tell idle =
      let P : Answered TxPollResult → Type 0 = λ (x : Answered TxPollResult). x.answer ≡ Ok → Clashes 0 s in
      cases P s.core.told.tx_yielded (λ _ e. absurd (distinct (cc)))
      (λ y. cases P (not (eqb s.core.told.tx_collision 0)) (λ _ e. absurd (distinct (cc)))
      (λ c _. record { unyielded = record { hearing = ap hears idle; yields = y }; collisions = eqb-true s.core.told.tx_collision 0 (is _ c) }))

-- ---- whatever the station is asked
is_poll : (k : Call) → Dec (k ≡ station.poll)
is_poll (station.tick high) = no (λ e. distinct (cc))
is_poll (station.start_tx hb) = no (λ e. distinct (cc))
is_poll (station.start_answer hb) = no (λ e. distinct (cc))
is_poll station.poll = yes refl
is_poll station.take_idle = no (λ e. distinct (cc))
is_poll station.take_rx = no (λ e. distinct (cc))
is_poll station.acknowledge = no (λ e. distinct (cc))
is_poll (station.policy p) = no (λ e. distinct (cc))

is_take : (k : Call) → Dec (k ≡ station.take_idle)
is_take (station.tick high) = no (λ e. distinct (cc))
is_take (station.start_tx hb) = no (λ e. distinct (cc))
is_take (station.start_answer hb) = no (λ e. distinct (cc))
is_take station.poll = no (λ e. distinct (cc))
is_take station.take_idle = yes refl
is_take station.take_rx = no (λ e. distinct (cc))
is_take station.acknowledge = no (λ e. distinct (cc))
is_take (station.policy p) = no (λ e. distinct (cc))

module _ (s : DaliBitbangPhy) (k : Call) (between : is_between k ≡ true) where
  unyielded_stays : Unyielded s → Unyielded (after k s)
  unfolding after
  unyielded_stays h = go (is_poll k)
    where
      go : Dec (k ≡ station.poll) → Unyielded (after k s)
      go (yes e) = rw e (clears s h).unyielded
      go (no other) = record { hearing = hearing_stays s k between h.hearing; yields = (kept s k between).yields other ∙ h.yields }

  none_stays : Clashes 0 s → Clashes 0 (after k s)
  unfolding after
  none_stays h = go (is_poll k)
    where
      go : Dec (k ≡ station.poll) → Clashes 0 (after k s)
      go (yes e) = rw e (clears s h.unyielded)
      go (no other) = clashes_stay s k between other h

  unmarked_stays : Marked false s → Marked false (after k s)
  unfolding after took_idle
  unmarked_stays h = go (is_take k)
    where
      go : Dec (k ≡ station.take_idle) → Marked false (after k s)
      go (yes e) = rw e (record { hearing = h.hearing; marked = refl })
      go (no other) = marked_stays s k between other h

-- ---- on a line
-- the call of a station that is not this one is not this one on the line either
not_own : (n : ℕ) (k this : Call) → (line_call n k ≡ line_call n this → ⊥) → k ≡ this → ⊥
not_own n k this apart e = apart (ap (line_call n) e)

module _ (n : ℕ) where
  pub keeps_ok : (l : BenchLine) → On n (Clashes 0) l → KeepsOk n l
  keeps_ok l o calls nothing =
      let after = on_keeps n (Clashes 0) Any (λ s level h. clashes_tick s level h) (λ s k between _ h. none_stays s k between h) calls nothing (each_any calls) l o in
      tells_poll _ n after.on Ok (says_ok _ after.is)

  -- a station that has broken off its frame
  module _ (found : Bool) (l : BenchLine) (o : On n (Listens 1 found false) l) where
    clashes_on : On n (Clashes 1) l
    clashes_on = record {
      reached = o.reached;
      on = o.on;
      is = record { unyielded = record { hearing = o.is.hearing; yields = o.is.yields }; collisions = o.is.collisions };
    }

    unyielded_on : On n Unyielded l
    unyielded_on = record { reached = o.reached; on = o.on; is = clashes_on.is.unyielded }

    marked_on : On n (Marked found) l
    marked_on = record { reached = o.reached; on = o.on; is = record { hearing = o.is.hearing; marked = o.is.marked } }

    hears_on : On n Hears l
    hears_on = record { reached = o.reached; on = o.on; is = o.is.hearing }

    module _ (calls : List LineCall) (nothing : StartNothing calls) where
      knows : Without (poll n) calls → Polls Collision n (line_after_all calls l)
      knows without =
          let after = on_keeps n (Clashes 1) (λ c. c ≡ poll n → ⊥) (λ s level h. clashes_tick s level h)
          (λ s k between apart h. clashes_stay s k between (not_own n k station.poll apart) h) calls nothing without l clashes_on in
          tells_poll _ n after.on Collision (says_collision _ after.is)

      knows_once : KeepsOk n (line_after (poll n) (line_after_all calls l))
      knows_once =
          let m = line_after_all calls l in
          let before = on_keeps n Unyielded Any unyielded_ticks (λ s k between _ h. unyielded_stays s k between h) calls nothing (each_any calls) l unyielded_on in
          keeps_ok (line_after (poll n) m)
          (record {
            reached = called (poll n) before.reached;
            on = still_on m (poll n) n before.on;
            is = rw (polled_here m before.reached n before.on) (clears _ before.is);
          })

      finds : Without (take_idle n) calls → FindsIdle found n (line_after_all calls l)
      finds without =
          let after = on_keeps n (Marked found) (λ c. c ≡ take_idle n → ⊥) (λ s level h. marked_ticks s level h)
          (λ s k between apart h. marked_stays s k between (not_own n k station.take_idle apart) h) calls nothing without l marked_on in
          tells_idle _ n after.on found after.is.marked

      finds_once : (more : List LineCall) → StartNothing more → FindsIdle false n (line_after_all more (line_after (take_idle n) (line_after_all calls l)))
      unfolding took_idle
      finds_once more nothing_more =
          let m = line_after_all calls l in
          let before = on_keeps n Hears Any (λ s level h. (tick_keeps s level h).hearing) (λ s k between _ h. hearing_stays s k between h) calls nothing (each_any calls) l hears_on in
          let after = on_keeps n (Marked false) Any (λ s level h. marked_ticks s level h) (λ s k between _ h. unmarked_stays s k between h) more nothing_more (each_any more) (line_after (take_idle n) m)
          (record {
            reached = called (take_idle n) before.reached;
            on = still_on m (take_idle n) n before.on;
            is = rw (taken_here m before.reached n before.on) (record { hearing = before.is; marked = refl });
          }) in
          tells_idle _ n after.on false after.is.marked

    pub keeps_clash : KeepsClash found n l
    keeps_clash = record { knows = knows; knows_once = knows_once; finds = finds; finds_once = finds_once }

-- ---- an event that is ready, and read as a frame
pub record Event (frame : Frame) (s : DaliBitbangPhy) : Type 0 where
  pub ready : IsReady s
  pub read : ReadAs frame (taken s)

module _ {frame : Frame} (s : DaliBitbangPhy) where
  -- its mark and its bytes are all that counts
  same_event : (s' : DaliBitbangPhy) → s'.core.told.rx_state ≡ s.core.told.rx_state → last_event s' ≡ last_event s → Event frame s → Event frame s'
  unfolding took_rx
  same_event s' mark last h =
      let same : (took_rx s').answer ≡ (took_rx s).answer = rw (mark, last) refl in
      record { ready = ap is_some same ∙ h.ready; read = subst (λ answer. ReadAs frame (event_in answer)) (sym same) h.read }

  event_ticks : IsIdle s → Event frame s → Event frame (tick_of s true)
  unfolding tick_of tick_in idle_tick silent fell runs_counted pick
  event_ticks idle h = same_event (tick_of s true) (rw idle refl) (rw idle refl) h

  event_stays : (k : Call) → is_between k ≡ true → (k ≡ station.take_rx → ⊥) → (k ≡ station.acknowledge → ⊥) → Event frame s → Event frame (after k s)
  event_stays k between not_taken not_acknowledged h =
      same_event (after k s) ((kept s k between).event not_taken not_acknowledged) (kept s k between).last h

module _ (frame : Frame) (n : ℕ) where
  record Holding (l : BenchLine) : Type 0 where
    here : On n (Event frame) l
    idle : AllIdle l

  abbrev Leaves : LineCall → Type 0
  Leaves c = (c ≡ take_rx n → ⊥) × (c ≡ acknowledge n → ⊥)

  next : (l : BenchLine) (c : LineCall) → starts_nothing c ≡ true → Leaves c → Holding l → Holding (line_after c l)
  next l c none (not_taken, not_acknowledged) h =
      let o = h.here in
      record {
        here = record {
          reached = called c o.reached;
          on = still_on l c n o.on;
          is = stays l o.reached n o.on (Event frame) o.is c none
              (λ _. rw (stays_high 0 l (settling l o.reached h.idle)) (event_ticks (station_at l n) (h.idle n o.on) o.is))
              (λ k between e. event_stays (station_at l n) k between (λ same. not_taken (e ∙ ap (line_call n) same)) (λ same. not_acknowledged (e ∙ ap (line_call n) same)) o.is);
        };
        idle = idle_next l o.reached h.idle c none;
      }

  pub keeps_frame : (l : BenchLine) → AllIdle l → On n (Event frame) l → KeepsFrame frame n l
  keeps_frame l idle o calls nothing not_taken not_acknowledged =
      let after = (all_keep Holding Leaves next calls nothing (each_both _ _ calls not_taken not_acknowledged) l (record { here = o; idle = idle })).here in
      tells_frame _ n after.on frame after.is.ready after.is.read

-- with no call before
pub says_sent : (n : ℕ) (l : BenchLine) → On n (Clashes 0) l → Polls Ok n l
says_sent n l o = tells_poll l n o.on Ok (says_ok _ o.is)

pub holds_event : (frame : Frame) (n : ℕ) (l : BenchLine) → On n (Event frame) l → HoldsFrame frame n l
holds_event frame n l o = tells_frame l n o.on frame o.is.ready o.is.read
