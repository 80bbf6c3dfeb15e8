-- What every call keeps of a station. Assumes nothing.
use Rattle.std.specs.Prelude.{Result, ⊤}
use Prim.Native.Nat.{ℕ, ◌+◌, ◌%◌, ◌≤◌, min}
use native.Mathlib.Omega.{arith}
use mathlib.Core.Bool.{Bool, true, false, not, false≢true}
use mathlib.Core.Path.{◌≡◌, refl, sym, ap, subst, ◌∙◌}
use lib.Dec.{eqb, ltb, leb}
use borrow.Author.Tests.{leb-true}
use Rattle.laws.specs.Pick.{pick}
use Rattle.laws.proofs.Joined.{parts}
use Rattle.laws.proofs.Picked.{on_true, on_false, cases}
use Rattle.halfbits.specs.declared.HalfBitBuffer.{HalfBitBuffer}
use Rattle.machine.specs.declared.BusState.{BusState}
use Rattle.machine.specs.declared.BusState.TheVariants as bus
use Rattle.machine.specs.declared.RxState.{RxState}
use Rattle.machine.specs.declared.RxState.TheVariants.{Empty, Receiving, Completed}
use Rattle.machine.specs.declared.Rx.{Rx}
use Rattle.machine.specs.declared.Core.{Core}
use Rattle.machine.specs.Fields.{with_rx}
use Rattle.machine.specs.Runs.{runs_counted}
use Rattle.machine.specs.BecomingIdle.{idled}
use Rattle.fsm.specs.Rx.{sampled, goes_on, finished, notified, rx_tick, went_on}
use Rattle.machine.specs.Idle.{idle_tick, entered, silent, fell}
use Rattle.machine.specs.Sending.{Step, Arm, Yield, End, Clash, Hold, Drive, tx_hb_of, armed, yielded, clashed, held, driven, after_step, tx_tick}
use Rattle.machine.specs.Collision.{broke, collision_tick}
use Rattle.machine.specs.Starting.{loaded}
use Rattle.fsm.specs.declared.DaliBitbangPhy.{DaliBitbangPhy}
use Rattle.fsm.specs.declared.Answered.{Answered}
use Rattle.fsm.specs.declared.StartError.{StartError}
use Rattle.std.specs.declared.result.Result.TheVariants.{Err}
use Rattle.fsm.specs.declared.StartError.TheVariants.{Busy}
use Rattle.fsm.specs.declared.TxPollResult.{TxPollResult}
use Rattle.fsm.specs.Station.{last_count, new_core, new_station, with_core}
use Rattle.fsm.specs.Ticking.{tick_in, tick_of}
use Rattle.machine.specs.States.{is_idle, hears, is_tx, is_completed}
use Rattle.fsm.specs.Starting.{length_fits, started_with, loaded_with, started, start_tx_of, start_answer_of}
use Rattle.fsm.specs.Polling.{polled}
use Rattle.fsm.specs.Calls.{with_policy, took_idle, has_event, acknowledged, took_rx}
use Rattle.station_theorems.specs.Calls.{Call, tick, start_tx, start_answer, poll, take_idle, take_rx, acknowledge, policy, after, Reached, new, called}
use Rattle.station_theorems.specs.Invariants.{is_receiving}
use Rattle.station_theorems.proofs.Cores.{Good, In, InOf, in_state}
use Rattle.station_theorems.proofs.CoreTicks.{rx_core, core_after, act_good, whole}
use Rattle.station_theorems.proofs.CoreCalls.{loaded_good, telling_good, taken_good}

pub record Whole (s : DaliBitbangPhy) : Type 0 where
  pub core : Good s.core
  pub loads : s.tx_hb.tx_hb_len ≤ 54
  pub counts : s.core.told.rx_state ≡ Completed → (3 ≤ last_count s) × (last_count s ≤ 64)

-- only the core changes, and no capture becomes ready
with_core_lem : (s : DaliBitbangPhy) (c : Core) → Whole s → Good c → (c.told.rx_state ≡ Completed → s.core.told.rx_state ≡ Completed) → Whole (with_core s c)
with_core_lem s c w g marks = record { core = g; loads = w.loads; counts = λ e. w.counts (marks e) }

-- ---- the mark of a capture: no tick but the last of Rx sets Completed
not_receiving : Receiving ≡ Completed → ⊥
unfolding is_receiving
not_receiving e = false≢true (sym (ap is_receiving e))

not_empty : Empty ≡ Completed → ⊥
unfolding is_completed
not_empty e = false≢true (ap is_completed e)

ready : (mark : RxState) → is_completed mark ≡ true → mark ≡ Completed
unfolding is_completed
ready Empty e = absurd (false≢true e)
ready Receiving e = absurd (false≢true e)
ready Completed e = refl

idle_mark : (c : Core) (high : Bool) → (idle_tick c high).told.rx_state ≡ Completed → c.told.rx_state ≡ Completed
unfolding idle_tick silent fell entered
idle_mark c high =
    let P : Core → Type 0 = λ (d : Core). d.told.rx_state ≡ Completed → c.told.rx_state ≡ Completed in
    cases P high (λ _ e. e) (λ _. cases P (ltb (min (c.bus.rx_debounce + 1) 255) 2) (λ _ e. e) (λ _ e. absurd (not_receiving e)))

step_mark : (x : Step) (c : Core) → (after_step x c).told.rx_state ≡ c.told.rx_state
unfolding after_step armed yielded clashed held driven idled idle_tick silent fell pick
step_mark Arm c = refl
step_mark Yield c = refl
step_mark End c = refl
step_mark Clash c = refl
step_mark Hold c = refl
step_mark (Drive high) c = refl

break_mark : (c : Core) (high : Bool) → (collision_tick c high).told.rx_state ≡ c.told.rx_state
unfolding collision_tick broke idled idle_tick silent fell pick
break_mark c high =
    let P : Core → Type 0 = λ (d : Core). d.told.rx_state ≡ c.told.rx_state in
    cases P (leb 14 ((c.tx.tx_sp_cnt + 1) % 256)) (λ _. cases P high (λ _. refl) (λ _. refl)) (λ _. refl)

-- ---- a tick
module _ (s : DaliBitbangPhy) (w : Whole s) (high : Bool) where
  rx_whole : s.core.bus.bus_state ≡ bus.Rx → Whole (rx_tick s (runs_counted s.core high) high)
  unfolding rx_tick went_on notified finished idled runs_counted In core_after
  rx_whole e =
      let c : Core = runs_counted s.core high in
      let r : Rx = sampled s.core.rx high in
      let g : Good (rx_core c high) = act_good bus.Rx s.core s.tx_hb high e w.core in
      let i : InOf bus.Rx s.core = in_state s.core w.core e in
      cases Whole (goes_on r)
      (λ few. record { core = subst Good (on_true few (with_rx c r) (finished c r)) g; loads = w.loads; counts = w.counts })
      (λ done. record { core = subst Good (on_false done (with_rx c r) (finished c r)) g; loads = w.loads; counts = λ _. whole s.core w.core.any i e high done })

  act_whole : (b : BusState) → s.core.bus.bus_state ≡ b → Whole (tick_in b s (runs_counted s.core high) high)
  unfolding tick_in core_after tx_tick runs_counted
  act_whole bus.Idle e = with_core_lem s _ w (act_good bus.Idle s.core s.tx_hb high e w.core) (idle_mark (runs_counted s.core high) high)
  act_whole bus.Rx e = rx_whole e
  act_whole bus.Tx e = with_core_lem s _ w (act_good bus.Tx s.core s.tx_hb high e w.core) (λ m. sym (step_mark _ (runs_counted s.core high)) ∙ m)
  act_whole bus.CollisionTx e = with_core_lem s _ w (act_good bus.CollisionTx s.core s.tx_hb high e w.core) (λ m. sym (break_mark (runs_counted s.core high) high) ∙ m)

  tick_whole : Whole (tick_of s high)
  unfolding tick_of
  tick_whole = act_whole s.core.bus.bus_state refl

-- ---- the other calls
pub fits : (n : ℕ) → length_fits n ≡ true → n ≤ 54
unfolding length_fits
fits n e = leb-true n 54 (parts (not (eqb n 0)) (leb n 54) e).1

module _ (s : DaliBitbangPhy) (w : Whole s) where
  start_whole : (allowed : Bool) (hb : HalfBitBuffer) (answer : Bool) → Whole (pick {A = Answered (Result ⊤ StartError)} allowed (started s hb answer) (started_with s (Err Busy))).station
  unfolding started loaded_with loaded tx_hb_of
  start_whole allowed hb answer =
      let P : Answered (Result ⊤ StartError) → Type 0 = λ (x : Answered (Result ⊤ StartError)). Whole x.station in
      cases P allowed
      (λ _. cases P (length_fits hb.length)
      (λ ok. record { core = loaded_good s.core answer w.core.any; loads = fits hb.length ok; counts = λ e. absurd (not_empty e) })
      (λ _. w))
      (λ _. w)

  poll_whole : Whole (polled s).station
  unfolding polled
  poll_whole =
      let P : Answered TxPollResult → Type 0 = λ (x : Answered TxPollResult). Whole x.station in
      cases P s.core.told.tx_yielded
      (λ _. with_core_lem s _ w (telling_good s.core w.core _ _ _ (omega arith) (λ m. m) (λ e. absurd (false≢true e))) (λ m. m))
      (λ _. cases P (not (eqb s.core.told.tx_collision 0))
      (λ _. with_core_lem s _ w (telling_good s.core w.core _ _ _ (omega arith) (λ m. m) (λ m. m)) (λ m. m))
      (λ _. cases P (is_tx s.core.bus.bus_state) (λ _. w) (λ _. w)))

  idle_whole : Whole (took_idle s).station
  unfolding took_idle
  idle_whole = with_core_lem s _ w (telling_good s.core w.core _ _ _ (omega arith) (λ e. absurd (false≢true e)) (λ m. m)) (λ m. m)

  ack_whole : Whole (acknowledged s)
  unfolding acknowledged
  ack_whole =
      cases Whole (has_event s)
      (λ t. let e = ready s.core.told.rx_state t in with_core_lem s _ w (taken_good s.core w.core e) (λ m. e))
      (λ _. w)

  call_whole : (c : Call) → Whole (after c s)
  unfolding after start_tx_of start_answer_of took_rx with_policy
  call_whole (tick high) = tick_whole s w high
  call_whole (start_tx hb) = start_whole (is_idle s.core.bus.bus_state) hb false
  call_whole (start_answer hb) = start_whole (hears s.core.bus.bus_state) hb true
  call_whole poll = poll_whole
  call_whole take_idle = idle_whole
  call_whole take_rx = ack_whole
  call_whole acknowledge = ack_whole
  call_whole (policy p) = with_core_lem s _ w (record { any = w.core.any; state = w.core.state }) (λ m. m)

-- ---- from a new station on
new_whole : Whole new_station
unfolding new_station new_core In is_receiving
new_whole = record {
  core = record {
    any = record { one_run = λ _. refl; collisions = omega arith; either = λ _. refl };
    state = record { receiving = refl; released = refl; busy = refl; debounce = omega arith; fell = λ _. refl; counted = omega arith };
  };
  loads = omega arith;
  counts = λ e. absurd (not_empty e);
}

pub reached_whole : (s : DaliBitbangPhy) → Reached s → Whole s
reached_whole _ new = new_whole
reached_whole _ (called {s = s} c r) = call_whole s (reached_whole s r) c
