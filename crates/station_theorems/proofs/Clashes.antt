-- Which ticks are a clash (specs/OverTicks, Tx). Assumes nothing.
use Rattle.std.specs.Prelude.{Result, ⊤}
use Prim.Native.Nat.{ℕ, ◌+◌, ◌%◌, ◌≤◌, ◌<◌, min}
use native.Mathlib.Omega.{arith}
use native.Mathlib.Nat.{not-suc-le-zero}
use mathlib.Core.Bool.{Bool, true, false, not, false≢true, ◌||◌}
use mathlib.Core.Path.{◌≡◌, refl, sym, ◌∙◌, ap, subst}
use lib.Dec.{eqb, ltb, leb}
use borrow.Author.Tests.{eqb-true, eqb-false, eq-eqb, ne_eqb}
use Rattle.laws.specs.Bit.{bit}
use Rattle.laws.specs.Pick.{pick}
use Rattle.laws.proofs.Joined.{joins, parts, is_not, or_on, or_off}
use Rattle.laws.proofs.Picked.{on_true, on_false, cases}
use Rattle.halfbits.specs.declared.HalfBitBuffer.{HalfBitBuffer}
use Rattle.machine.specs.declared.BusState.{BusState}
use Rattle.machine.specs.declared.BusState.TheVariants as bus
use Rattle.machine.specs.declared.CollisionPolicy.{CollisionPolicy}
use Rattle.machine.specs.declared.CollisionPolicy.TheVariants.{Auto, Off, On}
use Rattle.machine.specs.declared.Tx.{Tx}
use Rattle.machine.specs.declared.Core.{Core}
use Rattle.machine.specs.Runs.{runs_counted}
use Rattle.machine.specs.BecomingIdle.{idled}
use Rattle.fsm.specs.Rx.{sampled, goes_on, finished, rx_tick, notified, went_on}
use Rattle.machine.specs.Idle.{idle_tick, entered, silent, fell}
use Rattle.machine.specs.Sending.{Step, Arm, Yield, End, Clash, Hold, Drive, watches_of, clash_of, tx_step, armed, yielded, clashed, held, driven, after_step, tx_tick}
use Rattle.machine.specs.Collision.{broke, collision_tick}
use Rattle.machine.specs.Starting.{loaded}
use Rattle.fsm.specs.declared.DaliBitbangPhy.{DaliBitbangPhy}
use Rattle.fsm.specs.declared.Answered.{Answered}
use Rattle.fsm.specs.declared.StartError.{StartError}
use Rattle.std.specs.declared.result.Result.TheVariants as result
use Rattle.fsm.specs.declared.StartError.TheVariants.{Busy}
use Rattle.fsm.specs.declared.TxPollResult.TheVariants.{Collision}
use Rattle.fsm.specs.Station.{new_core, new_station, with_core}
use Rattle.fsm.specs.Ticking.{tick_of}
use Rattle.fsm.specs.Starting.{length_fits, started_with, loaded_with, started, start_tx_of, start_answer_of}
use Rattle.machine.specs.States.{is_idle, hears, is_tx}
use Rattle.fsm.specs.Polling.{polled}
use Rattle.station_theorems.specs.Calls.{Call, after, Reached, new, called}
use Rattle.station_theorems.specs.Ticks.{drives, IsSending, IsBreaking}
use Rattle.station_theorems.specs.OverTicks.{to_send, Watches, ClashSeen}
use Rattle.station_theorems.proofs.Cores.{In, InOf, in_state}
use Rattle.station_theorems.proofs.Stations.{reached_whole}
use Rattle.station_theorems.proofs.Between.{Same, between_same, by_kind}
use Rattle.station_theorems.proofs.ByState.{tick_idle, tick_rx, tick_tx, tick_by, tick_break, sending_not_breaking, idle_not_breaking, idle_not_sending}
use Rattle.station_theorems.proofs.Steps.{Why, why}

-- ---- within a half-bit the level kept for watching is the one that is driven
abbrev Steady : Core → Type 0
Steady c = c.bus.bus_state ≡ bus.Tx → 0 < c.tx.tx_sp_cnt → c.tx.tx_high ≡ bit c.bus.driven_high

not_tx : (b : BusState) → is_tx b ≡ false → b ≡ bus.Tx → ⊥
unfolding is_tx
not_tx b e f = false≢true (sym e ∙ ap is_tx f)

-- a tick in another state leads to no Tx
idle_steady : (c : Core) (high : Bool) → c.bus.bus_state ≡ bus.Idle → Steady (idle_tick c high)
unfolding idle_tick silent fell entered is_tx
idle_steady c high e =
    cases Steady high (λ _ f. absurd (idle_not_sending (sym e ∙ f)))
    (λ _. cases Steady (ltb (min (c.bus.rx_debounce + 1) 255) 2) (λ _ f. absurd (idle_not_sending (sym e ∙ f))) (λ _ f. absurd (not_tx bus.Rx refl f)))

rx_steady : (s : DaliBitbangPhy) (c : Core) (high : Bool) → c.bus.bus_state ≡ bus.Rx → Steady (rx_tick s c high).core
unfolding rx_tick went_on notified finished idled is_tx
rx_steady s c high e =
    cases (λ (t : DaliBitbangPhy). Steady t.core) (goes_on (sampled c.rx high))
    (λ _ f. absurd (not_tx bus.Rx refl (sym e ∙ f)))
    (λ _ f. absurd (idle_not_sending f))

break_steady : (c : Core) (high : Bool) → c.bus.bus_state ≡ bus.CollisionTx → Steady (collision_tick c high)
unfolding collision_tick broke idled idle_tick silent fell is_tx pick
break_steady c high e =
    cases Steady (leb 14 ((c.tx.tx_sp_cnt + 1) % 256)) (λ _. cases Steady high (λ _ f. absurd (idle_not_sending f)) (λ _ f. absurd (idle_not_sending f)))
    (λ _ f. absurd (not_tx bus.CollisionTx refl (sym e ∙ f)))

-- and in Tx each step keeps it
step_steady : (x : Step) (c : Core) → c.bus.bus_state ≡ bus.Tx → Steady c → Steady (after_step x c)
unfolding after_step armed yielded clashed held driven idled idle_tick silent fell pick
step_steady Arm c e h = h
step_steady Yield c e h = λ f. absurd (idle_not_sending f)
step_steady End c e h = λ f. absurd (idle_not_sending f)
step_steady Clash c e h = λ f. absurd (sending_not_breaking (sym f))
step_steady Hold c e h = λ f left. h e (omega (arith, left))
step_steady (Drive high) c e h = λ f left. refl

tick_steady : (s : DaliBitbangPhy) (high : Bool) (b : BusState) → s.core.bus.bus_state ≡ b → Steady s.core → Steady (tick_of s high).core
unfolding runs_counted tx_tick
tick_steady s high bus.Idle e h = rw (tick_idle s high e) (idle_steady (runs_counted s.core high) high e)
tick_steady s high bus.Rx e h = rw (tick_rx s high e) (rx_steady s (runs_counted s.core high) high e)
tick_steady s high bus.Tx e h = rw (tick_tx s high e) (step_steady _ (runs_counted s.core high) e h)
tick_steady s high bus.CollisionTx e h = rw (tick_break s high e) (break_steady (runs_counted s.core high) high e)

start_steady : (s : DaliBitbangPhy) (allowed : Bool) (hb : HalfBitBuffer) (answer : Bool) → Steady s.core
    → Steady (pick {A = Answered (Result ⊤ StartError)} allowed (started s hb answer) (started_with s (result.Err Busy))).station.core
unfolding started loaded_with loaded
start_steady s allowed hb answer h =
    let P : Answered (Result ⊤ StartError) → Type 0 = λ (x : Answered (Result ⊤ StartError)). Steady x.station.core in
    cases P allowed (λ _. cases P (length_fits hb.length) (λ _ _ none. absurd (not-suc-le-zero none)) (λ _. h)) (λ _. h)

same_steady : (s t : DaliBitbangPhy) → Same s t → Steady s.core → Steady t.core
same_steady s t same h =
    let b : t.core.bus ≡ s.core.bus = same.bus in
    let x : t.core.tx ≡ s.core.tx = same.tx in
    rw (b, x) h

call_steady : (s : DaliBitbangPhy) (c : Call) → Steady s.core → Steady (after c s).core
unfolding after start_tx_of start_answer_of
call_steady s c h =
    by_kind (λ c. Steady (after c s).core) (λ high. tick_steady s high s.core.bus.bus_state refl h)
    (λ hb. start_steady s (is_idle s.core.bus.bus_state) hb false h) (λ hb. start_steady s (hears s.core.bus.bus_state) hb true h)
    (λ c between _. same_steady s _ (between_same c s between) h) c

steady : (s : DaliBitbangPhy) → Reached s → Steady s.core
unfolding new_station new_core
steady _ new = λ e. absurd (idle_not_sending e)
steady _ (called {s = s} c r) = call_steady s c (steady s r)

-- ---- what is watched
pub watched : (p : CollisionPolicy) (len : ℕ) → watches_of p len ≡ true → Watches p len
unfolding watches_of Watches
watched Auto len e = λ f. false≢true (sym (ap not (eq-eqb len 22 (omega arith))) ∙ e)
watched Off len e = absurd (false≢true e)
watched On len e = tt

pub watching : (p : CollisionPolicy) (len : ℕ) → Watches p len → watches_of p len ≡ true
unfolding watches_of Watches
watching Auto len w = ap not (ne_eqb len 22 (λ f. w (omega arith)))
watching Off len w = absurd w
watching On len w = refl

-- ---- the test for a clash, read off
-- on these ticks of a half-bit two ticks or one are left of it
abbrev third_or_fourth : ℕ → Bool
third_or_fourth left = eqb left 1 || eqb left 2

pub record Told (tx : Tx) (p : CollisionPolicy) (len : ℕ) (high : Bool) : Type 0 where
  pub fell : high ≡ false
  pub released : tx.tx_high ≡ 0 → ⊥
  pub watches : Watches p len
  pub left : 1 ≤ tx.tx_sp_cnt
  pub few : tx.tx_sp_cnt ≤ 2

pub clash_told : (tx : Tx) (p : CollisionPolicy) (len : ℕ) (high : Bool) → clash_of tx p len high ≡ true → Told tx p len high
unfolding clash_of
clash_told tx p len high e =
    let all = parts _ (third_or_fourth tx.tx_sp_cnt) e in
    let low = parts _ (not high) all.0 in
    let on = parts _ (not (eqb tx.tx_high 0)) low.0 in
    let left = two_or_one tx.tx_sp_cnt (eqb tx.tx_sp_cnt 1) refl all.1 in
    record {
      fell = is_not high low.1;
      released = eqb-false _ _ (is_not _ on.1);
      watches = watched p len on.0;
      left = left.0;
      few = left.1;
    }
  where
    two_or_one : (n : ℕ) (b : Bool) → eqb n 1 ≡ b → third_or_fourth n ≡ true → (1 ≤ n) × (n ≤ 2)
    two_or_one n true one e = let is_one : n ≡ 1 = eqb-true n 1 one in (omega arith, omega arith)
    two_or_one n false other e = let is-two : n ≡ 2 = eqb-true n 2 (sym (or_off other (eqb n 2)) ∙ e) in (omega arith, omega arith)

pub told_clash : (tx : Tx) (p : CollisionPolicy) (len : ℕ) (high : Bool) → Told tx p len high → clash_of tx p len high ≡ true
unfolding clash_of
told_clash tx p len high t =
    joins (joins (joins (watching p len t.watches) (ap not (ne_eqb _ _ t.released))) (ap not t.fell))
    (in_time tx.tx_sp_cnt (eqb tx.tx_sp_cnt 1) refl t.left t.few)
  where
    in_time : (n : ℕ) (b : Bool) → eqb n 1 ≡ b → 1 ≤ n → n ≤ 2 → third_or_fourth n ≡ true
    in_time n true one from to = or_on one (eqb n 2)
    in_time n false other from to = or_off other (eqb n 2) ∙ eq-eqb n 2 (let ne : n ≡ 1 → ⊥ = eqb-false n 1 other in omega (arith, ne))

-- the step that leads to the break
stepped_clash : (x : Step) (c : Core) → c.bus.bus_state ≡ bus.Tx → (after_step x c).bus.bus_state ≡ bus.CollisionTx → x ≡ Clash
unfolding after_step armed yielded clashed held driven idled idle_tick silent fell pick
stepped_clash Arm c e f = absurd (sending_not_breaking (sym e ∙ f))
stepped_clash Yield c e f = absurd (idle_not_breaking f)
stepped_clash End c e f = absurd (idle_not_breaking f)
stepped_clash Clash c e f = refl
stepped_clash Hold c e f = absurd (sending_not_breaking (sym e ∙ f))
stepped_clash (Drive high) c e f = absurd (sending_not_breaking (sym e ∙ f))

-- ---- what is told of it
clashed_told : (s : DaliBitbangPhy) (c : Core) → c.told.tx_yielded ≡ false → c.told.tx_collision ≡ 0
    → ((polled (with_core s (after_step Clash c))).answer ≡ Collision) × ((after_step Clash c).bus.driven_high ≡ c.bus.driven_high)
unfolding after_step clashed polled
clashed_told s c calm none =
    (rw none (simp (on_false calm, on_true (ap not (ne_eqb 1 0 (λ f. let no : ⊥ = omega (arith, f) in no))))), refl)

pub is_high : (b : Bool) (n : ℕ) → n ≡ bit b → (n ≡ 0 → ⊥) → b ≡ true
is_high true n e some = refl
is_high false n e some = absurd (some e)

module _ (s : DaliBitbangPhy) (level : Bool) (sending : IsSending s) (breaking : IsBreaking (tick_of s level)) where
  is_clash : tx_step s.core.tx s.core.collision_policy s.tx_hb level ≡ Clash
  unfolding runs_counted
  is_clash =
      let e = tick_by s level sending _ refl in
      stepped_clash _ (runs_counted s.core level) sending (sym (ap (λ (t : DaliBitbangPhy). t.core.bus.bus_state) e) ∙ breaking)

  pub breaking_clash : clash_of s.core.tx s.core.collision_policy (to_send s) level ≡ true
  unfolding Why
  breaking_clash = subst (Why _ _ _ level) is_clash (why s.core.tx s.core.collision_policy s.tx_hb level)

pub clash_seen : ClashSeen
unfolding runs_counted In
clash_seen s r sending level breaking =
    let c : Core = runs_counted s.core level in
    let e : tick_of s level ≡ with_core s (after_step Clash c) = tick_by s level sending Clash (is_clash s level sending breaking) in
    let t : Told s.core.tx s.core.collision_policy (to_send s) level = clash_told _ _ _ _ (breaking_clash s level sending breaking) in
    let i : InOf bus.Tx s.core = in_state s.core (reached_whole s r).core sending in
    let on : drives s ≡ true = is_high (drives s) _ (steady s r sending t.left) t.released in
    let told = clashed_told s c i.unyielded i.clear in
    record { fell = t.fell; released = (on, ap (λ (u : DaliBitbangPhy). drives u) e ∙ told.1 ∙ on); watched = t.watches; told = rw e told.0 }
