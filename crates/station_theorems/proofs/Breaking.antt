-- A break, tick by tick (specs/OverTicks, Collision). Assumes nothing.
use Rattle.std.specs.Prelude.{Result, ⊤}
use Prim.Native.Nat.{ℕ, suc, ◌+◌, ◌%◌, ◌≤◌, ◌<◌}
use native.Mathlib.Omega.{arith}
use native.Mathlib.Nat.{zero-add}
use mathlib.Core.Bool.{Bool, true, false, false≢true, not}
use mathlib.Core.List.{List}
use mathlib.Core.Path.{◌≡◌, refl, sym, ◌∙◌, ap}
use lib.Dec.{eqb, ltb}
use borrow.Author.Tests.{lt-ltb, le-ltb, le-leb, lt-leb, eqb-true, eq-eqb}
use Rattle.laws.specs.Pick.{pick}
use Rattle.laws.proofs.Picked.{on_true, on_false}
use Rattle.halfbits.specs.declared.HalfBitBuffer.{HalfBitBuffer}
use Rattle.machine.specs.declared.BusState.TheVariants as bus
use Rattle.machine.specs.declared.Core.{Core}
use Rattle.machine.specs.Fields.{with_driven_high, with_tx_collision, with_tx_sp_cnt}
use Rattle.machine.specs.Runs.{runs_counted}
use Rattle.machine.specs.BecomingIdle.{idled}
use Rattle.machine.specs.Idle.{idle_tick, entered, silent, fell}
use Rattle.machine.specs.Sending.{Step, Arm, Yield, End, Clash, Hold, Drive, tx_step, armed, yielded, clashed, held, driven, after_step, tx_tick}
use Rattle.machine.specs.Collision.{broke, collision_tick}
use Rattle.fsm.specs.declared.DaliBitbangPhy.{DaliBitbangPhy}
use Rattle.fsm.specs.declared.Answered.{Answered}
use Rattle.fsm.specs.declared.StartError.{StartError}
use Rattle.fsm.specs.declared.TxPollResult.TheVariants.{Ok}
use Rattle.fsm.specs.Station.{with_core}
use Rattle.fsm.specs.Ticking.{tick_in, tick_of}
use Rattle.machine.specs.States.{is_idle, hears, is_tx}
use Rattle.fsm.specs.Starting.{start_tx_of, start_answer_of}
use Rattle.fsm.specs.Refusals.{start_answer_number}
use Rattle.fsm.specs.Polling.{polled}
use Rattle.fsm.specs.Calls.{took_idle}
use Rattle.station_theorems.specs.Calls.{Call, after, after_all, Reached, called, tick}
use Rattle.station_theorems.specs.Ticks.{drives, IsSending, IsBreaking, levels_in, ticks_in}
use Rattle.station_theorems.specs.OverTicks.{InBreak, Broke, BreakTicks}
use Rattle.station_theorems.proofs.Cores.{In, InOf, in_state}
use Rattle.station_theorems.proofs.Stations.{reached_whole}
use Rattle.station_theorems.proofs.Between.{Same, tx_refused, answer_refused}
use Rattle.station_theorems.proofs.Walking.{reached_all, all_any, walk}
use Rattle.station_theorems.proofs.Clashes.{clash_seen}
use Rattle.station_theorems.proofs.ByState.{tick_tx, tick_break, sending_not_breaking, idle_not_breaking}

-- ---- a break of which n ticks have passed
pub record At (n : ℕ) (t : DaliBitbangPhy) : Type 0 where
  pub breaking : IsBreaking t
  pub passed : t.core.tx.tx_sp_cnt ≡ n
  pub waits : n ≡ 0 → drives t ≡ true
  pub driving : 1 ≤ n → drives t ≡ ltb 12 n

-- the tick that sees the clash: no other step leaves Tx for Collision
clash_alone : (x : Step) (c : Core) → c.bus.bus_state ≡ bus.Tx → (after_step x c).bus.bus_state ≡ bus.CollisionTx → (after_step x c).tx.tx_sp_cnt ≡ 0
unfolding after_step armed yielded clashed held driven idled idle_tick silent fell pick
clash_alone Arm c e f = absurd (sending_not_breaking (sym e ∙ f))
clash_alone Yield c e f = absurd (idle_not_breaking f)
clash_alone End c e f = absurd (idle_not_breaking f)
clash_alone Clash c e f = refl
clash_alone Hold c e f = absurd (sending_not_breaking (sym e ∙ f))
clash_alone (Drive high) c e f = absurd (sending_not_breaking (sym e ∙ f))

pub begins : (s : DaliBitbangPhy) → Reached s → (level : Bool) → IsSending s → IsBreaking (tick_of s level) → At 0 (tick_of s level)
unfolding tx_tick runs_counted
begins s r level sending clash = record {
  breaking = clash;
  passed = ap (λ (t : DaliBitbangPhy). t.core.tx.tx_sp_cnt) e ∙ clash_alone x c sending (sym (ap (λ (t : DaliBitbangPhy). t.core.bus.bus_state) e) ∙ clash);
  waits = λ _. (clash_seen s r sending level clash).released.1;
  driving = λ one. absurd (none one);
}
  where
    c : Core
    c = runs_counted s.core level

    x : Step
    x = tx_step c.tx c.collision_policy s.tx_hb level

    e : tick_of s level ≡ with_core s (after_step x c)
    e = tick_tx s level sending

    none : 1 ≤ 0 → ⊥
    none h = omega (arith, h)

-- ---- the last tick
sampled_there : (t : DaliBitbangPhy) (level : Bool) → Broke level (with_core t (broke (with_tx_sp_cnt (runs_counted t.core level) 14) level))
unfolding broke idled idle_tick silent fell entered took_idle tick_of tick_in runs_counted pick
sampled_there t true = record { mark = refl; found_low = λ e. absurd (false≢true (sym e)); found_high = λ _. record { idle = refl; alone = refl } }
sampled_there t false = record { mark = refl; found_low = λ _. record { idle = refl; second = refl }; found_high = λ e. absurd (false≢true e) }

-- ---- a tick of it
module _ (n : ℕ) (t : DaliBitbangPhy) (breaking : IsBreaking t) (passed : t.core.tx.tx_sp_cnt ≡ n) (level : Bool) where
  pub tick_on : n < 13 → tick_of t level ≡ with_core t (with_driven_high (with_tx_sp_cnt (runs_counted t.core level) (suc n)) (ltb 12 (suc n)))
  unfolding collision_tick runs_counted
  tick_on few =
      let now : (t.core.tx.tx_sp_cnt + 1) % 256 ≡ suc n = omega arith in
      tick_break t level breaking ∙ rw now (simp (on_false (lt-leb 14 (suc n) (omega arith))))

  tick_last : n ≡ 13 → tick_of t level ≡ with_core t (broke (with_tx_sp_cnt (runs_counted t.core level) 14) level)
  unfolding collision_tick runs_counted
  tick_last last =
      let now : (t.core.tx.tx_sp_cnt + 1) % 256 ≡ 14 = omega arith in
      tick_break t level breaking ∙ rw now (simp (on_true (le-leb 14 14 (omega arith))))

module _ (n : ℕ) (t : DaliBitbangPhy) (h : At n t) (level : Bool) where
  pub goes_on : n < 13 → At (suc n) (tick_of t level)
  unfolding runs_counted
  goes_on few =
      rw (tick_on n t h.breaking h.passed level few)
      (record { breaking = h.breaking; passed = refl; waits = λ e. absurd (let no : ⊥ = omega arith in no); driving = λ _. refl })

  ends : n ≡ 13 → Broke level (tick_of t level)
  ends last = rw (tick_last n t h.breaking h.passed level last) (sampled_there t level)

-- ---- what else holds in a break
-- polled twice, it answers Ok
clear_ok : (t : DaliBitbangPhy) → t.core.told.tx_yielded ≡ false → t.core.told.tx_collision ≡ 0 → IsBreaking t → (polled t).answer ≡ Ok
unfolding polled is_tx
clear_ok t calm none e = simp (on_false calm, on_false (ap not (eq-eqb _ _ none)), on_false (ap is_tx e))

untold : (t : DaliBitbangPhy) → t.core.told.tx_yielded ≡ false → IsBreaking t → eqb t.core.told.tx_collision 0 ≡ true → (polled t).station ≡ t
unfolding polled is_tx
untold t calm e none = simp (on_false calm, on_false (ap not none), on_false (ap is_tx e))

told : (t : DaliBitbangPhy) → t.core.told.tx_yielded ≡ false → eqb t.core.told.tx_collision 0 ≡ false
    → (polled t).station ≡ with_core t (with_tx_collision t.core 0)
unfolding polled
told t calm some = simp (on_false calm, on_true (ap not some))

polled_ok : (t : DaliBitbangPhy) → t.core.told.tx_yielded ≡ false → IsBreaking t → (polled (polled t).station).answer ≡ Ok
polled_ok t calm e = go (eqb t.core.told.tx_collision 0) refl
  where
    go : (none : Bool) → eqb t.core.told.tx_collision 0 ≡ none → (polled (polled t).station).answer ≡ Ok
    go true none = rw (untold t calm e none) (clear_ok t calm (eqb-true _ _ none) e)
    go false some = rw (told t calm some) (clear_ok _ calm refl e)

refused : (t : DaliBitbangPhy) → IsBreaking t → (hb : HalfBitBuffer) → (start_answer_number (start_tx_of t hb).answer ≡ 7) × (start_answer_number (start_answer_of t hb).answer ≡ 7)
unfolding is_idle hears
refused t e hb =
    (ap (λ (x : Answered (Result ⊤ StartError)). start_answer_number x.answer) (tx_refused t hb (ap is_idle e)), ap (λ (x : Answered (Result ⊤ StartError)). start_answer_number x.answer) (answer_refused t hb (ap hears e)))

-- nothing is yielded while it lasts
calm : (t : DaliBitbangPhy) → Reached t → IsBreaking t → t.core.told.tx_yielded ≡ false
unfolding In
calm t r e =
    let c : Core = t.core in
    let i : InOf bus.CollisionTx c = in_state c (reached_whole t r).core e in
    i.unyielded

-- ---- any calls from the clash on
deaf : (n : ℕ) (s : DaliBitbangPhy) → At n s → hears s.core.bus.bus_state ≡ false
unfolding hears
deaf n s h = ap hears h.breaking

kept : (n : ℕ) (s t : DaliBitbangPhy) → Same s t → At n s → At n t
kept n s t same h =
    let bus : t.core.bus ≡ s.core.bus = same.bus in
    let tx : t.core.tx ≡ s.core.tx = same.tx in
    record { breaking = rw bus h.breaking; passed = rw tx h.passed; waits = λ a. rw bus (h.waits a); driving = λ a. rw bus (h.driving a) }

pub break_at : (s : DaliBitbangPhy) → Reached s → (level : Bool) → IsSending s → IsBreaking (tick_of s level) → (calls : List Call) → ticks_in calls ≤ 13
    → At (ticks_in calls) (after_all calls (tick_of s level))
break_at s r level sending clash calls few =
    let h : At (0 + ticks_in calls) (after_all calls (tick_of s level))
    = walk At (λ _. Unit {0}) 13 deaf kept (λ n t b _ less h. goes_on n t h b less)
    calls 0 (tick_of s level) (all_any (levels_in calls)) (begins s r level sending clash) (omega arith) in
    rw (zero-add (ticks_in calls)) at h

in_break : (n : ℕ) (t : DaliBitbangPhy) → Reached t → At n t → InBreak n t
in_break n t r h = record {
  breaking = h.breaking;
  waits = h.waits;
  pulls = λ one le. h.driving (omega arith) ∙ le-ltb 12 n (omega arith);
  releases = λ e. h.driving (omega arith) ∙ lt-ltb 12 n (omega arith);
  refuses = refused t h.breaking;
  told = polled_ok t (calm t r h.breaking) h.breaking;
}

pub break_ticks : BreakTicks
unfolding after
break_ticks s r level sending clash calls =
    let t : DaliBitbangPhy = after_all calls (tick_of s level) in
    let there : Reached t = reached_all calls (tick_of s level) (called (tick level) r) in
    record {
      lasts = λ few. in_break (ticks_in calls) t there (break_at s r level sending clash calls (omega arith));
      sampled = λ last sample. ends (ticks_in calls) t (break_at s r level sending clash calls (omega arith)) sample (omega arith);
    }
