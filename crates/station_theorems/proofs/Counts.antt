-- The idle count where a station becomes Idle, and the run lengths (specs/OverTicks, the counts). Assumes nothing.
use Rattle.std.specs.Prelude.{Result, ⊤}
use Prim.Native.Nat.{ℕ, zero, suc, ◌+◌, ◌%◌, ◌<◌, min}
use native.Mathlib.Omega.{arith}
use native.Mathlib.Nat.{add-zero}
use mathlib.Core.Bool.{Bool, true, false, not, false≢true}
use mathlib.Core.List.{List, [], ◌∷◌}
use mathlib.Core.Path.{◌≡◌, refl, sym, ◌∙◌, ap, subst}
use lib.Dec.{ltb, leb}
use lib.ListN.{length, get_or, drop, replicate, length-replicate}
use Rattle.laws.specs.Pick.{pick}
use Rattle.laws.proofs.Picked.{cases}
use Rattle.halfbits.specs.declared.HalfBitBuffer.{HalfBitBuffer}
use Rattle.machine.specs.declared.BusState.{BusState}
use Rattle.machine.specs.declared.BusState.TheVariants as bus
use Rattle.machine.specs.declared.Runs.{Runs}
use Rattle.machine.specs.declared.Core.{Core}
use Rattle.machine.specs.Runs.{runs_counted}
use Rattle.machine.specs.BecomingIdle.{idled}
use Rattle.fsm.specs.Rx.{sampled, goes_on, finished, rx_tick, notified, went_on}
use Rattle.machine.specs.Idle.{idle_tick, entered, silent, fell}
use Rattle.machine.specs.Sending.{Step, Arm, Yield, End, Clash, Hold, Drive, armed, yielded, clashed, held, driven, after_step, tx_tick}
use Rattle.machine.specs.Collision.{broke, collision_tick}
use Rattle.machine.specs.Starting.{loaded}
use Rattle.fsm.specs.declared.DaliBitbangPhy.{DaliBitbangPhy}
use Rattle.fsm.specs.declared.Answered.{Answered}
use Rattle.fsm.specs.declared.StartError.{StartError}
use Rattle.std.specs.declared.result.Result.TheVariants as result
use Rattle.fsm.specs.declared.StartError.TheVariants.{Busy}
use Rattle.fsm.specs.Ticking.{tick_of}
use Rattle.fsm.specs.Starting.{length_fits, started_with, loaded_with, started, start_tx_of, start_answer_of}
use Rattle.machine.specs.States.{is_idle, hears}
use Rattle.station_theorems.specs.Calls.{Call, tick, start_tx, start_answer, poll, take_idle, take_rx, acknowledge, policy, after, after_all, is_between}
use Rattle.station_theorems.specs.Ticks.{IsIdle, level_in, levels_in}
use Rattle.station_theorems.specs.OverTicks.{BecomesIdle, RunLengths}
use Rattle.station_theorems.proofs.Between.{between_same}
use Rattle.station_theorems.proofs.ByState.{tick_idle, tick_rx, tick_tx, tick_break, idle_not_breaking, idle_not_sending}

-- ---- becoming Idle
abbrev Fits : Core → Type 0
Fits c = c.bus.bus_state ≡ bus.Idle → c.bus.idlecnt ≡ c.runs.high_run_ticks

not_idle : (b : BusState) → is_idle b ≡ false → b ≡ bus.Idle → ⊥
unfolding is_idle
not_idle b e f = false≢true (sym e ∙ ap is_idle f)

step_fits : (x : Step) (c : Core) → c.bus.bus_state ≡ bus.Tx → Fits (after_step x c)
unfolding after_step armed yielded clashed held driven idled idle_tick silent fell pick is_idle
step_fits Arm c e f = absurd (idle_not_sending (sym f ∙ e))
step_fits Yield c e f = refl
step_fits End c e f = refl
step_fits Clash c e f = absurd (idle_not_breaking (sym f))
step_fits Hold c e f = absurd (idle_not_sending (sym f ∙ e))
step_fits (Drive high) c e f = absurd (idle_not_sending (sym f ∙ e))

break_fits : (c : Core) (high : Bool) → c.bus.bus_state ≡ bus.CollisionTx → Fits (collision_tick c high)
unfolding collision_tick broke idled idle_tick silent fell pick
break_fits c high e =
    cases Fits (leb 14 ((c.tx.tx_sp_cnt + 1) % 256)) (λ _. cases Fits high (λ _ _. refl) (λ _ _. refl)) (λ _ f. absurd (idle_not_breaking (sym f ∙ e)))

rx_fits : (s : DaliBitbangPhy) (c : Core) (high : Bool) → c.bus.bus_state ≡ bus.Rx → Fits (rx_tick s c high).core
unfolding rx_tick went_on notified finished idled is_idle
rx_fits s c high e =
    cases (λ (t : DaliBitbangPhy). Fits t.core) (goes_on (sampled c.rx high)) (λ _ f. absurd (not_idle bus.Rx refl (sym e ∙ f))) (λ _ _. refl)

idle_fits : (s : DaliBitbangPhy) (high : Bool) (b : BusState) → s.core.bus.bus_state ≡ b → (IsIdle s → ⊥) → Fits (tick_of s high).core
unfolding runs_counted tx_tick
idle_fits s high bus.Idle e other = absurd (other e)
idle_fits s high bus.Rx e other = rw (tick_rx s high e) (rx_fits s (runs_counted s.core high) high e)
idle_fits s high bus.Tx e other = rw (tick_tx s high e) (step_fits _ (runs_counted s.core high) e)
idle_fits s high bus.CollisionTx e other = rw (tick_break s high e) (break_fits (runs_counted s.core high) high e)

pub becomes_idle : BecomesIdle
unfolding pick
becomes_idle s level other idle = idle_fits s level s.core.bus.bus_state refl other idle

-- ---- the runs: a tick does to them what it hears, and no other call changes them
idle_runs : (c : Core) (high : Bool) → (idle_tick c high).runs ≡ c.runs
unfolding idle_tick silent fell entered
idle_runs c high =
    let P : Core → Type 0 = λ (d : Core). d.runs ≡ c.runs in
    cases P high (λ _. refl) (λ _. cases P (ltb (min (c.bus.rx_debounce + 1) 255) 2) (λ _. refl) (λ _. refl))

step_runs : (x : Step) (c : Core) → (after_step x c).runs ≡ c.runs
unfolding after_step armed yielded clashed held driven idled idle_tick silent fell pick
step_runs Arm c = refl
step_runs Yield c = refl
step_runs End c = refl
step_runs Clash c = refl
step_runs Hold c = refl
step_runs (Drive high) c = refl

break_runs : (c : Core) (high : Bool) → (collision_tick c high).runs ≡ c.runs
unfolding collision_tick broke idled idle_tick silent fell pick
break_runs c high =
    let P : Core → Type 0 = λ (d : Core). d.runs ≡ c.runs in
    cases P (leb 14 ((c.tx.tx_sp_cnt + 1) % 256)) (λ _. cases P high (λ _. refl) (λ _. refl)) (λ _. refl)

rx_runs : (s : DaliBitbangPhy) (c : Core) (high : Bool) → (rx_tick s c high).core.runs ≡ c.runs
unfolding rx_tick went_on notified finished idled
rx_runs s c high = cases (λ (t : DaliBitbangPhy). t.core.runs ≡ c.runs) (goes_on (sampled c.rx high)) (λ _. refl) (λ _. refl)

tick_runs : (s : DaliBitbangPhy) (high : Bool) (b : BusState) → s.core.bus.bus_state ≡ b → (tick_of s high).core.runs ≡ (runs_counted s.core high).runs
unfolding tx_tick
tick_runs s high bus.Idle e = rw (tick_idle s high e) (idle_runs (runs_counted s.core high) high)
tick_runs s high bus.Rx e = rw (tick_rx s high e) (rx_runs s (runs_counted s.core high) high)
tick_runs s high bus.Tx e = rw (tick_tx s high e) (step_runs _ (runs_counted s.core high))
tick_runs s high bus.CollisionTx e = rw (tick_break s high e) (break_runs (runs_counted s.core high) high)

start_runs : (s : DaliBitbangPhy) (allowed : Bool) (hb : HalfBitBuffer) (answer : Bool)
    → (pick {A = Answered (Result ⊤ StartError)} allowed (started s hb answer) (started_with s (result.Err Busy))).station.core.runs ≡ s.core.runs
unfolding started loaded_with loaded
start_runs s allowed hb answer =
    let P : Answered (Result ⊤ StartError) → Type 0 = λ (x : Answered (Result ⊤ StartError)). x.station.core.runs ≡ s.core.runs in
    cases P allowed (λ _. cases P (length_fits hb.length) (λ _. refl) (λ _. refl)) (λ _. refl)

-- ---- n ticks of one level
abbrev Ran : Bool → ℕ → Runs → Type 0
Ran level n r = (pick level r.high_run_ticks r.low_run_ticks ≡ min n 65535) × (0 < n → pick (not level) r.high_run_ticks r.low_run_ticks ≡ 0)

one_more : (n k : ℕ) → k ≡ min n 65535 → min (k + 1) 65535 ≡ min (suc n) 65535
one_more n k e = omega (arith, e)

ran_on : (level : Bool) (n : ℕ) (s : DaliBitbangPhy) → Ran level n s.core.runs → Ran level (suc n) (tick_of s level).core.runs
unfolding runs_counted pick
ran_on true n s h = rw (tick_runs s true s.core.bus.bus_state refl) (one_more n _ h.0, λ _. refl)
ran_on false n s h = rw (tick_runs s false s.core.bus.bus_state refl) (one_more n _ h.0, λ _. refl)

none_yet : (s : DaliBitbangPhy) (level : Bool) → Ran level 0 (tick_of s (not level)).core.runs
unfolding runs_counted pick
none_yet s true = rw (tick_runs s false s.core.bus.bus_state refl) (refl, λ h. absurd (let no : ⊥ = omega (arith, h) in no))
none_yet s false = rw (tick_runs s true s.core.bus.bus_state refl) (refl, λ h. absurd (let no : ⊥ = omega (arith, h) in no))

module _ (level : Bool) where
  runs_on : (cs : List Call) (n m : ℕ) (s : DaliBitbangPhy) → levels_in cs ≡ replicate n level → Ran level m s.core.runs → Ran level (m + n) (after_all cs s).core.runs
  unfolding levels_in level_in after_all after is_between start_tx_of start_answer_of
  runs_on [] n m s e h =
      let none : n ≡ 0 = sym (length-replicate n level) ∙ sym (ap length e) in
      rw (none, add-zero m) h
  runs_on (tick b ∷ cs) zero m s e h = absurd (let none : ⊥ = omega (arith, ap length e) in none)
  runs_on (tick b ∷ cs) (suc n) m s e h =
      let same : b ≡ level = ap (λ l. get_or l 0 true) e in
      let next : Ran level (suc m) (tick_of s b).core.runs = rw same (ran_on level m s h) in
      let on : Ran level (suc m + n) (after_all cs (tick_of s b)).core.runs = runs_on cs n (suc m) (tick_of s b) (ap (drop 1) e) next in
      subst (λ (k : ℕ). Ran level k (after_all cs (tick_of s b)).core.runs) (omega arith) on
  runs_on (start_tx hb ∷ cs) n m s e h = runs_on cs n m (after (start_tx hb) s) e (rw (start_runs s (is_idle s.core.bus.bus_state) hb false) h)
  runs_on (start_answer hb ∷ cs) n m s e h = runs_on cs n m (after (start_answer hb) s) e (rw (start_runs s (hears s.core.bus.bus_state) hb true) h)
  runs_on (poll ∷ cs) n m s e h = runs_on cs n m (after poll s) e (rw (between_same poll s refl).runs h)
  runs_on (take_idle ∷ cs) n m s e h = runs_on cs n m (after take_idle s) e (rw (between_same take_idle s refl).runs h)
  runs_on (take_rx ∷ cs) n m s e h = runs_on cs n m (after take_rx s) e (rw (between_same take_rx s refl).runs h)
  runs_on (acknowledge ∷ cs) n m s e h = runs_on cs n m (after acknowledge s) e (rw (between_same acknowledge s refl).runs h)
  runs_on (policy p ∷ cs) n m s e h = runs_on cs n m (after (policy p) s) e (rw (between_same (policy p) s refl).runs h)

pub run_lengths : RunLengths
run_lengths s level calls n e some =
    let r : Ran level (0 + n) (after_all calls (tick_of s (not level))).core.runs = runs_on level calls n 0 (tick_of s (not level)) e (none_yet s level) in
    let plain : 0 + n ≡ n = omega arith in
    let t : Ran level n (after_all calls (tick_of s (not level))).core.runs = rw plain at r in
    (omega (arith, t.0), omega (arith, t.1 some))
