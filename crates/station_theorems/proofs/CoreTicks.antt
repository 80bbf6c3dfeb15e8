-- Every tick keeps what is so of a core, in each state. Assumes nothing.
use Prim.Native.Nat.{ℕ, ◌+◌, ◌*◌, ◌%◌, ◌≤◌, ◌<◌, min}
use native.Mathlib.Omega.{arith}
use native.Mathlib.Decide.{dec_lt}
use native.Mathlib.Nat.{not-suc-le-zero}
use mathlib.Core.Bool.{Bool, true, false}
use mathlib.Core.Path.{◌≡◌, refl, sym, subst, ◌∙◌}
use lib.Dec.{ltb, leb}
use borrow.Author.Tests.{ltb-true, ltb-false}
use Rattle.laws.specs.Pick.{pick}
use Rattle.laws.proofs.Picked.{on_false, cases}
use Rattle.machine.specs.declared.BusState.{BusState}
use Rattle.machine.specs.declared.BusState.TheVariants as bus
use Rattle.machine.specs.declared.Rx.{Rx}
use Rattle.machine.specs.declared.Tx.{Tx}
use Rattle.machine.specs.declared.CollisionPolicy.{CollisionPolicy}
use Rattle.machine.specs.declared.Core.{Core}
use Rattle.machine.specs.declared.TxHb.{TxHb}
use Rattle.machine.specs.Fields.{with_rx}
use Rattle.machine.specs.Runs.{runs_counted}
use Rattle.machine.specs.BecomingIdle.{idled}
use Rattle.fsm.specs.Rx.{sampled, high_run, finished, goes_on}
use Rattle.machine.specs.Idle.{idle_tick, entered, silent, fell}
use Rattle.machine.specs.Sending.{Step, Arm, Yield, End, Clash, Hold, Drive, tx_step, armed, yielded, clashed, held, driven, after_step, tx_tick}
use Rattle.machine.specs.Collision.{broke, collision_tick}
use Rattle.station_theorems.specs.Invariants.{is_receiving}
use Rattle.station_theorems.proofs.Cores.{AnyOf, InIdle, InRx, InTx, InBreak, In, Good, in_state}
use Rattle.station_theorems.proofs.CoreSamples.{Sampled, sampled_keeps, runs_agree}
use Rattle.station_theorems.proofs.Steps.{Why, why}

-- ---- becoming Idle, and Idle's first low after it
-- what becoming Idle asks for
record Ended (c : Core) : Type 0 where
  any : AnyOf c
  receiving : is_receiving c.told.rx_state ≡ false

idled_good : (c : Core) → Ended c → Good (idled c)
unfolding idled In
idled_good c e = record {
  any = e.any;
  state = record { receiving = e.receiving; released = refl; busy = refl; debounce = omega arith; fell = λ h. absurd (not-suc-le-zero h); counted = omega arith };
}

-- the tick that ended it was low
first_low : (c : Core) → c.runs.high_run_ticks ≡ 0 → Ended c → Good (idle_tick (idled c) false)
unfolding idle_tick silent fell idled In pick
first_low c low e = record {
  any = e.any;
  state = record { receiving = e.receiving; released = refl; busy = refl; debounce = omega arith; fell = λ h. low; counted = omega arith };
}

-- ---- a tick, of a core that the level was not heard by yet
-- the runs alone
heard_any : (c : Core) (high : Bool) → AnyOf c → AnyOf (runs_counted c high)
unfolding runs_counted pick
heard_any c true a = record { one_run = λ h. refl; collisions = a.collisions; either = a.either }
heard_any c false a = record { one_run = λ h. absurd (not-suc-le-zero h); collisions = a.collisions; either = a.either }

up : (a b : ℕ) → a ≤ b → min (a + 1) 65535 ≤ min (b + 1) 65535
up a b h = omega (arith, h)

heard_high : (c : Core) (high : Bool) → (runs_counted c high).runs.high_run_ticks ≡ pick high (min (c.runs.high_run_ticks + 1) 65535) 0
unfolding runs_counted pick
heard_high c true = refl
heard_high c false = refl

heard_low : (c : Core) (high : Bool) → high ≡ false → (runs_counted c high).runs.high_run_ticks ≡ 0
heard_low c high e = heard_high c high ∙ on_false e (min (c.runs.high_run_ticks + 1) 65535) 0

-- only a low tick yields
yields_low : (tx : Tx) (policy : CollisionPolicy) (hb : TxHb) (high : Bool) → tx_step tx policy hb high ≡ Yield → high ≡ false
unfolding Why
yields_low tx policy hb high e = subst (Why tx policy hb high) e (why tx policy hb high)

-- ---- what a tick leaves of a core that has heard the level
abbrev pub rx_core : Core → Bool → Core
rx_core c high = pick (goes_on (sampled c.rx high)) (with_rx c (sampled c.rx high)) (finished c (sampled c.rx high))

unfoldable pub core_after : BusState → Core → TxHb → Bool → Core
core_after bus.Idle c hb high = idle_tick c high
core_after bus.Rx c hb high = rx_core c high
core_after bus.Tx c hb high = tx_tick c hb high
core_after bus.CollisionTx c hb high = collision_tick c high

module _ (c : Core) (a : AnyOf c) where
  -- ---- Idle
  module _ (i : InIdle c.runs c.bus c.told.rx_state) (e : c.bus.bus_state ≡ bus.Idle) where
    idle_good : (high : Bool) → Good (idle_tick (runs_counted c high) high)
    unfolding idle_tick silent fell runs_counted pick In entered sampled high_run is_receiving
    idle_good true = record {
      any = heard_any c true a;
      state = rw e (record { receiving = i.receiving; released = i.released; busy = i.busy; debounce = omega arith; fell = λ h. absurd (not-suc-le-zero h); counted = up _ _ i.counted });
    }
    idle_good false =
        let lows : ℕ = min (c.bus.rx_debounce + 1) 255 in
        cases Good (ltb lows 2)
        (λ few. record {
          any = heard_any c false a;
          state = rw e (record { receiving = i.receiving; released = i.released; busy = i.busy; debounce = le_one (ltb-true lows 2 few); fell = λ h. refl; counted = omega arith });
        })
        (λ two. record {
          any = heard_any c false a;
          state = record { receiving = refl; released = i.released; busy = i.busy; debouncing = from_two (ltb-false lows 2 two); idle = refl; short = omega arith; bits = omega arith; place = omega arith; enough = λ h. omega arith };
        })
      where
        le_one : {n : ℕ} → n < 2 → n ≤ 1
        le_one h = omega (arith, h)

        from_two : {n : ℕ} → 2 ≤ n → 0 < n
        from_two h = omega (arith, h)

  -- ---- Rx
  module _ (i : InRx c.runs c.bus c.rx c.told.rx_state) (e : c.bus.bus_state ≡ bus.Rx) where
    pub rx_good : (high : Bool) → Good (rx_core (runs_counted c high) high)
    unfolding runs_counted finished In is_receiving
    rx_good high =
        let r : Rx = sampled c.rx high in
        let k : Sampled high c.rx.rx_idle r = sampled_keeps c.rx high i.bits i.place i.enough in
        cases Good (goes_on r)
        (λ few. record {
          any = heard_any c high a;
          state = rw e (record {
            receiving = i.receiving;
            released = i.released;
            busy = i.busy;
            debouncing = i.debouncing;
            idle = k.run ∙ runs_agree high _ _ i.idle i.short ∙ sym (heard_high c high);
            short = below (ltb-true r.rx_idle 16 few);
            bits = k.bits;
            place = k.place;
            enough = k.enough;
          });
        })
        (λ done. idled_good _ (record { any = heard_any c high a; receiving = refl }))
      where
        below : {n : ℕ} → n < 16 → n ≤ 15
        below h = omega (arith, h)

    -- a capture that is whole counts 3 to 64 bytes
    pub whole : (high : Bool) → goes_on (sampled c.rx high) ≡ false → (3 ≤ min ((sampled c.rx high).rx_pos + 1) 65535) × (min ((sampled c.rx high).rx_pos + 1) 65535 ≤ 64)
    whole high done =
        let r : Rx = sampled c.rx high in
        let k : Sampled high c.rx.rx_idle r = sampled_keeps c.rx high i.bits i.place i.enough in
        counts r.rx_pos r.rx_idle r.rx_bit_cnt (ltb-false r.rx_idle 16 done) k.bits k.place k.enough (dec_lt r.rx_pos 63)
      where
        counts : (at idle bits : ℕ) → 16 ≤ idle → bits ≤ 7 → at ≤ 63 → (at < 63 → idle + 2 ≤ at * 8 + bits) → Dec (at < 63) → (3 ≤ min (at + 1) 65535) × (min (at + 1) 65535 ≤ 64)
        counts at idle bits long few place enough (yes below) = (omega (arith, long, few, enough below), omega (arith, place))
        counts at idle bits long few place enough (no last) = (omega (arith, place, last), omega (arith, place))

  -- ---- Tx
  module _ (i : InTx c.bus.tx_busy c.told) (e : c.bus.bus_state ≡ bus.Tx) (hb : TxHb) where
    no_collision : 0 < c.told.tx_collision → ⊥
    no_collision h = omega (arith, h, i.clear)

    step_good : (high : Bool) (x : Step) → (x ≡ Yield → high ≡ false) → Good (after_step x (runs_counted c high))
    unfolding after_step armed yielded clashed held driven runs_counted In
    step_good high Arm low = record { any = heard_any c high a; state = rw e i }
    step_good high Yield low =
        first_low _ (heard_low c high (low refl))
        (record { any = record { one_run = (heard_any c high a).one_run; collisions = a.collisions; either = λ h. absurd (no_collision h) }; receiving = i.receiving })
    step_good high End low = idled_good _ (record { any = heard_any c high a; receiving = i.receiving })
    step_good high Clash low = record {
      any = record { one_run = (heard_any c high a).one_run; collisions = rw i.clear (omega arith); either = λ h. i.unyielded };
      state = record { receiving = i.receiving; busy = i.busy; unmarked = refl; unyielded = i.unyielded };
    }
    step_good high Hold low = record { any = heard_any c high a; state = rw e i }
    step_good high (Drive out) low = record { any = heard_any c high a; state = rw e i }

    tx_good : (high : Bool) → Good (tx_tick (runs_counted c high) hb high)
    unfolding tx_tick
    tx_good high = step_good high (tx_step (runs_counted c high).tx (runs_counted c high).collision_policy hb high) (yields_low _ _ hb high)

  -- ---- Collision
  module _ (i : InBreak c.bus.tx_busy c.told) (e : c.bus.bus_state ≡ bus.CollisionTx) where
    break_good : (high : Bool) → Good (collision_tick (runs_counted c high) high)
    unfolding collision_tick broke runs_counted In
    break_good high =
        cases Good (leb 14 ((c.tx.tx_sp_cnt + 1) % 256))
        (λ over. cases Good high
        (λ _. idled_good _ (record { any = heard_any c high a; receiving = i.receiving }))
        (λ low. first_low _ (heard_low c high low) (record { any = heard_any c high a; receiving = i.receiving })))
        (λ _. record { any = heard_any c high a; state = rw e i })

-- ---- any tick
pub act_good : (b : BusState) (c : Core) (hb : TxHb) (high : Bool) → c.bus.bus_state ≡ b → Good c → Good (core_after b (runs_counted c high) hb high)
unfolding core_after In
act_good bus.Idle c hb high e g = idle_good c g.any (in_state c g e) e high
act_good bus.Rx c hb high e g = rx_good c g.any (in_state c g e) e high
act_good bus.Tx c hb high e g = tx_good c g.any (in_state c g e) e hb high
act_good bus.CollisionTx c hb high e g = break_good c g.any (in_state c g e) e high
