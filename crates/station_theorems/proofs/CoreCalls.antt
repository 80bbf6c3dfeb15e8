-- Starts, and the calls that take what is told, keep what is so of a core. Assumes nothing.
use Prim.Native.Nat.{ℕ, ◌≤◌}
use native.Mathlib.Omega.{arith}
use mathlib.Core.Bool.{Bool, true, false, false≢true}
use mathlib.Core.Path.{◌≡◌, refl, sym, ap, ◌∙◌}
use Rattle.machine.specs.declared.BusState.{BusState}
use Rattle.machine.specs.declared.BusState.TheVariants as bus
use Rattle.machine.specs.declared.Core.{Core}
use Rattle.machine.specs.declared.RxState.TheVariants.{Empty, Completed}
use Rattle.machine.specs.Fields.{with_rx_state, with_tx_collision, with_tx_idle_after_break, with_tx_yielded}
use Rattle.machine.specs.Sending.{yielded}
use Rattle.machine.specs.Starting.{loaded}
use Rattle.station_theorems.specs.Invariants.{is_receiving}
use Rattle.station_theorems.proofs.Cores.{AnyOf, In, InOf, Good}

-- ---- a start
pub loaded_good : (c : Core) (answer : Bool) → AnyOf c → Good (loaded c answer)
unfolding loaded In is_receiving
loaded_good c answer a = record {
  any = record { one_run = a.one_run; collisions = omega arith; either = λ h. refl };
  state = record { receiving = refl; busy = refl; unmarked = refl; clear = refl; unyielded = refl };
}

-- ---- what is told
-- the marks that calls clear, and the mark of a capture
abbrev pub telling : Core → ℕ → Bool → Bool → Core
telling c collision idle yielded = with_tx_yielded (with_tx_idle_after_break (with_tx_collision c collision) idle) yielded

-- marks that are cleared or stay
stays_false : (x y : Bool) → (x ≡ true → y ≡ true) → y ≡ false → x ≡ false
stays_false true y h e = absurd (false≢true (sym e ∙ h refl))
stays_false false y h e = refl

module _ (c : Core) (g : Good c) where
  module _ (k : ℕ) (m y : Bool) (fewer : k ≤ c.told.tx_collision) (mark : m ≡ true → c.told.tx_idle_after_break ≡ true) (yield : y ≡ true → c.told.tx_yielded ≡ true) where
    none : c.told.tx_collision ≡ 0 → k ≡ 0
    none e = omega (arith, e, fewer)

    told_in : (b : BusState) → InOf b c → InOf b (telling c k m y)
    unfolding In
    told_in bus.Idle i = i
    told_in bus.Rx i = i
    told_in bus.Tx i = record { receiving = i.receiving; busy = i.busy; unmarked = stays_false m _ mark i.unmarked; clear = none i.clear; unyielded = stays_false y _ yield i.unyielded }
    told_in bus.CollisionTx i = record { receiving = i.receiving; busy = i.busy; unmarked = stays_false m _ mark i.unmarked; unyielded = stays_false y _ yield i.unyielded }

    pub telling_good : Good (telling c k m y)
    telling_good = record {
      any = record { one_run = g.any.one_run; collisions = omega (arith, fewer, g.any.collisions); either = λ h. stays_false y _ yield (g.any.either (omega (arith, h, fewer))) };
      state = told_in c.bus.bus_state g.state;
    }

  module _ (done : c.told.rx_state ≡ Completed) where
    taken_in : (b : BusState) → InOf b c → InOf b (with_rx_state c Empty)
    unfolding In is_receiving
    taken_in bus.Idle i = record { receiving = refl; released = i.released; busy = i.busy; debounce = i.debounce; fell = i.fell; counted = i.counted }
    taken_in bus.Rx i = absurd (false≢true (sym (ap is_receiving done) ∙ i.receiving))
    taken_in bus.Tx i = record { receiving = refl; busy = i.busy; unmarked = i.unmarked; clear = i.clear; unyielded = i.unyielded }
    taken_in bus.CollisionTx i = record { receiving = refl; busy = i.busy; unmarked = i.unmarked; unyielded = i.unyielded }

    pub taken_good : Good (with_rx_state c Empty)
    taken_good = record { any = g.any; state = taken_in c.bus.bus_state g.state }
