-- The invariants of reached stations (specs/Invariants). Assumes nothing.
use Prim.Native.Nat.{◌≤◌}
use mathlib.Core.Bool.{true, not, false≢true}
use mathlib.Core.Path.{◌≡◌, refl, sym, subst, ◌∙◌}
use Rattle.machine.specs.declared.BusState.{BusState}
use Rattle.machine.specs.declared.BusState.TheVariants as bus
use Rattle.machine.specs.declared.Core.{Core}
use Rattle.machine.specs.States.{is_rx, hears}
use Rattle.station_theorems.specs.Invariants.{is_receiving, Invariants}
use Rattle.station_theorems.proofs.Cores.{Good, In, InOf, InIdle, InRx, in_state}
use Rattle.station_theorems.proofs.Stations.{Whole, reached_whole}

module _ (c : Core) (g : Good c) where
  in_idle : c.bus.bus_state ≡ bus.Idle → InIdle c.runs c.bus c.told.rx_state
  unfolding In
  in_idle e = in_state c g e

  in_rx : c.bus.bus_state ≡ bus.Rx → InRx c.runs c.bus c.rx c.told.rx_state
  unfolding In
  in_rx e = in_state c g e

module _ (c : Core) where
  receiving : (b : BusState) → InOf b c → is_receiving c.told.rx_state ≡ is_rx b
  unfolding In is_rx
  receiving bus.Idle i = i.receiving
  receiving bus.Rx i = i.receiving
  receiving bus.Tx i = i.receiving
  receiving bus.CollisionTx i = i.receiving

  released : (b : BusState) → InOf b c → hears b ≡ true → c.bus.driven_high ≡ true
  unfolding In hears
  released bus.Idle i h = i.released
  released bus.Rx i h = i.released
  released bus.Tx i h = absurd (false≢true h)
  released bus.CollisionTx i h = absurd (false≢true h)

  busy : (b : BusState) → InOf b c → c.bus.tx_busy ≡ not (hears b)
  unfolding In hears
  busy bus.Idle i = i.busy
  busy bus.Rx i = i.busy
  busy bus.Tx i = i.busy
  busy bus.CollisionTx i = i.busy

  marked : (b : BusState) → InOf b c → c.told.tx_idle_after_break ≡ true → hears b ≡ true
  unfolding In hears
  marked bus.Idle i m = refl
  marked bus.Rx i m = refl
  marked bus.Tx i m = absurd (false≢true (sym i.unmarked ∙ m))
  marked bus.CollisionTx i m = absurd (false≢true (sym i.unmarked ∙ m))

pub invariants : Invariants
invariants s r =
    let w : Whole s = reached_whole s r in
    let g : Good s.core = w.core in
    record {
      receiving = receiving s.core s.core.bus.bus_state g.state;
      released = released s.core s.core.bus.bus_state g.state;
      busy = busy s.core s.core.bus.bus_state g.state;
      debounce = λ e. (in_idle s.core g e).debounce;
      fell = λ e. (in_idle s.core g e).fell;
      debouncing = λ e. (in_rx s.core g e).debouncing;
      short = λ e. subst (λ (n : _). n ≤ 15) (in_rx s.core g e).idle (in_rx s.core g e).short;
      counted = λ e. (in_idle s.core g e).counted;
      one_run = g.any.one_run;
      marked = marked s.core s.core.bus.bus_state g.state;
      collisions = g.any.collisions;
      either = g.any.either;
      loads = w.loads;
      count_from = λ e. (w.counts e).0;
      count_to = λ e. (w.counts e).1;
    }
