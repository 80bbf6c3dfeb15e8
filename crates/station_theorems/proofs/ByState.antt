-- A tick in each state, and how states differ. Assumes nothing.
use mathlib.Core.Bool.{Bool, false≢true}
use mathlib.Core.Path.{◌≡◌, sym, ap, ◌∙◌}
use Rattle.laws.specs.Pick.{pick}
use Rattle.machine.specs.declared.BusState.TheVariants as bus
use Rattle.machine.specs.Runs.{runs_counted}
use Rattle.machine.specs.Idle.{idle_tick}
use Rattle.machine.specs.Sending.{Step, tx_step, after_step, tx_tick}
use Rattle.machine.specs.Collision.{collision_tick}
use Rattle.fsm.specs.declared.DaliBitbangPhy.{DaliBitbangPhy}
use Rattle.fsm.specs.Station.{with_core}
use Rattle.fsm.specs.Rx.{rx_tick}
use Rattle.fsm.specs.Ticking.{tick_in, tick_of}
use Rattle.machine.specs.States.{is_tx, is_idle}
use Rattle.station_theorems.specs.Ticks.{IsIdle, IsCapturing, IsSending, IsBreaking}

module _ (s : DaliBitbangPhy) (high : Bool) where
  pub tick_idle : IsIdle s → tick_of s high ≡ with_core s (idle_tick (runs_counted s.core high) high)
  unfolding tick_of tick_in pick
  tick_idle e = rw e

  pub tick_rx : IsCapturing s → tick_of s high ≡ rx_tick s (runs_counted s.core high) high
  unfolding tick_of tick_in pick
  tick_rx e = rw e

  pub tick_tx : IsSending s → tick_of s high ≡ with_core s (tx_tick (runs_counted s.core high) s.tx_hb high)
  unfolding tick_of tick_in pick
  tick_tx e = rw e

  pub tick_by : IsSending s → (x : Step) → tx_step s.core.tx s.core.collision_policy s.tx_hb high ≡ x
      → tick_of s high ≡ with_core s (after_step x (runs_counted s.core high))
  unfolding tx_tick runs_counted
  tick_by sending x e = tick_tx sending ∙ ap (λ (y : Step). with_core s (after_step y (runs_counted s.core high))) e

  pub tick_break : IsBreaking s → tick_of s high ≡ with_core s (collision_tick (runs_counted s.core high) high)
  unfolding tick_of tick_in pick
  tick_break e = rw e

pub sending_not_breaking : bus.Tx ≡ bus.CollisionTx → ⊥
unfolding is_tx
sending_not_breaking e = false≢true (sym (ap is_tx e))

pub idle_not_breaking : bus.Idle ≡ bus.CollisionTx → ⊥
unfolding is_idle
idle_not_breaking e = false≢true (sym (ap is_idle e))

pub idle_not_capturing : bus.Idle ≡ bus.Rx → ⊥
unfolding is_idle
idle_not_capturing e = false≢true (sym (ap is_idle e))

pub idle_not_sending : bus.Idle ≡ bus.Tx → ⊥
unfolding is_idle
idle_not_sending e = false≢true (sym (ap is_idle e))
