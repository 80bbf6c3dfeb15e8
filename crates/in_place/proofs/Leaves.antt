-- What each way through a tick in place leaves is what a tick leaves; and where a way stores one group of the core, no other changes. Assumes nothing.
use Prim.Native.Nat.{min}
use mathlib.Core.Bool.{Bool, true, false}
use mathlib.Core.Path.{◌≡◌, refl, sym, ap, ◌∙◌}
use Rattle.laws.proofs.Picked.{on_true, on_false}
use Rattle.capture.specs.declared.Samples.{Samples}
use Rattle.capture.specs.Samples.{with_byte}
use Rattle.machine.specs.Fields.{with_tx, with_runs, with_bus, with_rx}
use Rattle.machine.specs.Runs.{runs_counted}
use Rattle.machine.specs.Idle.{silent, idle_tick}
use Rattle.machine.specs.Sending.{Step, tx_step, is_hold, after_step, tx_tick, held}
use Rattle.machine.proofs.Holding.{is_hold_lem}
use Rattle.machine.specs.Collision.{collision_tick}
use Rattle.machine.specs.declared.BusState.{BusState}
use Rattle.machine.specs.declared.BusState.TheVariants as bus
use Rattle.machine.specs.declared.Core.{Core}
use Rattle.machine.specs.declared.Rx.{Rx}
use Rattle.fsm.specs.declared.DaliBitbangPhy.{DaliBitbangPhy}
use Rattle.fsm.specs.declared.Ticked.{Ticked}
use Rattle.fsm.specs.Station.{with_core, with_rx_data}
use Rattle.fsm.specs.Rx.{shifted, eighth, sampled, filled, goes_on, finished, notified, went_on, rx_tick}
use Rattle.fsm.specs.Ticking.{tick_in, ticked}
use Rattle.fsm.proofs.Ticks.{acted}

-- a station, and the level that it drives
abbrev pub driving : DaliBitbangPhy → Ticked
driving t = record { station = t; driven_high = t.core.bus.driven_high }

-- ---- the one group that changes
pub counts_bus : (c : Core) → silent c ≡ with_bus c (silent c).bus
unfolding silent
counts_bus c = refl

pub holds_tx : (c : Core) → held c ≡ with_tx c (held c).tx
unfolding held
holds_tx c = refl

module _ (s : DaliBitbangPhy) (high : Bool) where
  -- the core that has counted its runs
  abbrev pub hears : Core
  hears = runs_counted s.core high

  pub hears_runs : hears ≡ with_runs s.core hears.runs
  unfolding runs_counted
  hears_runs = refl

  -- and the station that has it
  abbrev pub hearing : DaliBitbangPhy
  hearing = with_core s hears

  abbrev Is : BusState → Type 0
  Is x = hears.bus.bus_state ≡ x

  leaves : (x : BusState) → Is x → (t : DaliBitbangPhy) → t ≡ tick_in x s hears high → driving t ≡ ticked s high
  leaves x e t d = acted s high hears t refl (d ∙ ap (λ (y : BusState). tick_in y s hears high) (sym e))

  pub counts : high ≡ true → Is bus.Idle → driving (with_core s (silent hears)) ≡ ticked s high
  unfolding tick_in idle_tick
  counts up e = leaves bus.Idle e _ (ap (with_core s) (sym (on_true up _ _)))

  pub falls : high ≡ false → Is bus.Idle → driving (with_core s (idle_tick hears false)) ≡ ticked s high
  unfolding tick_in
  falls down e = leaves bus.Idle e _ (ap (λ (h : Bool). with_core s (idle_tick hears h)) (sym down))

  pub holds : Is bus.Tx → is_hold (tx_step hears.tx hears.collision_policy s.tx_hb high) ≡ true → driving (with_core s (held hears)) ≡ ticked s high
  unfolding tick_in tx_tick after_step
  holds e more = leaves bus.Tx e _ (ap (λ (x : Step). with_core s (after_step x hears)) (sym (is_hold_lem _ more)))

  pub sends : Is bus.Tx → driving (with_core s (tx_tick hears s.tx_hb high)) ≡ ticked s high
  unfolding tick_in
  sends e = leaves bus.Tx e _ refl

  pub breaks : Is bus.CollisionTx → driving (with_core s (collision_tick hears high)) ≡ ticked s high
  unfolding tick_in
  breaks e = leaves bus.CollisionTx e _ refl

  -- ---- Rx: where the capture stands after the sample, and what it then is
  abbrev pub rx_heard : Rx
  rx_heard = sampled hears.rx high

  abbrev pub data_of : Samples
  data_of = filled s.rx_data hears.rx high

  -- with the byte that the sample completes
  abbrev pub with_eighth : Samples
  with_eighth = with_byte s.rx_data (min hears.rx.rx_pos 63) (shifted hears.rx high)

  pub fills : eighth hears.rx ≡ true → with_eighth ≡ data_of
  unfolding filled
  fills e = sym (on_true e _ _)

  pub keeps : eighth hears.rx ≡ false → s.rx_data ≡ data_of
  unfolding filled
  keeps e = sym (on_false e _ _)

  -- the capture with its end, and the station that has its event
  abbrev pub ended_bytes : Samples → Samples
  ended_bytes bytes = with_byte bytes rx_heard.rx_pos 255

  abbrev pub captured : Samples → DaliBitbangPhy
  captured bytes = notified (with_rx_data hearing bytes) (finished hears rx_heard) (ended_bytes bytes)

  -- its core is that of the capture's end
  pub captured_core : (bytes : Samples) → (captured bytes).core ≡ finished hears rx_heard
  unfolding notified
  captured_core bytes = refl

  module _ (e : Is bus.Rx) (bytes : Samples) (same : bytes ≡ data_of) where
    pub goes_on_lem : goes_on rx_heard ≡ true → driving (with_core (with_rx_data s bytes) (with_rx hears rx_heard)) ≡ ticked s high
    unfolding tick_in rx_tick went_on
    goes_on_lem g = leaves bus.Rx e _ (ap (λ (x : Samples). with_core (with_rx_data s x) (with_rx hears rx_heard)) same ∙ sym (on_true g _ _))

    pub ends : goes_on rx_heard ≡ false → driving (captured bytes) ≡ ticked s high
    unfolding tick_in rx_tick went_on notified
    ends g = leaves bus.Rx e _ (ap (λ (x : Samples). notified s (finished hears rx_heard) (ended_bytes x)) same ∙ sym (on_false g _ _))
