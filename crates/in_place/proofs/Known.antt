-- What the functions that a tick in place calls answer, each at any good values. Assumes what the kit's walks assume (`Logic`).
use Prim.Native.Nat.{min}
use mathlib.Core.List.{[], ◌∷◌}
use seplogic.Ra.Ura.{Ura}
use prog.Wp.{Calls}
use types.Logic.{Logic}
use Rattle.walk.proofs.Answers.{Computes}
use Rattle.capture.specs.Samples.{with_byte}
use Rattle.machine.specs.Runs.{runs_counted}
use Rattle.machine.specs.Idle.{silent, idle_tick}
use Rattle.machine.specs.Sending.{tx_step, is_hold, tx_tick, held as held_half_bit}
use Rattle.machine.specs.Collision.{collision_tick}
use Rattle.machine.proofs.Core.count_runs.Symbol as count_runs_code
use Rattle.machine.proofs.Core.count_idle.Symbol as count_idle_code
use Rattle.machine.proofs.Core.tick_idle.Symbol as tick_idle_code
use Rattle.machine.proofs.Core.holds.Symbol as holds_code
use Rattle.machine.proofs.Core.hold_half_bit.Symbol as hold_half_bit_code
use Rattle.machine.proofs.Core.tick_tx.Symbol as tick_tx_code
use Rattle.machine.proofs.Core.tick_collision_tx.Symbol as tick_collision_tx_code
use Rattle.fsm.proofs.fill.Symbol as fill_code
use Rattle.fsm.proofs.sample.Symbol as sample_code
use Rattle.fsm.proofs.end_rx.Symbol as end_rx_code
use Rattle.fsm.proofs.with_end.Symbol as with_end_code
use Rattle.fsm.proofs.DaliBitbangPhy.finish_rx_and_notify.Symbol as finish_code
use Rattle.fsm.specs.Rx.{shifted, sampled, finished, notified}
use Rattle.in_place.proofs.Values.{level_data, Station, core_data, rx_data, hb_data, bytes_data}

module _ {M : Type 1} {𝓤 : Ura M} (𝓛 : Logic 𝓤) where
  open 𝓛 use {H}

  pub record Known (C : Calls 𝓤 H) : Type 2 where
    pub count_runs : Computes C count_runs_code.name (core_data 𝓛 ∷ level_data 𝓛 ∷ []) (core_data 𝓛) (λ a. runs_counted a.0 a.1.0)
    pub count_idle : Computes C count_idle_code.name (core_data 𝓛 ∷ []) (core_data 𝓛) (λ a. silent a.0)
    pub tick_idle : Computes C tick_idle_code.name (core_data 𝓛 ∷ level_data 𝓛 ∷ []) (core_data 𝓛) (λ a. idle_tick a.0 a.1.0)
    pub holds : Computes C holds_code.name (core_data 𝓛 ∷ hb_data 𝓛 ∷ level_data 𝓛 ∷ []) (level_data 𝓛) (λ a. is_hold (tx_step a.0.tx a.0.collision_policy a.1.0 a.1.1.0))
    pub hold_half_bit : Computes C hold_half_bit_code.name (core_data 𝓛 ∷ []) (core_data 𝓛) (λ a. held_half_bit a.0)
    pub tick_tx : Computes C tick_tx_code.name (core_data 𝓛 ∷ hb_data 𝓛 ∷ level_data 𝓛 ∷ []) (core_data 𝓛) (λ a. tx_tick a.0 a.1.0 a.1.1.0)
    pub tick_collision_tx : Computes C tick_collision_tx_code.name (core_data 𝓛 ∷ level_data 𝓛 ∷ []) (core_data 𝓛) (λ a. collision_tick a.0 a.1.0)
    pub fill : Computes C fill_code.name (bytes_data 𝓛 ∷ rx_data 𝓛 ∷ level_data 𝓛 ∷ []) (bytes_data 𝓛) (λ a. with_byte a.0 (min a.1.0.rx_pos 63) (shifted a.1.0 a.1.1.0))
    pub sample : Computes C sample_code.name (rx_data 𝓛 ∷ level_data 𝓛 ∷ []) (rx_data 𝓛) (λ a. sampled a.0 a.1.0)
    pub end_rx : Computes C end_rx_code.name (core_data 𝓛 ∷ rx_data 𝓛 ∷ []) (core_data 𝓛) (λ a. finished a.0 a.1.0)
    pub with_end : Computes C with_end_code.name (bytes_data 𝓛 ∷ rx_data 𝓛 ∷ []) (bytes_data 𝓛) (λ a. with_byte a.0 a.1.0.rx_pos 255)
    pub finish : Computes C finish_code.name (Station 𝓛 ∷ core_data 𝓛 ∷ bytes_data 𝓛 ∷ []) (Station 𝓛) (λ a. notified a.0 a.1.0 a.1.1.0)
