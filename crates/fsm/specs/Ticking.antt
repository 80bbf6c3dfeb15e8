-- Document 01, "Machine": a tick of a station. Assumes nothing.
use Rattle.std.specs.Prelude.{Bool}
use Rattle.machine.specs.Runs.{runs_counted}
use Rattle.machine.specs.Idle.{idle_tick}
use Rattle.machine.specs.Sending.{tx_tick}
use Rattle.machine.specs.Collision.{collision_tick}
use Rattle.machine.specs.declared.BusState.{BusState}
use Rattle.machine.specs.declared.BusState.TheVariants as bus
use Rattle.machine.specs.declared.Core.{Core}
use Rattle.fsm.specs.Station.{with_core}
use Rattle.fsm.specs.Rx.{rx_tick}
use Rattle.fsm.specs.declared.DaliBitbangPhy.{DaliBitbangPhy}
use Rattle.fsm.specs.declared.Ticked.{Ticked}

-- The core `c` has counted its runs, and now the station acts by its state. Only Rx writes to a capture.
unfoldable pub tick_in : BusState → DaliBitbangPhy → Core → Bool → DaliBitbangPhy
tick_in bus.Idle s c high = with_core s (idle_tick c high)
tick_in bus.Rx s c high = rx_tick s c high
tick_in bus.Tx s c high = with_core s (tx_tick c s.tx_hb high)
tick_in bus.CollisionTx s c high = with_core s (collision_tick c high)

-- A tick counts both runs, and then acts.
unfoldable pub tick_of : DaliBitbangPhy → Bool → DaliBitbangPhy
tick_of s high = tick_in s.core.bus.bus_state s (runs_counted s.core high) high

-- A tick gives back the station and the level that it drives then. If the tick sets none, that is the level from before.
unfoldable pub ticked : DaliBitbangPhy → Bool → Ticked
ticked s high = record { station = tick_of s high; driven_high = (tick_of s high).core.bus.driven_high }
