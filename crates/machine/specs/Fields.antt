-- A core with one of its groups, or one field of a group, changed. Nothing else changes. Assumes nothing.
use Rattle.std.specs.Prelude.{ℕ, Bool}
use Rattle.machine.specs.declared.BusState.{BusState}
use Rattle.machine.specs.declared.RxState.{RxState}
use Rattle.machine.specs.declared.CollisionPolicy.{CollisionPolicy}
use Rattle.machine.specs.declared.Runs.{Runs}
use Rattle.machine.specs.declared.Bus.{Bus}
use Rattle.machine.specs.declared.Rx.{Rx}
use Rattle.machine.specs.declared.Told.{Told}
use Rattle.machine.specs.declared.Tx.{Tx}
use Rattle.machine.specs.declared.Core.{Core}

-- ---- groups
-- a core by its groups
abbrev pub core_of : Told → CollisionPolicy → Bus → Tx → Rx → Runs → Core
core_of told policy bus tx rx runs = record {
  told = told;
  collision_policy = policy;
  bus = bus;
  tx = tx;
  rx = rx;
  runs = runs;
}

-- the core with one group changed
abbrev pub with_told : Core → Told → Core
with_told c told = core_of told c.collision_policy c.bus c.tx c.rx c.runs

abbrev pub with_policy : Core → CollisionPolicy → Core
with_policy c policy = core_of c.told policy c.bus c.tx c.rx c.runs

abbrev pub with_bus : Core → Bus → Core
with_bus c bus = core_of c.told c.collision_policy bus c.tx c.rx c.runs

abbrev pub with_tx : Core → Tx → Core
with_tx c tx = core_of c.told c.collision_policy c.bus tx c.rx c.runs

abbrev pub with_rx : Core → Rx → Core
with_rx c rx = core_of c.told c.collision_policy c.bus c.tx rx c.runs

abbrev pub with_runs : Core → Runs → Core
with_runs c runs = core_of c.told c.collision_policy c.bus c.tx c.rx runs

-- ---- fields of the bus: the core with one of them changed
abbrev pub with_idlecnt : Core → ℕ → Core
with_idlecnt c ticks = with_bus c (record {
  idlecnt = ticks;
  bus_state = c.bus.bus_state;
  rx_debounce = c.bus.rx_debounce;
  driven_high = c.bus.driven_high;
  tx_busy = c.bus.tx_busy;
})

abbrev pub with_bus_state : Core → BusState → Core
with_bus_state c state = with_bus c (record {
  idlecnt = c.bus.idlecnt;
  bus_state = state;
  rx_debounce = c.bus.rx_debounce;
  driven_high = c.bus.driven_high;
  tx_busy = c.bus.tx_busy;
})

abbrev pub with_rx_debounce : Core → ℕ → Core
with_rx_debounce c lows = with_bus c (record {
  idlecnt = c.bus.idlecnt;
  bus_state = c.bus.bus_state;
  rx_debounce = lows;
  driven_high = c.bus.driven_high;
  tx_busy = c.bus.tx_busy;
})

abbrev pub with_driven_high : Core → Bool → Core
with_driven_high c high = with_bus c (record {
  idlecnt = c.bus.idlecnt;
  bus_state = c.bus.bus_state;
  rx_debounce = c.bus.rx_debounce;
  driven_high = high;
  tx_busy = c.bus.tx_busy;
})

abbrev pub with_tx_busy : Core → Bool → Core
with_tx_busy c busy = with_bus c (record {
  idlecnt = c.bus.idlecnt;
  bus_state = c.bus.bus_state;
  rx_debounce = c.bus.rx_debounce;
  driven_high = c.bus.driven_high;
  tx_busy = busy;
})

-- ---- fields of what calls report: the same
abbrev pub with_rx_state : Core → RxState → Core
with_rx_state c state = with_told c (record {
  tx_pre_idle = c.told.tx_pre_idle;
  rx_state = state;
  tx_collision = c.told.tx_collision;
  tx_idle_after_break = c.told.tx_idle_after_break;
  tx_yielded = c.told.tx_yielded;
})

abbrev pub with_tx_collision : Core → ℕ → Core
with_tx_collision c collisions = with_told c (record {
  tx_pre_idle = c.told.tx_pre_idle;
  rx_state = c.told.rx_state;
  tx_collision = collisions;
  tx_idle_after_break = c.told.tx_idle_after_break;
  tx_yielded = c.told.tx_yielded;
})

abbrev pub with_tx_idle_after_break : Core → Bool → Core
with_tx_idle_after_break c idle = with_told c (record {
  tx_pre_idle = c.told.tx_pre_idle;
  rx_state = c.told.rx_state;
  tx_collision = c.told.tx_collision;
  tx_idle_after_break = idle;
  tx_yielded = c.told.tx_yielded;
})

abbrev pub with_tx_yielded : Core → Bool → Core
with_tx_yielded c yielded = with_told c (record {
  tx_pre_idle = c.told.tx_pre_idle;
  rx_state = c.told.rx_state;
  tx_collision = c.told.tx_collision;
  tx_idle_after_break = c.told.tx_idle_after_break;
  tx_yielded = yielded;
})

-- ---- fields of the frame that the station sends: the same
abbrev pub with_tx_sp_cnt : Core → ℕ → Core
with_tx_sp_cnt c ticks = with_tx c (record {
  tx_hb_cnt = c.tx.tx_hb_cnt;
  tx_sp_cnt = ticks;
  tx_high = c.tx.tx_high;
  tx_armed = c.tx.tx_armed;
  tx_answer = c.tx.tx_answer;
})

abbrev pub with_tx_armed : Core → ℕ → Core
with_tx_armed c ticks = with_tx c (record {
  tx_hb_cnt = c.tx.tx_hb_cnt;
  tx_sp_cnt = c.tx.tx_sp_cnt;
  tx_high = c.tx.tx_high;
  tx_armed = ticks;
  tx_answer = c.tx.tx_answer;
})
