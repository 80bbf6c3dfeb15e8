-- Document 01, "Machine": what holds of every reached station. Assumes nothing.
use Rattle.std.specs.Prelude.{◌≤◌, ◌<◌, Bool, true, false, not, ◌≡◌}
use Rattle.machine.specs.declared.BusState.TheVariants as bus
use Rattle.machine.specs.declared.RxState.{RxState}
use Rattle.machine.specs.declared.RxState.TheVariants.{Empty, Receiving, Completed}
use Rattle.fsm.specs.declared.DaliBitbangPhy.{DaliBitbangPhy}
use Rattle.fsm.specs.Station.{last_count}
use Rattle.machine.specs.States.{is_rx, hears}
use Rattle.station_theorems.specs.Calls.{Reached}

-- whether `rx_state` is Receiving
unfoldable pub is_receiving : RxState → Bool
is_receiving Empty = false
is_receiving Receiving = true
is_receiving Completed = false

-- the invariants of a station
pub record Holds (s : DaliBitbangPhy) : Type 0 where
  -- `rx_state` is Receiving exactly in Rx.
  pub receiving : is_receiving s.core.told.rx_state ≡ is_rx s.core.bus.bus_state
  -- A station in Idle or Rx leaves the line high.
  pub released : hears s.core.bus.bus_state ≡ true → s.core.bus.driven_high ≡ true
  -- The station is busy exactly in Tx and Collision.
  pub busy : s.core.bus.tx_busy ≡ not (hears s.core.bus.bus_state)
  -- In Idle the debounce is at most 1. While it is 1, the high run is 0.
  pub debounce : s.core.bus.bus_state ≡ bus.Idle → s.core.bus.rx_debounce ≤ 1
  pub fell : s.core.bus.bus_state ≡ bus.Idle → 0 < s.core.bus.rx_debounce → s.core.runs.high_run_ticks ≡ 0
  -- In Rx the station goes on debouncing.
  pub debouncing : s.core.bus.bus_state ≡ bus.Rx → 0 < s.core.bus.rx_debounce
  -- In Rx fewer than sixteen high ticks are running.
  pub short : s.core.bus.bus_state ≡ bus.Rx → s.core.runs.high_run_ticks ≤ 15
  -- In Idle the idle count is at least the high run.
  pub counted : s.core.bus.bus_state ≡ bus.Idle → s.core.runs.high_run_ticks ≤ s.core.bus.idlecnt
  -- While high ticks are running, the low run is 0.
  pub one_run : 0 < s.core.runs.high_run_ticks → s.core.runs.low_run_ticks ≡ 0
  -- The after-break mark is set only in Idle and Rx.
  pub marked : s.core.told.tx_idle_after_break ≡ true → hears s.core.bus.bus_state ≡ true
  -- At most one collision waits to be told, and no yield waits beside it.
  pub collisions : s.core.told.tx_collision ≤ 1
  pub either : 0 < s.core.told.tx_collision → s.core.told.tx_yielded ≡ false
  -- The station has loaded no length over 54.
  pub loads : s.tx_hb.tx_hb_len ≤ 54
  -- The count of a capture that can be taken is 3 to 64.
  pub count_from : s.core.told.rx_state ≡ Completed → 3 ≤ last_count s
  pub count_to : s.core.told.rx_state ≡ Completed → last_count s ≤ 64

-- The invariants hold after any calls from a new station.
abbrev pub Invariants : Type 0
Invariants = (s : DaliBitbangPhy) → Reached s → Holds s
