-- Document 01, "Machine", Idle: high ticks, low ticks, and the way into Rx. Assumes nothing.
use Rattle.std.specs.Prelude.{◌+◌, min, Bool, ltb}
use Rattle.laws.specs.Pick.{pick}
use Rattle.machine.specs.Fields.{with_rx, with_idlecnt, with_bus_state, with_rx_debounce, with_rx_state}
use Rattle.machine.specs.declared.BusState.TheVariants as bus
use Rattle.machine.specs.declared.RxState.TheVariants.{Receiving}
use Rattle.machine.specs.declared.Core.{Core}

-- Rx begins. The station keeps the idle count as the silence before the capture, up to 255 ticks. It replays two low samples, this tick's among them,
-- so the first byte has two samples, both low. (`ReplaysTwoLows` in fsm says that two samples of Rx come to the same.)
unfoldable pub entered : Core → Core
entered c =
    with_rx_state
    (with_rx (with_bus_state c bus.Rx) (record {
      rx_pos = 0;
      rx_byte = 0;
      rx_bit_cnt = 2;
      rx_idle = 0;
      rx_pre_idle = min c.bus.idlecnt 255;
    }))
    Receiving

-- A high tick adds one to the idle count, up to 65,535, and clears the debounce.
unfoldable pub silent : Core → Core
silent c = with_rx_debounce (with_idlecnt c (min (c.bus.idlecnt + 1) 65535)) 0

-- A low tick adds one to the debounce, up to 255, and leaves the idle count as it is.
unfoldable pub fell : Core → Core
fell c = with_rx_debounce c (min (c.bus.rx_debounce + 1) 255)

-- The first low tick only counts in the debounce. The second one running starts Rx.
unfoldable pub idle_tick : Core → Bool → Core
idle_tick c high = pick high (silent c) (pick (ltb (fell c).bus.rx_debounce 2) (fell c) (entered (fell c)))
