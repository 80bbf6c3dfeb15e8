-- Document 01, "Machine": a start call that isn't refused. Assumes nothing.
use Rattle.std.specs.Prelude.{Bool, true, false}
use Rattle.machine.specs.Fields.{with_told, with_tx, with_bus_state, with_tx_busy}
use Rattle.machine.specs.declared.BusState.TheVariants.{Tx}
use Rattle.machine.specs.declared.RxState.TheVariants.{Empty}
use Rattle.machine.specs.declared.Core.{Core}

-- The station clears what a poll would report, the after-break mark, and the mark of a capture that nobody has taken. It records the idle count,
-- keeps its debounce, and is armed for three ticks.
unfoldable pub loaded : Core → Bool → Core
loaded c answer =
    with_tx
    (with_told (with_tx_busy (with_bus_state c Tx) true) (record {
      tx_pre_idle = c.bus.idlecnt;
      rx_state = Empty;
      tx_collision = 0;
      tx_idle_after_break = false;
      tx_yielded = false;
    }))
    (record {
      tx_hb_cnt = 0;
      tx_sp_cnt = 0;
      tx_high = c.tx.tx_high;
      tx_armed = 3;
      tx_answer = answer;
    })
