-- Document 01, "Machine": becoming Idle. Assumes nothing.
use Rattle.std.specs.Prelude.{true, false}
use Rattle.machine.specs.Fields.{with_bus}
use Rattle.machine.specs.declared.BusState.TheVariants.{Idle}
use Rattle.machine.specs.declared.Core.{Core}

-- The station takes the current high run for its idle count, clears the debounce, releases the line and is no longer busy.
unfoldable pub idled : Core → Core
idled c = with_bus c (record {
  idlecnt = c.runs.high_run_ticks;
  bus_state = Idle;
  rx_debounce = 0;
  driven_high = true;
  tx_busy = false;
})
