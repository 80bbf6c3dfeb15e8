-- Document 01, "Machine": the public constants. Assumes nothing.
use Rattle.machine.specs.declared.PublicConstants.{PublicConstants}

-- The break lasts 1,200 microseconds, rounded up to whole ticks.
abbrev pub public_constants : PublicConstants
public_constants = record {
  rx_idle_line_high_ticks = 16;
  rx_start_debounce_ticks = 2;
  tx_half_bit_ticks = 4;
  tx_arm_lead_ticks = 3;
  collision_break_ticks = 12;
}
