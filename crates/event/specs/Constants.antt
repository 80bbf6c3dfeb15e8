-- Document 01, "The wave", "Reading" and "Window": the public constants. Assumes nothing.
use Rattle.std.specs.Prelude.{ℕ}
use Rattle.event.specs.declared.PublicConstants.{PublicConstants}

-- A tick lasts 104 microseconds.
abbrev pub tick_us : ℕ
tick_us = 104

-- A line that is low for 24 ticks running is held. A capture has room for 64 samples.
abbrev pub public_constants : PublicConstants
public_constants = record { phy_tick_us = tick_us; line_held_ticks = 24; max_samples = 64 }
