-- Document 01, "Window": the fresh event, and the event of a capture. Assumes nothing.
use Rattle.std.specs.Prelude.{ℕ, false, List, replicate}
use Rattle.event.specs.declared.IsrDecode.TheVariants.{NotDecoded}
use Rattle.event.specs.declared.RxCompletedEvent.{RxCompletedEvent}

-- An event has 64 sample bytes, the count, and the silence before the capture in ticks. The machine never sets the other fields.
unfoldable pub event_of : List ℕ → ℕ → ℕ → RxCompletedEvent
event_of samples count silence = record {
  samples = samples;
  sample_count = count;
  pre_idle_ticks = silence;
  rx_epoch = 0;
  rx_tick = 0;
  max_sample_gap_us = 0;
  timing_degraded = false;
  sniff_seq = 0;
  isr_decode = NotDecoded;
}

-- The fresh event is that of an empty capture without silence before it.
unfoldable pub new_event : RxCompletedEvent
new_event = event_of (replicate 64 0) 0 0
