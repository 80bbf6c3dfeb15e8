-- What the private function promises. No public promise cites this file. Assumes nothing.
use Rattle.event.specs.declared.IsrDecode.TheVariants.{Decoded}
use Rattle.event.specs.declared.RxCompletedEvent.{RxCompletedEvent}
use Rattle.std.specs.Prelude.{Option}
use Rattle.window.specs.declared.PhaseDecode.{PhaseDecode}
use Rattle.bench_text.specs.declared.Capture.{Capture}
use Rattle.bench_reading.specs.Reading.{event_for}

-- the event of a capture, which holds what a finished search found
unfoldable pub held_event : Capture → Option PhaseDecode → RxCompletedEvent
held_event capture found =
    let event = event_for capture in
    record {
      samples = event.samples;
      sample_count = event.sample_count;
      pre_idle_ticks = event.pre_idle_ticks;
      rx_epoch = event.rx_epoch;
      rx_tick = event.rx_tick;
      max_sample_gap_us = event.max_sample_gap_us;
      timing_degraded = event.timing_degraded;
      sniff_seq = event.sniff_seq;
      isr_decode = Decoded found;
    }
