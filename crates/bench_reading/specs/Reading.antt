-- Document 01, "The bench reader": what the bench reads of a capture. Assumes nothing.
use Rattle.std.specs.Prelude.{Bool, true, false}
use Rattle.lengths.specs.Lengths.{sniffed_lengths}
use Rattle.window.specs.Window.{window_of}
use Rattle.search.specs.declared.SearchAnswer.{SearchAnswer}
use Rattle.search.specs.Search.{new_of, run_of}
use Rattle.event.specs.declared.RxCompletedEvent.{RxCompletedEvent}
use Rattle.event.specs.Event.{event_of}
use Rattle.rx_decode.specs.declared.SniffedFrame.{SniffedFrame}
use Rattle.rx_decode.specs.declared.SniffedFrame.TheVariants.{Forward16, Backward8, Forward24, UnsupportedLength, DecodeFailed}
use Rattle.rx_decode.specs.Reading.{found_in, sniffed_of, low_run_of}
use Rattle.bench_text.specs.declared.Capture.{Capture}
use Rattle.bench_reading.specs.declared.Reading.{Reading}

-- the event of a capture: its samples, its count and the silence before it
unfoldable pub event_for : Capture → RxCompletedEvent
event_for capture = event_of capture.samples capture.count capture.silence

-- the search of a capture, with the lengths 8, 16 and 24 preferred
unfoldable pub search_of : Capture → SearchAnswer
search_of capture = run_of (new_of sniffed_lengths) (window_of capture.samples capture.count)

-- the sniffed reading of the capture, its longest low run in ticks, and the steps of its search
unfoldable pub reading_of : Capture → Reading
reading_of capture =
    record {
      decode = sniffed_of (found_in (event_for capture));
      low_run = low_run_of (event_for capture);
      steps = (search_of capture).steps;
    }

-- Frames of 8, 16 and 24 bits are decoded. Another length and a failed reading are not.
unfoldable pub is_frame : SniffedFrame → Bool
is_frame (Backward8 byte) = true
is_frame (Forward16 word) = true
is_frame (Forward24 first second third) = true
is_frame (UnsupportedLength bits) = false
is_frame DecodeFailed = false

abbrev pub is_decoded : Reading → Bool
is_decoded reading = is_frame reading.decode.frame
