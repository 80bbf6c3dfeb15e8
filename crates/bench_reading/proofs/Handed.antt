-- An event that is handed what a search found is read as the event that searches. Assumes nothing.
use Prim.Native.Nat.{ℕ}
use mathlib.Core.Path.{◌≡◌, refl}
use Rattle.std.specs.Prelude.{Option}
use Rattle.lengths.specs.Lengths.{sniffed_lengths}
use Rattle.window.specs.declared.SampleWindow.{SampleWindow}
use Rattle.window.specs.declared.PhaseDecode.{PhaseDecode}
use Rattle.window.specs.Window.{window_of}
use Rattle.search.specs.declared.BestPhaseSearch.{BestPhaseSearch}
use Rattle.search.specs.declared.SearchAnswer.{SearchAnswer}
use Rattle.search.specs.Search.{new_of, run_of}
use Rattle.event.specs.declared.RxCompletedEvent.{RxCompletedEvent}
use Rattle.event.specs.Event.{event_of}
use Rattle.rx_decode.specs.declared.SniffedDecode.{SniffedDecode}
use Rattle.rx_decode.specs.Reading.{searched_in, found_or, found_in, sniffed_of, ticks_of, low_run_of}
use Rattle.bench_text.specs.declared.Capture.{Capture}
use Rattle.bench_reading.specs.Reading.{event_for, search_of, reading_of}
use Rattle.bench_reading.specs.Code.{held_event}

module _ (capture : Capture) where
  -- what is read of a search that the event makes itself
  searched : found_in (event_for capture) ≡ (search_of capture).found
  unfolding event_for event_of found_or searched_in search_of
  searched = refl

  -- what the event is handed is what it holds
  held : (found : Option PhaseDecode) → found_in (held_event capture found) ≡ found
  unfolding held_event found_or
  held found = refl

  -- a low run is of the samples alone
  same_run : (found : Option PhaseDecode) → low_run_of (held_event capture found) ≡ low_run_of (event_for capture)
  unfolding held_event event_for event_of ticks_of
  same_run found = refl

  -- each part of a reading as the code makes it
  module _ {search : BestPhaseSearch} (new : search ≡ new_of sniffed_lengths) {window : SampleWindow} (of : window ≡ window_of capture.samples capture.count)
      {answer : SearchAnswer} (run : answer ≡ run_of search window) where
    answered : answer ≡ search_of capture
    unfolding search_of
    answered = rw (run, new, of)

    pub reading : {event : RxCompletedEvent} → event ≡ held_event capture answer.found → {decode : SniffedDecode} → decode ≡ sniffed_of (found_in event)
        → {low : ℕ} → low ≡ low_run_of event
        → record { decode = decode; low_run = low; steps = answer.steps } ≡ reading_of capture
    unfolding reading_of
    reading made d l = rw (d, l, made, held answer.found, same_run answer.found, answered, searched)
