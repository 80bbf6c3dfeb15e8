-- Readings that antt computes: two captures of no frame's wave that are read as frames (docs/DIFFERENCES.md). Assumes nothing.
use mathlib.Core.Path.{◌≡◌, refl}
use mathlib.Core.List.{List, [], ◌∷◌, ◌++◌}
use Prim.Native.Nat.{ℕ, ◌-◌}
use lib.IntN.{pos}
use lib.ListN.{length, replicate}
use Rattle.laws.specs.Packed.{packed}
use Rattle.laws.specs.Pick.{pick}
use Rattle.lengths.specs.Lengths.{holds, set_of, with_lengths, with_length, sniffed_lengths}
use Rattle.weight.specs.Weight.{weight_of, folded, half_weight, bit_weight}
use Rattle.window.specs.Window.{window_of, tick_at, level_before, peek_at}
use Rattle.window.specs.Phase.{phase_of, bits_of, bits_from, weight_around, stride_around, stride_of, length_of, score_of, data_of, decode_of}
use Rattle.search.specs.Search.{accepted_of, first_of, ended_of, scanned_of, scan_phase, kept_better, better_of, higher_of, step_of, first_done, run_of}
use Rattle.event.specs.Event.{event_of}
use Rattle.event.specs.declared.RxCompletedEvent.{RxCompletedEvent}
use Rattle.rx_decode.specs.declared.SniffedFrame.TheVariants.{Backward8}
use Rattle.rx_decode.specs.Reading.{byte_of, frame_of, sniffed_of, searched_in, found_or, found_in}

-- the event of a capture of these bytes
abbrev captured : List ℕ → RxCompletedEvent
captured bytes = event_of (bytes ++ replicate (64 - length bytes) 0) (length bytes) 0

-- a clean wave of the nine bits 100000001
abbrev nine_bits : RxCompletedEvent
nine_bits = captured (0x0F ∷ 0x0F ∷ 0xF0 ∷ 0xF0 ∷ 0xF0 ∷ 0xF0 ∷ 0xF0 ∷ 0xF0 ∷ 0xF0 ∷ 0x0F ∷ 0xFF ∷ 0xFF ∷ [])

-- the wave of the eight bits 0x00 with its first two runs a tick short
abbrev short_runs : RxCompletedEvent
short_runs = captured (0x1F ∷ 0xC3 ∷ 0xC3 ∷ 0xC3 ∷ 0xC3 ∷ 0xC3 ∷ 0xC3 ∷ 0xC3 ∷ 0xC3 ∷ 0xFF ∷ 0xFF ∷ [])

pub no_wave_read_as_a_frame :
    (sniffed_of (found_in nine_bits) ≡ record { frame = Backward8 0xFF; phase_ticks = pos 2; score = 184 })
    × (sniffed_of (found_in short_runs) ≡ record { frame = Backward8 0xFF; phase_ticks = pos 0; score = 213 })
unfolding sniffed_of frame_of byte_of found_or searched_in event_of run_of first_done step_of first_of ended_of scanned_of scan_phase kept_better better_of higher_of accepted_of phase_of bits_of bits_from weight_around stride_around stride_of length_of score_of data_of decode_of window_of tick_at level_before peek_at weight_of folded half_weight bit_weight sniffed_lengths holds set_of with_lengths with_length packed pick
no_wave_read_as_a_frame = (refl, refl)
