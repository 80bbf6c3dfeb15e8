-- Document 01's bench table holds (specs/Table.antt). Assumes nothing.
use Prim.Native.Nat.{ℕ, zero, suc, ◌+◌}
use native.Mathlib.Omega.{arith}
use native.Mathlib.Decide.{ℕ_discrete}
use mathlib.Core.Bool.{true, false}
use mathlib.Core.List.{List, [], ◌∷◌}
use mathlib.Core.Path.{◌≡◌, refl, ◌∙◌, ap}
use lib.Dec.{leb}
use lib.IntN.{pos}
use lib.ListN.{get_or, replicate}
use borrow.Author.Tests.{le-leb, ne_eqb}
use Rattle.laws.specs.Packed.{packed}
use Rattle.laws.specs.Pick.{pick}
use Rattle.laws.specs.Tabulate.{tabulate}
use Rattle.laws.proofs.Picked.{on_true, on_either}
use Rattle.weight.specs.Weight.{weight_of, folded, half_weight, bit_weight}
use Rattle.lengths.specs.Lengths.{holds, set_of, with_lengths, with_length, sniffed_lengths, listed}
use Rattle.lengths.proofs.Member.{member}
use Rattle.halfbits.specs.Frame.{bytes_of, bit_at, bits_of}
use Rattle.halfbits.specs.Wave.{high, low, bit_wave, bit_waves, wave_of, level_at}
use Rattle.halfbits.specs.HalfBits.{pulls, store_of, buffer_of}
use Rattle.halfbits.specs.Encoding.{is_bit_count, frame_of, answer_of, encoded_of}
use Rattle.window.specs.declared.SampleWindow.{SampleWindow}
use Rattle.window.specs.Window.{window_of, tick_at, peek_at}
use Rattle.window.specs.Phase.{weighed, after, phase_of, bits_from, weight_around, stride_around, stride_of, length_of, score_of, decode_of}
use Rattle.window.specs.Phase as phase
use Rattle.search.specs.Search.{accepted_of, first_of, ended_of, scanned_of, kept_better, step_of, first_done, run_of}
use Rattle.capture.specs.Samples as capture
use Rattle.event.specs.Event.{event_of}
use Rattle.machine.specs.declared.RxState.TheVariants.{Empty}
use Rattle.machine.specs.Runs.{runs_counted}
use Rattle.machine.specs.States.{is_completed}
use Rattle.machine.specs.BecomingIdle.{idled}
use Rattle.machine.specs.Idle.{entered, idle_tick, silent, fell}
use Rattle.fsm.specs.Rx.{high_run, sampled, filled, finished, notified, went_on, rx_tick}
use Rattle.fsm.specs.declared.DaliBitbangPhy.{DaliBitbangPhy}
use Rattle.fsm.specs.Station.{new_core, new_station}
use Rattle.fsm.specs.Ticking.{tick_in, tick_of}
use Rattle.fsm.specs.Calls.{took_rx}
use Rattle.rx_decode.specs.Reading.{sniffed_of, searched_in, found_or, ticks_of, lows_first, longest_low}
use Rattle.station_theorems.specs.Ticks.{IsIdle, after_levels}
use Rattle.bench_table.specs.Row.{SaysRow, lengths_hold_nothing, captures_nothing, reads_at_phase_0}
use Rattle.bench_table.specs.Table.{rows, AllSay, BenchTable}
use Rattle.bench_table.proofs.Clash.{zeros_against_eighty}

-- ---- a length of 32
none_of_32 : SaysRow (lengths_hold_nothing (32 ∷ []))
unfolding SaysRow listed pick
none_of_32 any = member (32 ∷ []) any ∙ go (ℕ_discrete any 32)
  where
    go : Dec (any ≡ 32) → listed any (32 ∷ []) ≡ false
    go (yes e) = rw e
    go (no ne) = rw (ne_eqb any 32 ne)

-- ---- one low tick alone
-- An Idle station with no capture has none after a high tick.
abbrev Waits : DaliBitbangPhy → Type 0
Waits s = IsIdle s × (s.core.told.rx_state ≡ Empty)

waits_on : (s : DaliBitbangPhy) → Waits s → Waits (tick_of s true)
unfolding tick_of tick_in idle_tick silent fell runs_counted pick
waits_on s w = rw w.0 (refl, w.1)

waits : (highs : ℕ) → Waits (after_levels (suc highs) (λ tick. get_or (low ∷ []) tick high) new_station)
unfolding after_levels tick_of tick_in idle_tick silent fell runs_counted new_station new_core pick
waits zero = (refl, refl)
waits (suc n) = waits_on (after_levels (suc n) (λ tick. get_or (low ∷ []) tick high) new_station) (waits n)

none_of_one_low : SaysRow (captures_nothing (replicate 1 low))
unfolding SaysRow took_rx is_completed pick
none_of_one_low highs = let e : 1 + highs ≡ suc highs = omega arith in rw (e, (waits highs).1)

-- ---- a lone start bit
module _ (behind : List ℕ) (most : ℕ) where
  abbrev start : SampleWindow
  start = window_of (0x0F ∷ 0xFF ∷ 0xFF ∷ behind) 3

  -- the start weighs 25, and the idle line behind it ends the phase where the maximum does not
  one_bit : (phase.bits_of start most (pos 0) ≡ pick (leb 0 most) (after 25 (bits_from 72 start most (pos 0) 9 1)) (weighed []))
      × (bits_from 72 start most (pos 0) 9 1 ≡ pick (leb 1 most) (weighed []) (weighed []))
  unfolding phase.bits_of bits_from weight_around stride_around stride_of window_of tick_at peek_at weight_of folded half_weight bit_weight
      packed pick
  one_bit = (refl, refl)

  lone : phase.bits_of start most (pos 0) ≡ weighed (25 ∷ [])
  lone =
      one_bit.0
      ∙ on_true (le-leb 0 most (omega arith)) (after 25 (bits_from 72 start most (pos 0) 9 1)) (weighed [])
      ∙ ap (after 25) (one_bit.1 ∙ on_either (leb 1 most) (weighed []))

lone_start : SaysRow (reads_at_phase_0 (0x0F ∷ 0xFF ∷ 0xFF ∷ []) 1 25)
unfolding SaysRow phase_of length_of score_of decode_of pick
lone_start behind most =
    (ap (λ b. (decode_of (pos 0) b).bit_len) (lone behind most), ap (λ b. (decode_of (pos 0) b).score) (lone behind most))

-- ---- the whole table
-- a row and those below it
infixr 30 ◌&◌
abbrev ◌&◌ : {A B : Type 0} → A → B → A × B
◌&◌ one more = (one, more)

pub bench_table : BenchTable
unfolding rows AllSay SaysRow weight_of folded half_weight bit_weight holds set_of with_lengths with_length sniffed_lengths
    encoded_of is_bit_count frame_of answer_of buffer_of store_of pulls level_at wave_of bit_waves bit_wave bits_of bytes_of bit_at
    after_levels tick_of tick_in idle_tick silent fell entered rx_tick went_on sampled high_run filled finished notified idled runs_counted
    capture.bytes_of capture.byte_in capture.samples_of capture.word_in capture.with_byte
    took_rx is_completed event_of new_station new_core
    sniffed_of found_or searched_in ticks_of lows_first longest_low
    run_of first_done step_of first_of ended_of scanned_of kept_better accepted_of
    phase_of phase.bits_of bits_from weight_around stride_around stride_of length_of score_of decode_of window_of tick_at peek_at
    packed tabulate pick
bench_table =
    refl & refl & refl & refl & refl & refl & refl
    & refl & none_of_32
    & (λ second third. refl)
    & (refl, refl, refl) & (refl, refl, refl) & refl & refl
    & (refl, refl, refl) & none_of_one_low
    & lone_start
    & (λ behind. refl)
    & (λ behind. (refl, refl)) & (λ behind. (refl, refl))
    & (refl, refl, refl)
    & (zeros_against_eighty.0, refl) & (zeros_against_eighty.1, refl)
    & tt
