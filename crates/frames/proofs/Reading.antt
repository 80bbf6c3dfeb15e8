-- From wave to frame (specs/WaveToFrame, Amid). Assumes nothing.
use Prim.Native.Nat.{ℕ, suc, ◌+◌, ◌-◌, ◌*◌, ◌/◌, ◌<◌, ◌≤◌}
use native.Mathlib.Omega.{arith}
use mathlib.Core.Bool.{Bool, true}
use mathlib.Core.List.{List, [], ◌∷◌}
use mathlib.Core.Path.{◌≡◌, refl, ◌∙◌, ap, subst}
use lib.IntN.{pos}
use lib.ListN.{length}
use borrow.Author.Tests.{lt-ltb, le-ltb}
use Rattle.laws.specs.Pick.{pick}
use Rattle.laws.proofs.Picked.{on_true, on_false}
use Rattle.lengths.specs.declared.BitLengths.{BitLengths}
use Rattle.lengths.specs.Lengths.{holds}
use Rattle.window.specs.declared.SampleWindow.{SampleWindow}
use Rattle.window.specs.Window.{window_of, sample_bits, tick_at}
use Rattle.window.specs.Phase.{weighed, bits_of, length_of, decode_of, phase_of}
use Rattle.std.specs.Prelude.{Some}
use Rattle.search.specs.Search.{new_of, run_of, accepted_of}
use Rattle.search.specs.Steps.{search_of}
use Rattle.search.proofs.Runs.{run_of_new}
use Rattle.event.specs.Event.{event_of}
use Rattle.halfbits.specs.Wave.{high, level_at}
use Rattle.machine.specs.States.{is_completed}
use Rattle.fsm.specs.declared.DaliBitbangPhy.{DaliBitbangPhy}
use Rattle.fsm.specs.Station.{last_bytes}
use Rattle.fsm.specs.Calls.{took_rx}
use Rattle.frames.specs.ReadAs.{FitsCapture, taken, IsReady, window_in, clean_weights, frame_weights, ReadAtPhase0, FoundInOneStep, HasBits}
use Rattle.frames.specs.WaveToFrame.{WaveToBits}
use Rattle.frames.specs.Hosts.{Each, LetsHear}
use Rattle.frames.specs.Amid.{no_calls, WaveToBitsAmid}
use Rattle.station_theorems.proofs.Capturing.{digit, Captured}
use Rattle.frames.proofs.Between.{no_calls_lem}
use Rattle.frames.proofs.Waving.{last_low, low_in_bounds, after_last}
use Rattle.frames.proofs.Listening.{late, Caught, catches}
use Rattle.frames.proofs.Showing.{shows}
use Rattle.frames.proofs.Weighing.{late_at, reads}
use Rattle.halfbits.proofs.Levels.{bit_of}

-- ---- what a search makes of the bits of a frame
pub length_weights : (bs : List Bool) → length (clean_weights bs) ≡ length bs
unfolding clean_weights
length_weights [] = refl
length_weights (b ∷ bs) = ap suc (length_weights bs)

pub length_is : (frame : List Bool) → 1 ≤ length frame → length_of (frame_weights frame) ≡ length frame
unfolding length_of frame_weights
length_is frame h = rw (length_weights (true ∷ frame)) (simp (on_true (lt-ltb 1 (suc (length frame)) (omega arith))) (omega arith))

found : (frame : List Bool) (w : SampleWindow) → bits_of w 32 (pos 0) ≡ weighed (frame_weights frame) → (preferred : BitLengths) → 3 ≤ length frame
    → holds preferred (length frame) ≡ true → run_of (new_of preferred) w ≡ record { found = Some (decode_of (pos 0) (weighed (frame_weights frame))); steps = 1 }
unfolding search_of phase_of accepted_of decode_of
found frame w read preferred h held =
    let len = length_is frame (omega arith) in
    run_of_new preferred w ∙ rw read (rw len (simp (on_true held, on_false (le-ltb (length frame) 3 h))))

-- ---- what a station that has caught a wave holds
module _ (frame : List Bool) (fits : FitsCapture frame) (s : DaliBitbangPhy) (caught : Caught frame s) where
  abbrev capture : Captured (late caught.front (level_at frame)) caught.end s
  capture = caught.capture

  is_ready : IsReady s
  unfolding took_rx is_completed pick
  is_ready = rw capture.ready

  window_is : window_in (taken s) ≡ window_of (last_bytes s) (caught.end / 8 + 1)
  unfolding took_rx event_of is_completed pick
  window_is = rw (capture.ready, capture.count)

  idle_behind : (k : ℕ) → 8 * (caught.end / 8) ≤ k → late caught.front (level_at frame) k ≡ high
  idle_behind k h =
      let j : ℕ = k - (caught.front + suc (last_low frame)) in
      let e : k ≡ caught.front + (suc (last_low frame) + j) = omega (arith, caught.ends) in
      ap (late caught.front (level_at frame)) e ∙ late_at (level_at frame) caught.front (suc (last_low frame) + j) ∙ after_last frame j

  abbrev window : SampleWindow
  window = window_of (last_bytes s) (caught.end / 8 + 1)

  small : caught.end / 8 ≤ 62
  small = let b = low_in_bounds (bit_of frame (length frame)) in omega (arith, caught.ends, caught.few)

  shown : (p : ℕ) → p < 8 * window.len → tick_at window p ≡ digit (late caught.front (level_at frame)) p
  unfolding window_of
  shown p h =
      shows (late caught.front (level_at frame)) (caught.end / 8) (omega (arith, small)) (last_bytes s) capture.bytes capture.end idle_behind p
      (omega (arith, small))

  padded : sample_bits window + 8 ≤ 8 * window.len
  unfolding window_of
  padded = omega (arith, small)

  enough : caught.front + 8 * length frame + 16 ≤ sample_bits window
  unfolding window_of
  enough = let b = low_in_bounds (bit_of frame (length frame)) in omega (arith, small, caught.ends)

  at_phase_0 : ReadAtPhase0 frame (taken s)
  at_phase_0 most h = rw window_is (reads frame caught.front window shown padded enough most h caught.few fits)

  in_one_step : FoundInOneStep frame (taken s)
  in_one_step preferred h few held = found frame (window_in (taken s)) (at_phase_0 32 few) preferred h held

-- ---- the theorems
pub wave_to_bits_amid : WaveToBitsAmid
wave_to_bits_amid frame fits s reached idle host lets ticks whole =
    let caught = catches frame fits s reached idle host lets ticks whole in
    (caught.capture.idle, is_ready frame fits _ caught, at_phase_0 frame fits _ caught, in_one_step frame fits _ caught)

-- a host that makes no call
pub lets_hear : (frame : List Bool) → LetsHear frame no_calls
unfolding Each
lets_hear frame = record { idle = λ ticks h. tt; in_rx = λ ticks. tt; ready = λ ticks h. tt }

pub wave_to_bits : WaveToBits
wave_to_bits frame fits s reached idle ticks whole =
    subst (λ (t : DaliBitbangPhy). HasBits frame t) ((no_calls_lem ticks s).1 (level_at frame))
    (wave_to_bits_amid frame fits s reached idle no_calls (lets_hear frame) ticks whole)
