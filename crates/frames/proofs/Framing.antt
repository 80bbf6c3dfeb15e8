-- From wave to frame, for frames of 8, 16 and 24 bits (specs/WaveToFrame, Amid). Assumes nothing.
use Prim.Native.Nat.{ℕ, ◌≤◌}
use native.Mathlib.Omega.{arith}
use mathlib.Core.Bool.{true}
use mathlib.Core.List.{[], ◌∷◌}
use mathlib.Core.Path.{◌≡◌, refl, ◌∙◌, ap, subst}
use lib.IntN.{pos}
use lib.ListN.{length}
use Rattle.laws.specs.Pick.{pick}
use Rattle.laws.proofs.Picked.{cases}
use Rattle.lengths.specs.declared.BitLengths.{BitLengths}
use Rattle.lengths.specs.Lengths.{with_length, with_lengths, set_of, holds, sniffed_lengths, backward_lengths}
use Rattle.window.specs.declared.PhaseDecode.{PhaseDecode}
use Rattle.window.specs.Phase.{weighed, decode_of}
use Rattle.search.specs.declared.SearchAnswer.{SearchAnswer}
use Rattle.std.specs.Prelude.{Option, Some}
use Rattle.event.specs.declared.IsrDecode.TheVariants.{NotDecoded}
use Rattle.event.specs.declared.RxCompletedEvent.{RxCompletedEvent}
use Rattle.event.specs.Event.{event_of, new_event}
use Rattle.halfbits.specs.Frame.{Frame, bits_8, bits_16, bits_24, bytes_of, frame_bits, AreBytes}
use Rattle.halfbits.specs.Wave.{level_at}
use Rattle.fsm.specs.declared.DaliBitbangPhy.{DaliBitbangPhy}
use Rattle.fsm.specs.Calls.{has_event, took_rx}
use Rattle.rx_decode.specs.Reading.{sniffed_of, found_or, searched_in, byte_in}
use Rattle.frames.specs.ReadAs.{event_in, taken, FoundInOneStep, frame_weights, frame_score, kind_of, ReadAs, HasFrame}
use Rattle.frames.specs.WaveToFrame.{WaveToFrame}
use Rattle.frames.specs.Amid.{no_calls, WaveToFrameAmid}
use Rattle.frames.proofs.Between.{no_calls_lem}
use Rattle.frames.proofs.Reading.{length_is, lets_hear, wave_to_bits_amid}
use Rattle.frames.proofs.Bytes.{as_many, byte_is, kind_is}

-- ---- how many bits a frame has
pub few_bits : (frame : Frame) → (3 ≤ length (frame_bits frame)) × (length (frame_bits frame) ≤ 24)
unfolding bytes_of
few_bits (bits_8 a) = let n = as_many (a ∷ []) in (omega arith, omega arith)
few_bits (bits_16 a b) = let n = as_many (a ∷ b ∷ []) in (omega arith, omega arith)
few_bits (bits_24 a b c) = let n = as_many (a ∷ b ∷ c ∷ []) in (omega arith, omega arith)

is_sniffed : (frame : Frame) → holds sniffed_lengths (length (frame_bits frame)) ≡ true
unfolding bytes_of sniffed_lengths holds set_of with_lengths with_length pick
is_sniffed (bits_8 a) = rw (as_many (a ∷ []))
is_sniffed (bits_16 a b) = rw (as_many (a ∷ b ∷ []))
is_sniffed (bits_24 a b c) = rw (as_many (a ∷ b ∷ c ∷ []))

-- ---- the readings
-- no event of a station holds a decode
fresh : (s : DaliBitbangPhy) → (taken s).isr_decode ≡ NotDecoded
unfolding took_rx new_event event_of
fresh s =
    let P : Option RxCompletedEvent → Type 0 = λ (ev : Option RxCompletedEvent). (event_in ev).isr_decode ≡ NotDecoded in
    cases P (has_event s) (λ _. refl) (λ _. refl)

abbrev decode : Frame → PhaseDecode
decode frame = decode_of (pos 0) (weighed (frame_weights (frame_bits frame)))

module _ (ev : RxCompletedEvent) where
  searched : (frame : Frame) → FoundInOneStep (frame_bits frame) ev → (preferred : BitLengths) → holds preferred (length (frame_bits frame)) ≡ true
      → searched_in preferred ev ≡ Some (decode frame)
  unfolding searched_in
  searched frame step preferred held =
      let (some, few) = few_bits frame in
      ap (λ (a : SearchAnswer). a.found) (step preferred some (omega arith) held)

  told : (frame : Frame) → AreBytes (bytes_of frame) → sniffed_of (Some (decode frame)) ≡ record { frame = kind_of frame; phase_ticks = pos 0; score = frame_score (frame_bits frame) }
  unfolding sniffed_of decode_of
  told frame are = let (some, few) = few_bits frame in rw (length_is (frame_bits frame) (omega arith), kind_is frame are)

  of_8_bits : (byte : ℕ) → AreBytes (byte ∷ []) → FoundInOneStep (frame_bits (bits_8 byte)) ev → byte_in (searched_in backward_lengths ev) ≡ Some byte
  unfolding byte_in decode_of bytes_of backward_lengths holds set_of with_lengths with_length pick
  of_8_bits byte are step =
      let len = as_many (byte ∷ []) in
      ap byte_in (searched (bits_8 byte) step backward_lengths (rw len))
      ∙ rw (length_is (frame_bits (bits_8 byte)) (omega arith), len) (ap Some (byte_is (byte ∷ []) are (omega arith) 0 (omega arith)))

  read_as : ev.isr_decode ≡ NotDecoded → (frame : Frame) → AreBytes (bytes_of frame) → FoundInOneStep (frame_bits frame) ev → ReadAs frame ev
  unfolding found_or bytes_of
  read_as undecoded frame are step =
      let (some, few) = few_bits frame in
      record {
        sniffed = ap sniffed_of (ap (λ decode. found_or decode ev) undecoded ∙ searched frame step sniffed_lengths (is_sniffed frame)) ∙ told frame are;
        one_step = ap (λ (a : SearchAnswer). a.steps) (step sniffed_lengths some (omega arith) (is_sniffed frame));
        backward = λ byte e. of_8_bits byte (subst (λ f. AreBytes (bytes_of f)) e are) (subst (λ f. FoundInOneStep (frame_bits f) ev) e step);
      }

-- ---- the theorems
pub wave_to_frame_amid : WaveToFrameAmid
wave_to_frame_amid frame are s reached idle host lets ticks whole =
    let (some, few) = few_bits frame in
    let (idle-again, ready, at_phase_0, step) = wave_to_bits_amid (frame_bits frame) (omega arith) s reached idle host lets ticks whole in
    (idle-again, ready, read_as _ (fresh _) frame are step)

pub wave_to_frame : WaveToFrame
wave_to_frame frame are s reached idle ticks whole =
    subst (λ (t : DaliBitbangPhy). HasFrame frame t) ((no_calls_lem ticks s).1 (level_at (frame_bits frame)))
    (wave_to_frame_amid frame are s reached idle no_calls (lets_hear (frame_bits frame)) ticks whole)
