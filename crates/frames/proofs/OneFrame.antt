-- A wave is the wave of one frame, and a reading the reading of one (specs/OneFrame). Assumes nothing.
use Prim.Native.Nat.{ℕ, suc, ◌+◌, ◌*◌, ◌/◌, ◌%◌, ◌<◌}
use native.Mathlib.Omega.{arith}
use native.Mathlib.Decide.{dec_lt}
use mathlib.Core.Bool.{Bool, true, false≢true}
use mathlib.Core.List.{List}
use mathlib.Core.Path.{◌≡◌, refl, sym, ◌∙◌, ap}
use lib.ListN.{length}
use lib.Seq.{ext_get_or}
use Rattle.window.specs.Phase.{data_of}
use Rattle.halfbits.specs.Frame.{Frame, bits_8, bits_16, bits_24, bytes_of, frame_bits, AreBytes}
use Rattle.halfbits.specs.declared.HalfBitBuffer.{HalfBitBuffer}
use Rattle.halfbits.specs.HalfBits.{buffer_of}
use Rattle.halfbits.proofs.Levels.{bit_of, second_level, later_level}
use Rattle.rx_decode.specs.declared.SniffedFrame.{SniffedFrame}
use Rattle.rx_decode.specs.declared.SniffedFrame.TheVariants.{Forward16, Backward8, Forward24, UnsupportedLength, DecodeFailed}
use Rattle.rx_decode.specs.Reading.{frame_of}
use Rattle.fsm.specs.Station.{new_core, new_station}
use Rattle.station_theorems.specs.Calls.{new}
use Rattle.station_theorems.specs.Ticks.{drives, alone}
use Rattle.frames.specs.Sends.{by_start_tx, started_by, Sent}
use Rattle.frames.specs.ReadAs.{frame_weights, kind_of}
use Rattle.frames.specs.OneFrame.{OneWave, OneWaveOneRow, OneWaveOneFrame, OneStoreOneFrame, OneReadingOneFrame}
use Rattle.frames.proofs.Waving.{last_low, low_in, last_falls}
use Rattle.frames.proofs.Bytes.{kind_is}
use Rattle.frames.proofs.Framing.{few_bits}
use Rattle.frames.proofs.Sending.{idle_may, bits_to_wave}

-- ---- bits
-- the last low tick of the longer one is high in the other
no_longer : (these those : List Bool) → OneWave these those → length these < length those → ⊥
no_longer these those one h =
    false≢true (sym (last_falls those) ∙ sym (one (last_low those)) ∙ later_level these (length those) (low_in (bit_of those (length those))) h)

as_long : (these those : List Bool) → OneWave these those → Dec (length these < length those) → Dec (length those < length these) → length these ≡ length those
as_long these those one (yes h) k = absurd (no_longer these those one h)
as_long these those one (no h) (yes k) = absurd (no_longer those these (λ tick. sym (one tick)) k)
as_long these those one (no h) (no k) = omega (arith, h, k)

pub one_wave_one_row : OneWaveOneRow
one_wave_one_row these those one =
    let same = as_long these those one (dec_lt (length these) (length those)) (dec_lt (length those) (length these)) in
    ext_get_or true these those same
    (λ i h. sym (second_level these (suc i) 0 h (omega arith)) ∙ one (8 * suc i + (4 + 0)) ∙ second_level those (suc i) 0 (omega arith) (omega arith))

-- ---- frames
-- the frame of a kind
unfoldable unkind : SniffedFrame → Frame
unkind (Backward8 first) = bits_8 first
unkind (Forward16 word) = bits_16 (word / 256) (word % 256)
unkind (Forward24 first second third) = bits_24 first second third
unkind (UnsupportedLength bits) = bits_8 0
unkind DecodeFailed = bits_8 0

parts : (first second : ℕ) → second < 256 → bits_16 ((first * 256 + second) / 256) ((first * 256 + second) % 256) ≡ bits_16 first second
parts first second h =
    let high : (first * 256 + second) / 256 ≡ first = omega arith in
    let low : (first * 256 + second) % 256 ≡ second = omega arith in
    rw (high, low)

back : (frame : Frame) → AreBytes (bytes_of frame) → unkind (kind_of frame) ≡ frame
unfolding unkind kind_of bytes_of
back (bits_8 first) are = refl
back (bits_16 first second) are = parts first second (are 1)
back (bits_24 first second third) are = refl

pub one_reading_one_frame : OneReadingOneFrame
one_reading_one_frame this that these those one = sym (back this these) ∙ ap unkind one ∙ back that those

pub one_wave_one_frame : OneWaveOneFrame
one_wave_one_frame this that these those one =
    let same = one_wave_one_row (frame_bits this) (frame_bits that) one in
    one_reading_one_frame this that these those
    (sym (kind_is this these) ∙ ap (λ (bits : List Bool). frame_of (length bits) (data_of (frame_weights bits))) same ∙ kind_is that those)

-- A buffer says all of a wave: a new station that is given it drives that wave.
pub one_store_one_frame : OneStoreOneFrame
unfolding new_station new_core
one_store_one_frame this that these those one =
    let sent : (frame : Frame) → Sent by_start_tx new_station (buffer_of (frame_bits frame)) (frame_bits frame)
    = λ frame. let (some, few) = few_bits frame in bits_to_wave (frame_bits frame) (omega arith) new_station new by_start_tx (idle_may by_start_tx new_station refl) in
    let driven : ℕ → HalfBitBuffer → Bool = λ tick hb. drives (alone (4 + tick) (started_by by_start_tx new_station hb).station) in
    one_wave_one_frame this that these those (λ tick. sym ((sent this).1.wave tick) ∙ ap (driven tick) one ∙ (sent that).1.wave tick)
