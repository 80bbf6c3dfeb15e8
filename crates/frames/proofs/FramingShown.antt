-- Stations that the theorems of wave to frame speak of: a new one, one that is debouncing, and one that has sent before. Assumes nothing.
use Prim.Native.Nat.{ℕ, zero, suc, ◌+◌, ◌<◌}
use native.Mathlib.Omega.{arith}
use mathlib.Core.List.{List, [], ◌∷◌}
use mathlib.Core.Bool.{Bool, true}
use mathlib.Core.Path.{◌≡◌, refl, ap}
use lib.IntN.{pos}
use Rattle.laws.specs.Pick.{pick}
use Rattle.laws.specs.Tabulate.{tabulate}
use Rattle.laws.proofs.Tabulated.{length_tabulate}
use Rattle.lengths.specs.declared.BitLengths.{BitLengths}
use Rattle.lengths.specs.Lengths.{with_length, with_lengths, set_of, holds}
use Rattle.window.specs.Phase.{weighed, bits_of}
use Rattle.search.specs.declared.SearchAnswer.{SearchAnswer}
use Rattle.search.specs.Search.{new_of, run_of}
use Rattle.halfbits.specs.Frame.{Frame, bits_8, bytes_of, frame_bits, AreBytes}
use Rattle.halfbits.specs.Wave.{low, level_at}
use Rattle.fsm.specs.declared.DaliBitbangPhy.{DaliBitbangPhy}
use Rattle.fsm.specs.Station.{new_station}
use Rattle.station_theorems.specs.Calls.{Reached, new, called}
use Rattle.station_theorems.specs.Calls as call
use Rattle.station_theorems.specs.Ticks.{IsIdle, after_levels}
use Rattle.frames.specs.NextFrame.{after_sending}
use Rattle.frames.specs.ReadAs.{Whole, IsReady, taken, window_in, frame_weights, ReadAs}
use Rattle.frames.specs.OneFrame.{OneWave}
use Rattle.frames.proofs.Waving.{last_low, sixteen}
use Rattle.frames.proofs.Sending.{ready}
use Rattle.frames.proofs.SendingShown.{new_idle, debouncing, it_debounces, before, before_fit}
use Rattle.frames.proofs.Reading.{wave_to_bits}
use Rattle.frames.proofs.Framing.{wave_to_frame}

-- Every wave can be heard whole.
pub heard_whole : (frame : List Bool) → Whole frame (last_low frame + 17)
heard_whole frame = let full = sixteen frame in omega arith

-- what a station makes of a frame's wave, and as many high ticks as it takes
abbrev Hears : Frame → DaliBitbangPhy → Type 0
Hears frame s = let after = after_levels (last_low (frame_bits frame) + 17) (level_at (frame_bits frame)) s in IsIdle after × IsReady after × ReadAs frame (taken after)

hears : (frame : Frame) → AreBytes (bytes_of frame) → (s : DaliBitbangPhy) → Reached s → IsIdle s → Hears frame s
hears frame are s reached idle = wave_to_frame frame are s reached idle (last_low (frame_bits frame) + 17) (heard_whole (frame_bits frame))

-- ---- each with any byte of 8 bits
pub one_byte : (byte : ℕ) → byte < 256 → AreBytes (bytes_of (bits_8 byte))
unfolding bytes_of
one_byte byte h zero = h
one_byte byte h (suc i) = omega arith

pub new_hears : (byte : ℕ) → byte < 256 → Hears (bits_8 byte) new_station
new_hears byte h = hears (bits_8 byte) (one_byte byte h) new_station new new_idle

pub debouncing_hears : (byte : ℕ) → byte < 256 → Hears (bits_8 byte) debouncing
debouncing_hears byte h = hears (bits_8 byte) (one_byte byte h) debouncing (called (call.tick low) new) it_debounces.0

pub hears_after_sending : (byte : ℕ) → byte < 256 → Hears (bits_8 byte) (after_sending before new_station)
hears_after_sending byte h =
    let (reached, idle) = ready before before_fit new_station new new_idle in
    hears (bits_8 byte) (one_byte byte h) (after_sending before new_station) reached idle

-- ---- another number of bits: 20 of them, looked for by themselves
abbrev twenty : BitLengths
twenty = set_of (20 ∷ [])

holds_20 : holds twenty 20 ≡ true
unfolding holds set_of with_lengths with_length pick
holds_20 = refl

pub twenty_bits_found : (bit : ℕ → Bool)
    → let frame = tabulate 20 bit in
    let after = after_levels (last_low frame + 17) (level_at frame) new_station in
    ((run_of (new_of twenty) (window_in (taken after))).steps ≡ 1) × (bits_of (window_in (taken after)) 20 (pos 0) ≡ weighed (frame_weights frame))
twenty_bits_found bit =
    let frame = tabulate 20 bit in
    let many = length_tabulate 20 bit in
    let (idle, ready, read, found) = wave_to_bits frame (omega arith) new_station new new_idle (last_low frame + 17) (heard_whole frame) in
    (ap (λ (a : SearchAnswer). a.steps) (found twenty (omega arith) (omega arith) (rw many holds_20)), read 20 (omega arith))

-- ---- one frame
pub has_its_own_wave : (frame : Frame) → OneWave (frame_bits frame) (frame_bits frame)
has_its_own_wave frame tick = refl
