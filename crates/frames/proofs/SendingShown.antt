-- Stations that the theorems of Sending speak of: a new one, one that is debouncing, one in the middle of a capture, and one that has sent
-- before. Assumes nothing.
use Rattle.std.specs.Prelude.{Result, ⊤}
use Prim.Native.Nat.{ℕ}
use native.Mathlib.Omega.{arith}
use mathlib.Core.List.{List, [], ◌∷◌}
use mathlib.Core.Path.{◌≡◌, refl, ap}
use Rattle.laws.specs.Pick.{pick}
use Rattle.laws.specs.Tabulate.{tabulate}
use Rattle.laws.proofs.Picked.{on_false}
use Rattle.halfbits.specs.declared.HalfBitBuffer.{HalfBitBuffer}
use Rattle.halfbits.specs.Frame.{bits_8, bits_16, bits_24, bytes_of, bits_of, frame_bits}
use Rattle.halfbits.specs.Wave.{high, low, bit_wave, bit_waves, wave_of, level_at}
use Rattle.halfbits.specs.HalfBits.{buffer_of}
use Rattle.halfbits.specs.Encoding.{is_bit_count, frame_of, encoded_of}
use Rattle.machine.specs.declared.BusState.TheVariants as bus
use Rattle.machine.specs.Runs.{runs_counted}
use Rattle.fsm.specs.Rx.{high_run, sampled, filled, rx_tick, went_on}
use Rattle.machine.specs.Idle.{entered, idle_tick, silent, fell}
use Rattle.fsm.specs.declared.DaliBitbangPhy.{DaliBitbangPhy}
use Rattle.fsm.specs.declared.Answered.{Answered}
use Rattle.fsm.specs.declared.StartError.{StartError}
use Rattle.std.specs.declared.result.Result.TheVariants as result
use Rattle.fsm.specs.declared.StartError.TheVariants.{Busy}
use Rattle.fsm.specs.Station.{new_core, new_station}
use Rattle.fsm.specs.Ticking.{tick_in, tick_of}
use Rattle.machine.specs.States.{is_idle, hears}
use Rattle.fsm.specs.Starting.{start_tx_of}
use Rattle.station_theorems.specs.Calls.{after, Reached, new, called}
use Rattle.station_theorems.specs.Calls as call
use Rattle.station_theorems.specs.Ticks.{drives, IsIdle, IsSending, alone}
use Rattle.frames.specs.Sends.{Start, by_start_tx, by_start_answer, started_by, taken_in, Sent, handed_out}
use Rattle.frames.specs.NextFrame.{Sending, AllFit, after_sending, first_of}
use Rattle.frames.proofs.Sending.{idle_may, frame_to_wave, next_frame_to_wave}

-- ---- a new station
pub new_idle : IsIdle new_station
unfolding new_station new_core
new_idle = refl

-- 24 bits, whatever they are
pub new_sends : (first second third : ℕ) (by : Start)
    → let frame = bits_24 first second third in Sent by new_station (handed_out (encoded_of 24 frame)) (frame_bits frame)
unfolding is_bit_count frame_of pick
new_sends first second third by = frame_to_wave 24 first second third refl new_station new by (idle_may by new_station new_idle)

-- What that says of some of its ticks: the last one before the wave, the two halves of the start bit, and the end.
pub new_at_some_ticks : (first second third : ℕ) (by : Start)
    → let s = (started_by by new_station (handed_out (encoded_of 24 (bits_24 first second third)))).station in
    (drives (alone 3 s) ≡ high) × (drives (alone 4 s) ≡ low) × (drives (alone 8 s) ≡ high) × IsSending (alone 216 s) × IsIdle (alone 217 s)
unfolding bytes_of bits_of tabulate level_at wave_of bit_waves bit_wave
new_at_some_ticks first second third by =
    let sent = (new_sends first second third by).1 in
    (sent.armed 3 (omega arith), sent.wave 0, sent.wave 4, sent.sending 216 (omega arith), sent.idle 217 (omega arith))

-- ---- one that remembers a low tick
abbrev pub debouncing : DaliBitbangPhy
debouncing = after (call.tick low) new_station

pub it_debounces : IsIdle debouncing × (debouncing.core.bus.rx_debounce ≡ 1)
unfolding after tick_of tick_in pick idle_tick silent fell runs_counted new_station new_core
it_debounces = (refl, refl)

-- 16 bits, whatever they are
pub debouncing_sends : (first second : ℕ) (by : Start)
    → let frame = bits_16 first second in Sent by debouncing (handed_out (encoded_of 16 frame)) (frame_bits frame)
unfolding is_bit_count frame_of pick
debouncing_sends first second by = frame_to_wave 16 first second 0 refl debouncing (called (call.tick low) new) by (idle_may by debouncing it_debounces.0)

-- ---- one in the middle of a capture: three low ticks, and a high one
abbrev pub receiving : DaliBitbangPhy
receiving = after (call.tick high) (after (call.tick low) (after (call.tick low) (after (call.tick low) new_station)))

pub it_receives : receiving.core.bus.bus_state ≡ bus.Rx
unfolding after tick_of tick_in pick idle_tick silent fell entered runs_counted sampled high_run rx_tick went_on filled new_station new_core
it_receives = refl

pub receiving_reached : Reached receiving
receiving_reached = called (call.tick high) (called (call.tick low) (called (call.tick low) (called (call.tick low) new)))

-- It answers 8 bits, whatever they are
pub receiving_answers : (byte : ℕ) → let frame = bits_8 byte in Sent by_start_answer receiving (handed_out (encoded_of 8 frame)) (frame_bits frame)
unfolding is_bit_count frame_of pick taken_in hears
receiving_answers byte = frame_to_wave 8 byte 0 0 refl receiving receiving_reached by_start_answer (ap hears it_receives)

-- and is not sent otherwise.
pub receiving_refuses : (hb : HalfBitBuffer) → (started_by by_start_tx receiving hb).answer ≡ result.Err Busy
unfolding started_by start_tx_of is_idle
receiving_refuses hb = ap (λ (r : Answered (Result ⊤ StartError)). r.answer) (on_false (ap is_idle it_receives) _ _)

-- ---- one that has answered 8 bits and sent 16
abbrev pub before : List Sending
before = record { by = by_start_answer; row = frame_bits (bits_8 255) } ∷ record { by = by_start_tx; row = frame_bits (bits_16 254 5) } ∷ []

pub before_fit : AllFit before
unfolding AllFit bytes_of bits_of tabulate
before_fit = (omega arith, (omega arith, tt))

-- and now 24, the most that fit
pub sends_again : (first second third : ℕ) (by : Start)
    → let bits = frame_bits (bits_24 first second third) in Sent by (after_sending before new_station) (buffer_of bits) bits
unfolding bytes_of bits_of tabulate first_of
sends_again first second third by =
    next_frame_to_wave before before_fit (record { by = by; row = frame_bits (bits_24 first second third) }) (omega arith) new_station new
    (idle_may by_start_answer new_station new_idle)

-- The first of them may also have been an answer in the middle of a capture.
pub sends_after_answering : (first second third : ℕ) (by : Start)
    → let bits = frame_bits (bits_24 first second third) in Sent by (after_sending before receiving) (buffer_of bits) bits
unfolding bytes_of bits_of tabulate first_of taken_in hears
sends_after_answering first second third by =
    next_frame_to_wave before before_fit (record { by = by; row = frame_bits (bits_24 first second third) }) (omega arith) receiving receiving_reached
    (ap hears it_receives)
