-- Hosts that the theorems of Amid speak of: after every tick they poll, take, acknowledge and set policies, and they try to start a station
-- that sends, or hears. Assumes nothing.
use Prim.Native.Nat.{ℕ, zero, suc, ◌+◌, ◌<◌}
use native.Mathlib.Omega.{arith}
use mathlib.Core.Bool.{Bool}
use mathlib.Core.List.{List, [], ◌∷◌}
use mathlib.Core.Path.{◌≡◌, refl, ap}
use lib.Dec.{ltb, leb}
use borrow.Author.Tests.{le-leb, lt-ltb, le-ltb}
use Rattle.laws.specs.Pick.{pick}
use Rattle.laws.specs.Tabulate.{tabulate}
use Rattle.laws.proofs.Picked.{on_true, on_false, cases}
use Rattle.halfbits.specs.declared.HalfBitBuffer.{HalfBitBuffer}
use Rattle.halfbits.specs.Frame.{bits_8, bits_24, bytes_of, bits_of, frame_bits}
use Rattle.halfbits.specs.Wave.{low, high, bit_wave, bit_waves, wave_of, level_at}
use Rattle.halfbits.specs.Encoding.{is_bit_count, frame_of, encoded_of}
use Rattle.machine.specs.declared.CollisionPolicy.TheVariants.{Auto, Off, On}
use Rattle.machine.specs.Runs.{runs_counted}
use Rattle.machine.specs.BecomingIdle.{idled}
use Rattle.fsm.specs.Rx.{high_run, sampled, finished, filled, notified, rx_tick, went_on}
use Rattle.machine.specs.Idle.{entered, idle_tick, silent, fell}
use Rattle.fsm.specs.declared.DaliBitbangPhy.{DaliBitbangPhy}
use Rattle.fsm.specs.declared.TxPollResult.TheVariants.{Ok, Transmitting}
use Rattle.fsm.specs.Station.{new_core, new_station}
use Rattle.fsm.specs.Ticking.{tick_in, tick_of}
use Rattle.machine.specs.States.{hears, is_completed}
use Rattle.fsm.specs.Polling.{polled}
use Rattle.fsm.specs.Calls.{took_rx}
use Rattle.station_theorems.specs.Calls.{Call, tick, start_tx, start_answer, poll, take_idle, take_rx, acknowledge, policy, after, after_all, is_between, Reached, new, called}
use Rattle.station_theorems.specs.Ticks.{IsIdle, drives, highs_running}
use Rattle.frames.specs.Sends.{Start, by_start_answer, started_by, taken_in, idle_at, handed_out}
use Rattle.frames.specs.ReadAs.{IsReady, HasFrame}
use Rattle.frames.specs.Hosts.{Host, after_levels_amid, alone_amid, Each, keeps_tx, keeps_rx, keeps_capture, LetsSend, LetsHear}
use Rattle.frames.specs.Amid.{SentAmid}
use Rattle.frames.proofs.Waving.{last_low}
use Rattle.frames.proofs.Sending.{idle_may, frame_to_wave_amid}
use Rattle.frames.proofs.SendingShown.{new_idle, receiving, it_receives, receiving_reached}
use Rattle.frames.proofs.Framing.{wave_to_frame_amid}
use Rattle.frames.proofs.FramingShown.{heard_whole, one_byte}

-- ---- while a station sends
module _ (hb : HalfBitBuffer) where
  -- two polls, two policies, two starts in vain, and takes that find nothing
  abbrev meddling : List Call
  meddling = poll ∷ policy On ∷ start_tx hb ∷ start_answer hb ∷ take_rx ∷ acknowledge ∷ take_idle ∷ policy Off ∷ poll ∷ []

  -- once it is Idle
  abbrev waiting : List Call
  waiting = poll ∷ take_idle ∷ take_rx ∷ acknowledge ∷ policy Auto ∷ []

  unfoldable pub restless : ℕ → Host
  restless bits ticks = pick (ltb ticks (idle_at bits)) meddling waiting

  lets_send : (bits : ℕ) → LetsSend bits (restless bits)
  unfolding restless Each keeps_tx is_between
  lets_send bits =
      let idle_calls : Each is_between waiting = (refl, (refl, (refl, (refl, (refl, tt))))) in
      record {
        in_tx =
            λ ticks. cases (Each keeps_tx) (ltb ticks (idle_at bits)) (λ _. (refl, (refl, (refl, (refl, (refl, (refl, (refl, (refl, (refl, tt)))))))))) (λ _. (refl, (refl, (refl, (refl, (refl, tt))))));
        idle = λ ticks late. rw (on_false (le-ltb ticks (idle_at bits) late)) idle_calls;
      }

  -- 24 bits, whatever they are, and whatever half-bits it is to be started with again
  pub new_sends_amid : (first second third : ℕ) (by : Start)
      → let frame = bits_24 first second third in SentAmid (restless 24) by new_station (handed_out (encoded_of 24 frame)) (frame_bits frame)
  unfolding is_bit_count frame_of pick
  new_sends_amid first second third by =
      frame_to_wave_amid 24 first second third refl new_station new by (idle_may by new_station new_idle) (restless 24) (lets_send 24)

  -- What that says of some of its ticks.
  pub amid_at_some_ticks : (first second third : ℕ) (by : Start)
      → let at : ℕ → DaliBitbangPhy = λ n. alone_amid (restless 24) n (started_by by new_station (handed_out (encoded_of 24 (bits_24 first second third)))).station in
      (drives (at 3) ≡ high) × (drives (at 4) ≡ low) × (drives (at 8) ≡ high) × ((polled (at 216)).answer ≡ Transmitting) × ((polled (at 217)).answer ≡ Ok)
  unfolding bytes_of bits_of tabulate level_at wave_of bit_waves bit_wave
  amid_at_some_ticks first second third by =
      let sent = (new_sends_amid first second third by).1 in
      (sent.armed 3 (omega arith), sent.wave 0, sent.wave 4, sent.unfinished 216 (omega arith), sent.sent 217 (omega arith))

  -- an answer, begun in the middle of a capture
  pub receiving_answers_amid : (byte : ℕ) → let frame = bits_8 byte in SentAmid (restless 8) by_start_answer receiving (handed_out (encoded_of 8 frame)) (frame_bits frame)
  unfolding is_bit_count frame_of pick taken_in hears
  receiving_answers_amid byte =
      frame_to_wave_amid 8 byte 0 0 refl receiving receiving_reached by_start_answer (ap hears it_receives) (restless 8) (lets_send 8)

-- ---- while a station hears a wave
module _ (hb : HalfBitBuffer) where
  abbrev taking : List Call
  taking = poll ∷ take_rx ∷ acknowledge ∷ take_idle ∷ policy Off ∷ []

  -- in Rx also a start in vain
  abbrev trying : List Call
  trying = start_tx hb ∷ taking

  -- once the wave is heard whole
  abbrev leaving : List Call
  leaving = poll ∷ take_idle ∷ policy On ∷ []

  unfoldable pub curious : List Bool → Host
  curious frame ticks = pick (leb 16 (highs_running ticks (level_at frame))) leaving (pick (ltb ticks 2) taking trying)

  lets_hear : (frame : List Bool) → LetsHear frame (curious frame)
  unfolding curious Each is_between keeps_rx keeps_capture
  lets_hear frame =
      let whole : ℕ → Bool = λ ticks. leb 16 (highs_running ticks (level_at frame)) in
      let keeping : Each keeps_capture leaving = (refl, (refl, (refl, tt))) in
      record {
        idle =
            λ ticks h. rw (on_true (lt-ltb ticks 2 h))
            (cases (Each is_between) (whole ticks) (λ _. (refl, (refl, (refl, tt)))) (λ _. (refl, (refl, (refl, (refl, (refl, tt)))))));
        in_rx =
            λ ticks. cases (Each keeps_rx) (whole ticks) (λ _. (refl, (refl, (refl, tt))))
            (λ _. cases (Each keeps_rx) (ltb ticks 2) (λ _. (refl, (refl, (refl, (refl, (refl, tt)))))) (λ _. (refl, (refl, (refl, (refl, (refl, (refl, tt))))))));
        ready = λ ticks heard. rw (on_true (le-leb 16 (highs_running ticks (level_at frame)) heard)) keeping;
      }

  -- It does take and start before that: before the first tick, for one, and after the fourth.
  pub takes_and_starts : (frame : List Bool) → (curious frame 0 ≡ taking) × (curious frame 4 ≡ trying)
  unfolding curious highs_running pick level_at wave_of bit_waves bit_wave
  takes_and_starts frame = (refl, refl)

  -- what a station makes of the wave of a byte of 8 bits
  abbrev Hears : ℕ → DaliBitbangPhy → Type 0
  Hears byte s = let frame = bits_8 byte in HasFrame frame (after_levels_amid (curious (frame_bits frame)) (last_low (frame_bits frame) + 17) (level_at (frame_bits frame)) s)

  hears_amid : (byte : ℕ) → byte < 256 → (s : DaliBitbangPhy) → Reached s → IsIdle s → Hears byte s
  hears_amid byte h s reached idle =
      let frame = bits_8 byte in
      let bits = frame_bits frame in
      wave_to_frame_amid frame (one_byte byte h) s reached idle (curious bits) (lets_hear bits) (last_low bits + 17) (heard_whole bits)

  pub new_hears_amid : (byte : ℕ) → byte < 256 → Hears byte new_station
  new_hears_amid byte h = hears_amid byte h new_station new new_idle

-- ---- one that holds an earlier capture, which is taken in the middle of the next
unfoldable pub times : ℕ → Call → List Call → List Call
times zero c cs = cs
times (suc n) c cs = c ∷ times n c cs

-- two low ticks and sixteen high ones
unfoldable pub noise : List Call
noise = times 2 (tick low) (times 16 (tick high) [])

all_reached : (cs : List Call) (s : DaliBitbangPhy) → Reached s → Reached (after_all cs s)
unfolding after_all
all_reached [] s reached = reached
all_reached (c ∷ cs) s reached = all_reached cs (after c s) (called c reached)

holds_noise : let s = after_all noise new_station in IsIdle s × IsReady s
unfolding noise times after_all after new_station new_core tick_of tick_in runs_counted idled idle_tick silent fell entered sampled high_run rx_tick went_on filled notified finished took_rx is_completed pick
holds_noise = (refl, refl)

pub hears_after_noise : (hb : HalfBitBuffer) (byte : ℕ) → byte < 256 → Hears hb byte (after_all noise new_station)
hears_after_noise hb byte h = hears_amid hb byte h (after_all noise new_station) (all_reached noise new_station new) holds_noise.0
