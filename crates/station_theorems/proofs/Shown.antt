-- Stations that calls lead to, computed: each state is reached, and so is every hypothesis of the invariants and of the statements over
-- ticks. Assumes nothing.
use Prim.Native.Nat.{ℕ, zero, suc, ◌+◌, ◌-◌, ◌≤◌, ◌<◌}
use native.Mathlib.Omega.{arith}
use native.Mathlib.Decide.{dec_lt}
use mathlib.Core.Bool.{Bool, true, false, false≢true}
use mathlib.Core.Path.{◌≡◌, refl, ◌∙◌, ap}
use mathlib.Core.List.{List, [], ◌∷◌}
use mathlib.Core.Logic.{◌⊎◌}
use lib.Dec.{leb}
use lib.ListN.{replicate}
use borrow.Author.Tests.{le-leb, lt-leb}
use Rattle.laws.specs.Packed.{packed}
use Rattle.laws.specs.Pick.{pick}
use Rattle.laws.specs.Tabulate.{tabulate}
use Rattle.laws.proofs.Picked.{on_true, on_false}
use Rattle.halfbits.specs.declared.HalfBitBuffer.{HalfBitBuffer}
use Rattle.machine.specs.declared.BusState.TheVariants as bus
use Rattle.machine.specs.declared.RxState.TheVariants.{Completed}
use Rattle.machine.specs.Runs.{runs_counted}
use Rattle.machine.specs.BecomingIdle.{idled}
use Rattle.fsm.specs.Rx.{high_run, sampled, finished, filled, notified, rx_tick, went_on}
use Rattle.machine.specs.Idle.{entered, idle_tick, silent, fell}
use Rattle.machine.specs.Sending.{half_bits_in, tx_hb_of, watches_of, clash_of, releases_at, tx_step, armed, clashed, held, driven, after_step, tx_tick}
use Rattle.machine.specs.Collision.{broke, collision_tick}
use Rattle.machine.specs.Starting.{loaded}
use Rattle.fsm.specs.declared.DaliBitbangPhy.{DaliBitbangPhy}
use Rattle.fsm.specs.declared.TxPollResult.TheVariants.{Yielded}
use Rattle.fsm.specs.Station.{new_core, new_station}
use Rattle.fsm.specs.Ticking.{tick_in, tick_of}
use Rattle.machine.specs.States.{is_tx, is_idle, hears}
use Rattle.std.specs.declared.result.Result.TheVariants as result
use Rattle.fsm.specs.Polling.{polled}
use Rattle.fsm.specs.Starting.{length_fits, loaded_with, started, start_tx_of, start_answer_of}
use Rattle.station_theorems.specs.Calls.{Call, tick, start_tx, poll, after, after_all, is_answer, NoAnswer, Reached, new, called}
use Rattle.station_theorems.specs.Ticks.{IsIdle, IsSending, IsBreaking, StaysSending, highs_running, level_in, levels_in}
use Rattle.station_theorems.specs.OverTicks.{run_of, idle_count, NoLow, OneLow, InIdle, Hears, Captured, begun, to_send, Begins, Drives, Yields, Watches, IsClash, SeesClash, Sent, a_frame, Break}
use Rattle.station_theorems.proofs.Counts.{run_lengths, becomes_idle}
use Rattle.station_theorems.proofs.Captures.{idle_ticks, capture_ends}
use Rattle.station_theorems.proofs.HalfBits.{half_bits_driven, half_bit_ticks}
use Rattle.station_theorems.proofs.LastHalfBit.{last_half_bit, sent_whole}
use Rattle.station_theorems.proofs.Arming.{frame_armed, answer_armed}
use Rattle.station_theorems.proofs.Clashes.{clash_seen}
use Rattle.station_theorems.proofs.Breaking.{break_ticks}
use Rattle.station_theorems.proofs.Timing.{sends_on_time}

-- the same call so many times
times : ℕ → Call → List Call → List Call
times zero c cs = cs
times (suc n) c cs = c ∷ times n c cs

-- the station that calls lead to, the last of them first
run : List Call → DaliBitbangPhy
run [] = new_station
run (c ∷ cs) = after c (run cs)

reached : (cs : List Call) → Reached (run cs)
unfolding run
reached [] = new
reached (c ∷ cs) = called c (reached cs)

low : Call
low = tick false

high : Call
high = tick true

-- one released half-bit after another, 54 of them
released : HalfBitBuffer
released = record { «data» = 0 ∷ 0 ∷ 0 ∷ 0 ∷ 0 ∷ 0 ∷ 0 ∷ []; length = 54 }

sends : List Call
sends = start_tx released ∷ []

-- three armed ticks, the first tick of a half-bit, its second, and on its third the line is low
clash : List Call
clash = low ∷ times 5 high sends

-- two low ticks and sixteen high
capture : List Call
capture = times 16 high (times 2 low [])

-- what these calls lead to
record Leads : Type 0 where
  debounces : (run (low ∷ [])).core.bus.rx_debounce ≡ 1
  receives : (run (times 2 low [])).core.bus.bus_state ≡ bus.Rx
  completes : (run capture).core.told.rx_state ≡ Completed
  sends_it : (run sends).core.bus.bus_state ≡ bus.Tx
  breaks : (run clash).core.bus.bus_state ≡ bus.CollisionTx
  collides : (run clash).core.told.tx_collision ≡ 1
  -- the line is high after the break
  finds_idle : (run (times 14 high clash)).core.told.tx_idle_after_break ≡ true

leads : Leads
unfolding times run low high released sends clash capture after new_station new_core tick_of tick_in runs_counted idled idle_tick silent fell entered sampled high_run rx_tick went_on filled notified finished start_tx_of is_idle length_fits started loaded_with loaded tx_hb_of half_bits_in packed tx_tick tx_step clash_of watches_of releases_at after_step armed held driven clashed collision_tick broke pick
leads = record { debounces = refl; receives = refl; completes = refl; sends_it = refl; breaks = refl; collides = refl; finds_idle = refl }

-- ---- what the statements over ticks ask for
-- one half-bit to be sent
short : HalfBitBuffer
short = record { «data» = 0 ∷ 0 ∷ 0 ∷ 0 ∷ 0 ∷ 0 ∷ 0 ∷ []; length = 1 }

-- a station whose next tick is the fourth after a start
waits : HalfBitBuffer → DaliBitbangPhy
waits hb = run (times 3 high (start_tx hb ∷ []))

record Asked : Type 0 where
  none_yet : NoLow new_station
  one_yet : OneLow (run (low ∷ []))
  frame_taken : (start_tx_of new_station released).answer ≡ result.Ok tt
  answer_taken : (start_answer_of (run (times 2 low [])) released).answer ≡ result.Ok tt
  -- a half-bit that isn't the last, its second tick and a poll, and a low third tick
  half_bit : Begins (waits released) true
  not_last : begun (tick_of (waits released) true) < to_send (waits released)
  goes_on : IsSending (after_all (high ∷ poll ∷ []) (tick_of (waits released) true))
  third : IsClash 3 (after_all (high ∷ poll ∷ []) (tick_of (waits released) true)) false
  -- one that is
  last : Begins (waits short) true
  all_begun : begun (tick_of (waits short) true) ≡ to_send (waits short)
  ends : IsSending (tick_of (waits short) true) × IsIdle (tick_of (tick_of (waits short) true) false)
  -- six ticks after a start, and a low seventh
  stays : StaysSending (times 6 high []) (start_tx_of new_station released).station
  fourth : IsClash 4 (after_all (times 6 high []) (start_tx_of new_station released).station) false
  sees : IsSending (run (times 5 high sends)) × IsBreaking (tick_of (run (times 5 high sends)) false)
  becomes_idle : (IsIdle (run (times 15 high (times 2 low []))) → ⊥) × IsIdle (tick_of (run (times 15 high (times 2 low []))) true)
  new_idle : IsIdle new_station

asked : Asked
unfolding times run low high released sends clash capture after new_station new_core tick_of tick_in runs_counted idled idle_tick silent fell entered sampled high_run rx_tick went_on filled notified finished start_tx_of is_idle length_fits started loaded_with loaded tx_hb_of half_bits_in packed tx_tick tx_step clash_of watches_of releases_at after_step armed held driven clashed collision_tick broke pick hears short waits start_answer_of Watches after_all StaysSending polled is_tx
asked = record {
  none_yet = record { idle = refl; alone = refl };
  one_yet = record { idle = refl; second = refl };
  frame_taken = refl;
  answer_taken = refl;
  half_bit = record { sending = refl; one_more = refl };
  not_last = omega arith;
  goes_on = refl;
  third = record { released = refl; watched = λ e. omega (arith, e); third = omega arith; fourth = omega arith; fell = refl };
  last = record { sending = refl; one_more = refl };
  all_begun = refl;
  ends = (refl, refl);
  stays = (refl, (refl, (refl, (refl, (refl, (refl, refl))))));
  fourth = record { released = refl; watched = λ e. omega (arith, e); third = omega arith; fourth = omega arith; fell = refl };
  sees = (refl, refl);
  becomes_idle = (λ e. false≢true (ap is_idle e), refl);
  new_idle = refl;
}

-- calls whose ticks sample any levels, with a poll after each
polling : ℕ → (ℕ → Bool) → List Call
polling zero f = []
polling (suc n) f = tick (f 0) ∷ poll ∷ polling n (λ i. f (suc i))

polling_samples : (n : ℕ) (f : ℕ → Bool) → levels_in (polling n f) ≡ tabulate n f
unfolding polling levels_in level_in tabulate
polling_samples zero f = refl
polling_samples (suc n) f = ap (λ l. f 0 ∷ l) (polling_samples n (λ i. f (suc i)))

polling_no_answer : (n : ℕ) (f : ℕ → Bool) → NoAnswer (polling n f)
unfolding polling NoAnswer is_answer
polling_no_answer zero f = tt
polling_no_answer (suc n) f = (refl, (refl, polling_no_answer n (λ i. f (suc i))))

-- ticks that sample one level
ticks_of : (n : ℕ) (level : Bool) → levels_in (times n (tick level) []) ≡ replicate n level
unfolding times levels_in level_in
ticks_of zero level = refl
ticks_of (suc n) level = ap (λ l. level ∷ l) (ticks_of n level)

-- ---- the statements used on them
-- a capture of any levels, in as many ticks as they last
hears_any : (level : ℕ → Bool) (n : ℕ) → level 0 ≡ false → level 1 ≡ false → ((k : ℕ) → k ≤ 2 + n → highs_running k level < 16)
    → Hears (run (low ∷ [])) level n (polling n (λ i. level (2 + i)))
hears_any level n e f lasts = record {
  reached = reached (low ∷ []);
  starts = asked.one_yet;
  two_lows = (e, f);
  ticks = polling_samples n (λ i. level (2 + i));
  unanswered = polling_no_answer n (λ i. level (2 + i));
  lasts = lasts;
}

-- 600 low ticks and sixteen high: more than the store holds
long : ℕ → Bool
long i = leb 600 i

long_highs : (k : ℕ) → highs_running k long ≡ k - 600
unfolding highs_running long
long_highs zero = refl
long_highs (suc k) = go (dec_lt k 600) (long_highs k)
  where
    go : Dec (k < 600) → highs_running k long ≡ k - 600 → highs_running (suc k) long ≡ suc k - 600
    go (yes early) h = on_false (lt-leb 600 k early) _ _ ∙ (let e : 0 ≡ suc k - 600 = omega arith in e)
    go (no late) h = on_true (le-leb 600 k (omega (arith, late))) _ _ ∙ ap suc h ∙ (let e : suc (k - 600) ≡ suc k - 600 = omega (arith, late) in e)

hears_long : Hears (run (low ∷ [])) long 613 (polling 613 (λ i. long (2 + i)))
unfolding long
hears_long = hears_any long 613 refl refl (λ k le. let few : k - 600 < 16 = omega arith in rw (long_highs k) few)

long_captured : Captured (run (low ∷ [])) long 616 (tick_of (after_all (polling 613 (λ i. long (2 + i))) (tick_of (run (low ∷ [])) false)) (long 615))
long_captured = capture_ends (run (low ∷ [])) long 613 (polling 613 (λ i. long (2 + i))) hears_long (long_highs 616)

-- the other statements, each with other calls between the ticks or with levels that try it
frame_used : Yields (tick_of (after_all (times 2 high []) (start_tx_of new_station released).station) false)
unfolding high
frame_used = (frame_armed new_station new released asked.frame_taken (times 2 high []) 2 (ticks_of 2 true)).1 (omega arith)

answer_used : Begins (after_all (times 3 low []) (start_answer_of (run (times 2 low [])) released).station) false
unfolding times low levels_in level_in
answer_used = (answer_armed (run (times 2 low [])) (reached (times 2 low [])) released asked.answer_taken (times 3 low [])).0.first refl false

clash_used : IsBreaking (tick_of (after_all (high ∷ poll ∷ []) (tick_of (waits released) true)) false)
unfolding high waits levels_in level_in
clash_used =
    (half_bit_ticks (waits released) (reached _) true asked.half_bit asked.not_last (high ∷ poll ∷ []) (omega arith) asked.goes_on false).clash asked.third

last_used : Sent (tick_of (after_all (poll ∷ []) (tick_of (waits short) true)) false)
unfolding waits levels_in level_in
last_used = last_half_bit (waits short) (reached _) true asked.last asked.all_begun (poll ∷ []) refl false

time_used : IsBreaking (tick_of (after_all (times 6 high []) (start_tx_of new_station released).station) false)
unfolding high released times levels_in level_in
time_used =
    (sends_on_time new_station new released _ (a_frame asked.frame_taken) (times 6 high []) asked.stays).clash false (omega arith) (omega arith) asked.fourth

break_used : Break (times 13 low []) (after_all (times 13 low []) (tick_of (run (times 5 high sends)) false))
break_used = break_ticks (run (times 5 high sends)) (reached (times 5 high sends)) false asked.sees.0 asked.sees.1 (times 13 low [])

record Used : Type 0 where
  runs : (run_of false (after_all (times 70000 low []) (tick_of new_station true)) ≡ 65535) × (run_of true (after_all (times 70000 low []) (tick_of new_station true)) ≡ 0)
  idle : InIdle new_station
  driven : Drives (waits released) true
  whole : (to_send (tick_of (waits short) true) ≤ begun (tick_of (waits short) true)) ⊎ ((polled (tick_of (tick_of (waits short) true) false)).answer ≡ Yielded)
  clash : SeesClash (run (times 5 high sends)) false
  becomes : idle_count (tick_of (run (times 15 high (times 2 low []))) true) ≡ run_of true (tick_of (run (times 15 high (times 2 low []))) true)

used : Used
unfolding low waits after
used = record {
  runs = run_lengths new_station false (times 70000 low []) 70000 (ticks_of 70000 false) (omega arith);
  idle = idle_ticks new_station new asked.new_idle;
  driven = half_bits_driven (waits released) true asked.half_bit;
  whole = sent_whole (tick_of (waits short) true) (called (tick true) (reached _)) asked.ends.0 false asked.ends.1;
  clash = clash_seen (run (times 5 high sends)) (reached (times 5 high sends)) asked.sees.0 false asked.sees.1;
  becomes = becomes_idle (run (times 15 high (times 2 low []))) true asked.becomes_idle.0 asked.becomes_idle.1;
}
