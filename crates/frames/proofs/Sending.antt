-- From frame to wave (specs/FrameToWave, NextFrame, Amid). Assumes nothing.
use Prim.Native.Nat.{ℕ, zero, suc, ◌+◌, ◌-◌, ◌*◌, ◌/◌, ◌%◌, ◌<◌, ◌≤◌}
use native.Mathlib.Nat.{add-suc, not-suc-le-zero}
use native.Mathlib.Decide.{dec_lt}
use native.Mathlib.Omega.{arith}
use mathlib.Core.Bool.{Bool, true, false, not, false≢true}
use mathlib.Core.List.{List, [], ◌∷◌}
use mathlib.Core.Path.{◌≡◌, refl, sym, ◌∙◌, ap}
use lib.ListN.{length}
use borrow.Author.Tests.{le-leb, ne_eqb}
use Rattle.laws.specs.Pick.{pick}
use Rattle.laws.proofs.Picked.{on_true}
use Rattle.halfbits.specs.declared.HalfBitBuffer.{HalfBitBuffer}
use Rattle.halfbits.specs.Frame.{Frame, frame_bits}
use Rattle.halfbits.specs.Wave.{high, level_at}
use Rattle.halfbits.specs.HalfBits.{pulls, half_bits_of, buffer_of}
use Rattle.halfbits.specs.Encoding.{is_bit_count, frame_of, encoded_of}
use Rattle.halfbits.proofs.Levels.{later_level, half_bits_are_the_wave}
use Rattle.halfbits.proofs.Encodes.{few, as_many}
use Rattle.laws.proofs.Joined.{joins}
use Rattle.machine.specs.Sending.{tx_hb_of}
use Rattle.machine.specs.declared.BusState.{BusState}
use Rattle.machine.specs.declared.BusState.TheVariants as bus
use Rattle.machine.specs.declared.CollisionPolicy.{CollisionPolicy}
use Rattle.machine.specs.Starting.{loaded}
use Rattle.fsm.specs.declared.DaliBitbangPhy.{DaliBitbangPhy}
use Rattle.std.specs.declared.result.Result.TheVariants as result
use Rattle.fsm.specs.declared.StartError.TheVariants.{Busy}
use Rattle.fsm.specs.declared.TxPollResult.TheVariants.{Ok, Transmitting}
use Rattle.fsm.specs.Starting.{length_fits, started_with, loaded_with, started, start_tx_of, start_answer_of}
use Rattle.machine.specs.States.{is_idle, hears, is_tx}
use Rattle.fsm.specs.Polling.{polled}
use Rattle.station_theorems.specs.Calls.{after, Reached, called}
use Rattle.station_theorems.specs.Calls as call
use Rattle.station_theorems.proofs.Holding.{invariants}
use Rattle.station_theorems.specs.Ticks.{drives, IsIdle, IsSending, alone}
use Rattle.frames.specs.Sends.{Start, by_start_tx, by_start_answer, started_by, taken_in, MayStart, FitsBuffer, idle_at, SendsAt, Sends}
use Rattle.frames.specs.FrameToWave.{BitsToWave, FrameToWave}
use Rattle.frames.specs.NextFrame.{Sending, AllFit, after_sending, first_of, NextFrameToWave}
use Rattle.frames.specs.Hosts.{Host, alone_amid, LetsSend}
use Rattle.frames.specs.Amid.{BitsToWaveAmid, FrameToWaveAmid}
use Rattle.frames.proofs.SendingTicks.{next, Sender, own_level, arm, hold, drive, Rests, finish, rest, sends_on, rests_on}

-- ---- so many ticks into the wave
module _ (bits : List Bool) where
  -- the one at which the last half-bit begins
  abbrev pub last_tick : ℕ
  last_tick = 4 * (half_bits_of (length bits) - 1)

  past : (p : ℕ) → last_tick < p → level_at bits p ≡ high
  past p h =
      let e : p ≡ 8 * (p / 8) + p % 8 = omega arith in
      ap (level_at bits) e ∙ later_level bits (p / 8) (p % 8) (omega arith)

  same_level : (p q : ℕ) → p / 4 ≡ q / 4 → level_at bits p ≡ level_at bits q
  same_level p q e = half_bits_are_the_wave bits p ∙ ap (λ j. not (pulls bits j)) e ∙ sym (half_bits_are_the_wave bits q)

module _ (bits : List Bool) (policy : CollisionPolicy) where
  abbrev pub At : ℕ → DaliBitbangPhy → Type 0
  At p s = Sender bits policy 0 (p / 4 + 1) (3 - p % 4) (level_at bits p) s

  one_more : FitsBuffer bits → (p : ℕ) {s : DaliBitbangPhy} → p < last_tick bits → At p s → At (suc p) (next s)
  one_more fits p {s} h a = go (dec_lt (p % 4) 3)
    where
      go : Dec (p % 4 < 3) → At (suc p) (next s)
      go (yes within) =
          let same : suc p / 4 ≡ p / 4 = omega arith in
          let left : 3 - p % 4 ≡ suc (3 - suc p % 4) = omega arith in
          rw (same, same_level bits (suc p) p same) (hold fits (omega arith) (drives s) (own_level a) (rw left at a))
      go (no over) =
          let begun : suc p / 4 ≡ p / 4 + 1 = omega arith in
          let none : 3 - p % 4 ≡ 0 = omega arith in
          let three : 3 - suc p % 4 ≡ 3 = omega arith in
          let here : 4 * (p / 4 + 1) ≡ suc p = omega arith in
          rw (begun, three, ← here) (drive fits (omega arith) (drives s) (own_level a) (rw none at a))

-- ---- every tick after a start
-- what a station tells that sends, and one that has sent
says_transmitting : {bits : List Bool} {policy : CollisionPolicy} {ticks j left : ℕ} {level : Bool} {s : DaliBitbangPhy}
    → Sender bits policy ticks j left level s → (polled s).answer ≡ Transmitting
unfolding polled is_tx pick
says_transmitting a = rw (a.clear.1, a.clear.0, a.state)

refuses : (s : DaliBitbangPhy) → IsSending s → (by : Start) (hb : HalfBitBuffer) → (started_by by s hb).answer ≡ result.Err Busy
unfolding started_by start_tx_of start_answer_of is_idle hears pick
refuses s sending by_start_tx hb = rw sending
refuses s sending by_start_answer hb = rw sending

says_ok : (s : DaliBitbangPhy) → Rests s → (polled s).answer ≡ Ok
unfolding polled is_tx pick
says_ok s r = rw (r.2.1, r.2.0, r.0)

-- The station after so many ticks, and its policy then. What comes between two ticks leaves it sending, and later resting.
module _ (bits : List Bool) (fits : FitsBuffer bits) (at : ℕ → DaliBitbangPhy → DaliBitbangPhy) (s : DaliBitbangPhy) (policy : ℕ → CollisionPolicy)
    (first : Sender bits (policy 0) 3 0 0 high (at 0 s))
    (on : (n ticks j left : ℕ) (level : Bool) → Sender bits (policy n) ticks j left level (next (at n s))
    → Sender bits (policy (suc n)) ticks j left level (at (suc n) s))
    (off : (n : ℕ) → idle_at (length bits) ≤ suc n → Rests (next (at n s)) → Rests (at (suc n) s)) where
  arming : (tick : ℕ) → tick < 4 → Sender bits (policy tick) (3 - tick) 0 0 high (at tick s)
  arming zero h = first
  arming (suc tick) h =
      let e : 3 - tick ≡ suc (3 - suc tick) = omega arith in
      on tick _ _ _ _ (arm (rw e at (arming tick (omega arith))))

  waves : (p : ℕ) → p ≤ last_tick bits → At bits (policy (4 + p)) p (at (4 + p) s)
  waves zero h = let last = arming 3 (omega arith) in on 3 _ _ _ _ (drive fits (omega arith) (drives (at 3 s)) (own_level last) last)
  waves (suc p) h = rw (add-suc 4 p) (on (4 + p) _ _ _ _ (one_more bits (policy (4 + p)) fits p (omega arith) (waves p (omega arith))))

  resting_on : (n : ℕ) → Rests (at (idle_at (length bits) + n) s)
  resting_on zero =
      let e : idle_at (length bits) + 0 ≡ suc (4 + last_tick bits) = omega arith in
      let all : last_tick bits / 4 + 1 ≡ half_bits_of (length bits) = omega arith in
      rw e (off (4 + last_tick bits) (omega arith) (finish (rw all at (waves (last_tick bits) (omega arith)))))
  resting_on (suc n) = rw (add-suc (idle_at (length bits)) n) (off (idle_at (length bits) + n) (omega arith) (rest _ (resting_on n)))

  resting : (tick : ℕ) → idle_at (length bits) ≤ tick → Rests (at tick s)
  resting tick h =
      let e : tick ≡ idle_at (length bits) + (tick - idle_at (length bits)) = omega arith in
      rw e (resting_on (tick - idle_at (length bits)))

  sends_all : SendsAt bits at s
  sends_all = record {
    armed = λ tick h. (arming tick h).line;
    wave = λ p. wave p (dec_lt (last_tick bits) p);
    sending = λ tick h. (sending tick h (dec_lt tick 4)).0;
    unfinished = λ tick h. (sending tick h (dec_lt tick 4)).1;
    busy = λ tick h. refuses (at tick s) (sending tick h (dec_lt tick 4)).0;
    idle = λ tick h. (resting tick h).0;
    sent = λ tick h. says_ok _ (resting tick h);
  }
    where
      wave : (p : ℕ) → Dec (last_tick bits < p) → drives (at (4 + p) s) ≡ level_at bits p
      wave p (yes over) = (resting (4 + p) (omega arith)).1 ∙ sym (past bits p over)
      wave p (no within) = (waves p (omega arith)).line

      sending : (tick : ℕ) → tick < idle_at (length bits) → Dec (tick < 4) → IsSending (at tick s) × ((polled (at tick s)).answer ≡ Transmitting)
      sending tick h (yes early) = let a = arming tick early in (a.state, says_transmitting a)
      sending tick h (no later) =
          let e : tick ≡ 4 + (tick - 4) = omega arith in
          let a = waves (tick - 4) (omega arith) in
          rw e (a.state, says_transmitting a)

-- with nothing between the ticks
module _ (bits : List Bool) (policy : CollisionPolicy) (fits : FitsBuffer bits) (s : DaliBitbangPhy) (a : Sender bits policy 3 0 0 high s) where
  pub waving : (p : ℕ) → p ≤ last_tick bits → At bits policy p (alone (4 + p) s)
  unfolding alone
  waving = waves bits fits alone s (λ n. policy) a (λ n ticks j left level b. b) (λ n h r. r)

  pub sends : Sends bits s
  unfolding alone
  sends = sends_all bits fits alone s (λ n. policy) a (λ n ticks j left level b. b) (λ n h r. r)

-- with the calls of a host
sends_amid : (bits : List Bool) {policy : CollisionPolicy} → FitsBuffer bits → (s : DaliBitbangPhy) → Sender bits policy 3 0 0 high s
    → (host : Host) → LetsSend (length bits) host → SendsAt bits (alone_amid host) s
unfolding alone_amid
sends_amid bits fits s a host lets =
    sends_all bits fits (alone_amid host) s (λ n. (alone_amid host n s).core.collision_policy) (sends_on (host 0) (lets.in_tx 0) a)
    (λ n ticks j left level b. sends_on (host (suc n)) (lets.in_tx (suc n)) b) (λ n h r. rests_on (host (suc n)) _ (lets.idle (suc n) h) r)

-- ---- the start
is_answer : Start → Bool
is_answer by_start_tx = false
is_answer by_start_answer = true

-- Idle is where either is taken
pub idle_may : (by : Start) (s : DaliBitbangPhy) → IsIdle s → MayStart by s
unfolding taken_in is_idle hears
idle_may by_start_tx s idle = rw idle
idle_may by_start_answer s idle = rw idle

-- a station that may start listens, so that it leaves the line high
may_hear : (by : Start) (state : BusState) → taken_in by state ≡ true → hears state ≡ true
unfolding taken_in is_idle hears
may_hear by bus.Idle may = refl
may_hear by bus.Rx may = refl
may_hear by_start_tx bus.Tx may = may
may_hear by_start_answer bus.Tx may = may
may_hear by_start_tx bus.CollisionTx may = may
may_hear by_start_answer bus.CollisionTx may = may

-- and refuses no length that fits
accepted : (by : Start) (s : DaliBitbangPhy) (hb : HalfBitBuffer) → MayStart by s → 0 < hb.length → hb.length ≤ 54
    → started_by by s hb ≡ started_with (loaded_with s hb (is_answer by)) (result.Ok tt)
unfolding started_by is_answer taken_in start_tx_of start_answer_of started length_fits
accepted by s hb may some most = go by may
  where
    fits : length_fits hb.length ≡ true
    fits = joins (ap not (ne_eqb hb.length 0 (λ e. omega (arith, e)))) (le-leb hb.length 54 most)

    go : (by : Start) → MayStart by s → started_by by s hb ≡ started_with (loaded_with s hb (is_answer by)) (result.Ok tt)
    go by_start_tx may = let idle : is_idle s.core.bus.bus_state ≡ true = may in on_true idle _ _ ∙ on_true fits _ _
    go by_start_answer may = let listens : hears s.core.bus.bus_state ≡ true = may in on_true listens _ _ ∙ on_true fits _ _

loaded_sends : (bits : List Bool) (s : DaliBitbangPhy) (answer : Bool) → drives s ≡ high
    → Sender bits s.core.collision_policy 3 0 0 high (loaded_with s (buffer_of bits) answer)
unfolding loaded_with loaded buffer_of tx_hb_of
loaded_sends bits s answer line = record {
  state = refl;
  store = refl;
  loads = refl;
  watch = refl;
  arms = refl;
  begun = refl;
  spaces = refl;
  line = line;
  pulled = λ e. absurd (false≢true (sym e));
  released = λ none. absurd (not-suc-le-zero none);
  clear = (refl, refl);
}

-- The start is taken, and the station is ready to send.
takes : (bits : List Bool) → FitsBuffer bits → (s : DaliBitbangPhy) → Reached s → (by : Start) → MayStart by s
    → let started = started_by by s (buffer_of bits) in
    (started.answer ≡ result.Ok tt) × Sender bits s.core.collision_policy 3 0 0 high started.station
unfolding buffer_of
takes bits fits s reached by may =
    let line : drives s ≡ high = (invariants s reached).released (may_hear by s.core.bus.bus_state may) in
    rw (accepted by s (buffer_of bits) may (omega arith) fits) (refl, loaded_sends bits s (is_answer by) line)

-- An Idle station takes either.
pub begins : (bits : List Bool) → FitsBuffer bits → (s : DaliBitbangPhy) → Reached s → IsIdle s → (by : Start)
    → let started = started_by by s (buffer_of bits) in
    (started.answer ≡ result.Ok tt) × Sender bits s.core.collision_policy 3 0 0 high started.station
begins bits fits s reached idle by = takes bits fits s reached by (idle_may by s idle)

-- ---- the theorems
pub bits_to_wave_amid : BitsToWaveAmid
bits_to_wave_amid bits fits s reached by may host lets =
    let (answer, sender) = takes bits fits s reached by may in
    (answer, sends_amid bits fits _ sender host lets)

pub bits_to_wave : BitsToWave
bits_to_wave bits fits s reached by may =
    let (answer, sender) = takes bits fits s reached by may in
    (answer, sends bits _ fits _ sender)

module _ (bits first second third : ℕ) (counts : is_bit_count bits ≡ true) where
  abbrev frame : Frame
  frame = frame_of bits first second third

  as_long : length (frame_bits frame) ≡ bits
  as_long = as_many first second third bits counts

  fits_buffer : FitsBuffer (frame_bits frame)
  fits_buffer = omega (arith, as_long, few bits counts)

pub frame_to_wave_amid : FrameToWaveAmid
unfolding encoded_of
frame_to_wave_amid bits first second third counts s reached by may host lets =
    let lets' = rw (← as_long bits first second third counts) at lets in
    rw (on_true counts) (bits_to_wave_amid _ (fits_buffer bits first second third counts) s reached by may host lets')

pub frame_to_wave : FrameToWave
unfolding encoded_of
frame_to_wave bits first second third counts s reached by may =
    rw (on_true counts) (bits_to_wave _ (fits_buffer bits first second third counts) s reached by may)

-- starts and ticks are calls
started_reached : (by : Start) (s : DaliBitbangPhy) (hb : HalfBitBuffer) → Reached s → Reached (started_by by s hb).station
unfolding started_by after
started_reached by_start_tx s hb reached = called (call.start_tx hb) reached
started_reached by_start_answer s hb reached = called (call.start_answer hb) reached

alone_reached : (n : ℕ) (s : DaliBitbangPhy) → Reached s → Reached (alone n s)
unfolding alone after
alone_reached zero s reached = reached
alone_reached (suc n) s reached = called (call.tick (drives (alone n s))) (alone_reached n s reached)

-- Idle again after one
after_one : (one : Sending) → FitsBuffer one.row → (s : DaliBitbangPhy) → Reached s → MayStart one.by s
    → let s' = alone (idle_at (length one.row)) (started_by one.by s (buffer_of one.row)).station in Reached s' × IsIdle s'
after_one one fits s reached may =
    let ticks = idle_at (length one.row) in (
      alone_reached ticks _ (started_reached one.by s (buffer_of one.row) reached),
      (bits_to_wave one.row fits s reached one.by may).1.idle ticks (omega arith),
    )

-- and after each
pub ready : (before : List Sending) → AllFit before → (s : DaliBitbangPhy) → Reached s → IsIdle s → Reached (after_sending before s) × IsIdle (after_sending before s)
unfolding AllFit after_sending
ready [] fit s reached idle = (reached, idle)
ready (one ∷ more) fit s reached idle =
    let (reached', idle') = after_one one fit.0 s reached (idle_may one.by s idle) in
    ready more fit.1 _ reached' idle'

pub next_frame_to_wave : NextFrameToWave
unfolding AllFit after_sending first_of
next_frame_to_wave [] fit last fits s reached may = bits_to_wave last.row fits s reached last.by may
next_frame_to_wave (one ∷ more) fit last fits s reached may =
    let (reached', idle') = after_one one fit.0 s reached may in
    let (reached'', idle'') = ready more fit.1 _ reached' idle' in
    bits_to_wave last.row fits _ reached'' last.by (idle_may last.by (after_sending (one ∷ more) s) idle'')
