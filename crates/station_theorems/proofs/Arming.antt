-- The armed ticks of a started station (specs/OverTicks, Tx). Assumes nothing.
use Rattle.std.specs.Prelude.{Result, ⊤}
use Prim.Native.Nat.{ℕ, suc, ◌+◌, ◌≤◌, ◌<◌}
use native.Mathlib.Omega.{arith}
use native.Mathlib.Nat.{zero-add}
use mathlib.Core.Bool.{Bool, true, false, false≢true, not, ◌&&◌}
use mathlib.Core.List.{List}
use mathlib.Core.Path.{◌≡◌, refl, sym, ◌∙◌, ap}
use lib.Dec.{eqb, leb}
use lib.ListN.{length, replicate, length-replicate}
use borrow.Author.Tests.{eqb-false, eq-eqb, ne_eqb, lt-leb}
use Rattle.laws.specs.Pick.{pick}
use Rattle.laws.proofs.Joined.{parts, is_not}
use Rattle.laws.proofs.Picked.{on_true, on_false, cases}
use Rattle.halfbits.specs.declared.HalfBitBuffer.{HalfBitBuffer}
use Rattle.halfbits.specs.Wave.{low}
use Rattle.machine.specs.declared.BusState.{BusState}
use Rattle.machine.specs.declared.BusState.TheVariants as bus
use Rattle.machine.specs.Runs.{runs_counted}
use Rattle.machine.specs.BecomingIdle.{idled}
use Rattle.machine.specs.Idle.{idle_tick, entered, silent, fell}
use Rattle.machine.specs.Sending.{tx_hb_of, armed_step, Step, Arm, Yield, Drive, clash_of, releases_at, tx_step, armed, yielded, driven, after_step}
use Rattle.machine.specs.Starting.{loaded}
use Rattle.fsm.specs.declared.DaliBitbangPhy.{DaliBitbangPhy}
use Rattle.fsm.specs.declared.Answered.{Answered}
use Rattle.fsm.specs.declared.StartError.{StartError}
use Rattle.std.specs.declared.result.Result.TheVariants as result
use Rattle.fsm.specs.declared.StartError.TheVariants.{Busy, BadLength}
use Rattle.fsm.specs.Station.{with_core}
use Rattle.fsm.specs.Ticking.{tick_in, tick_of}
use Rattle.machine.specs.States.{is_idle, hears}
use Rattle.fsm.specs.Starting.{length_fits, started_with, loaded_with, started, start_tx_of, start_answer_of}
use Rattle.fsm.specs.Polling.{polled}
use Rattle.station_theorems.specs.Calls.{Call, after_all, Reached}
use Rattle.station_theorems.specs.Ticks.{drives, IsSending, levels_in, ticks_in}
use Rattle.station_theorems.specs.OverTicks.{Begins, ArmedFor, Yields, FrameArmed, AnswerArmed}
use Rattle.station_theorems.proofs.Holding.{invariants}
use Rattle.station_theorems.proofs.Between.{Same}
use Rattle.station_theorems.proofs.Walking.{all_any, all_same, walk}
use Rattle.station_theorems.proofs.Clashes.{clash_told}
use Rattle.station_theorems.proofs.ByState.{tick_by}

-- ---- a start that is not refused
is_started : Result ⊤ StartError → Bool
is_started (result.Ok tt) = true
is_started (result.Err Busy) = false
is_started (result.Err BadLength) = false

refused : (x : Result ⊤ StartError) → is_started x ≡ false → x ≡ result.Ok tt → ⊥
unfolding is_started
refused x e f = false≢true (sym e ∙ ap is_started f)

pub record Taken (s : DaliBitbangPhy) (hb : HalfBitBuffer) (answer allowed : Bool) (x : Answered (Result ⊤ StartError)) : Type 0 where
  pub was : allowed ≡ true
  pub fits : length_fits hb.length ≡ true
  pub left : x.station ≡ loaded_with s hb answer

taken : (s : DaliBitbangPhy) (hb : HalfBitBuffer) (answer allowed : Bool)
    → (pick {A = Answered (Result ⊤ StartError)} allowed (started s hb answer) (started_with s (result.Err Busy))).answer ≡ result.Ok tt
    → Taken s hb answer allowed (pick {A = Answered (Result ⊤ StartError)} allowed (started s hb answer) (started_with s (result.Err Busy)))
unfolding started is_started
taken s hb answer allowed =
    let P : Answered (Result ⊤ StartError) → Type 0 = λ (x : Answered (Result ⊤ StartError)). x.answer ≡ result.Ok tt → Taken s hb answer allowed x in
    cases P allowed
    (λ ok. cases P (length_fits hb.length) (λ fits _. record { was = ok; fits = fits; left = refl }) (λ _ e. absurd (refused (result.Err BadLength) refl e)))
    (λ _ e. absurd (refused (result.Err Busy) refl e))

pub some_length : (n : ℕ) → length_fits n ≡ true → 0 < n
unfolding length_fits
some_length n e = let some : n ≡ 0 → ⊥ = eqb-false n 0 (is_not _ (parts (not (eqb n 0)) (leb n 54) e).0) in omega (arith, some)

-- ---- armed, after n ticks
record Waits (hb : HalfBitBuffer) (answer : Bool) (n : ℕ) (t : DaliBitbangPhy) : Type 0 where
  sending : IsSending t
  left : t.core.tx.tx_armed + n ≡ 3
  released : drives t ≡ true
  none : t.core.tx.tx_hb_cnt ≡ 0
  fresh : t.core.tx.tx_sp_cnt ≡ 0
  kind : t.core.tx.tx_answer ≡ answer
  store : t.tx_hb ≡ tx_hb_of hb

waits : (s : DaliBitbangPhy) (hb : HalfBitBuffer) (answer : Bool) → drives s ≡ true → Waits hb answer 0 (loaded_with s hb answer)
unfolding loaded_with loaded
waits s hb answer e = record { sending = refl; left = refl; released = e; none = refl; fresh = refl; kind = refl; store = refl }

module _ (hb : HalfBitBuffer) (answer : Bool) where
  deaf : (n : ℕ) (t : DaliBitbangPhy) → Waits hb answer n t → hears t.core.bus.bus_state ≡ false
  unfolding hears
  deaf n t h = ap hears h.sending

  kept : (n : ℕ) (t u : DaliBitbangPhy) → Same t u → Waits hb answer n t → Waits hb answer n u
  kept n t u same h =
      let bus : u.core.bus ≡ t.core.bus = same.bus in
      let tx : u.core.tx ≡ t.core.tx = same.tx in
      let store : u.tx_hb ≡ t.tx_hb = same.halfbits in
      record {
        sending = rw bus h.sending;
        left = rw tx h.left;
        released = rw bus h.released;
        none = rw tx h.none;
        fresh = rw tx h.fresh;
        kind = rw tx h.kind;
        store = rw store h.store;
      }

  module _ (n : ℕ) (t : DaliBitbangPhy) (h : Waits hb answer n t) (b : Bool) where
    by : (x : Step) → tx_step t.core.tx t.core.collision_policy t.tx_hb b ≡ x → tick_of t b ≡ with_core t (after_step x (runs_counted t.core b))
    by = tick_by t b h.sending

    module _ (few : n < 3) where
      rule : tx_step t.core.tx t.core.collision_policy t.tx_hb b ≡ armed_step t.core.tx b
      unfolding tx_step
      rule =
          let some : t.core.tx.tx_armed ≡ 0 → ⊥ = λ e. omega (arith, h.left, e) in
          simp (on_true (ap not (ne_eqb _ _ some)))

      waits_on : tx_step t.core.tx t.core.collision_policy t.tx_hb b ≡ Arm → Waits hb answer (suc n) (tick_of t b)
      unfolding after_step armed runs_counted
      waits_on e =
          rw (by Arm e)
          (record { sending = h.sending; left = omega (arith, h.left); released = h.released; none = h.none; fresh = h.fresh; kind = h.kind; store = h.store })

    -- the fourth tick
    calm : clash_of t.core.tx t.core.collision_policy t.tx_hb.tx_hb_len b ≡ false
    calm = go (clash_of t.core.tx t.core.collision_policy t.tx_hb.tx_hb_len b) refl
      where
        go : (c : Bool) → clash_of t.core.tx t.core.collision_policy t.tx_hb.tx_hb_len b ≡ c → c ≡ false
        go true e = absurd (let k = clash_told _ _ _ _ e in let no : ⊥ = omega (arith, k.left, h.fresh) in no)
        go false e = refl

    module _ (last : n ≡ 3) (some : 0 < hb.length) where
      drive : tx_step t.core.tx t.core.collision_policy t.tx_hb b
          ≡ Drive (releases_at t.tx_hb t.core.tx.tx_hb_cnt)
      unfolding tx_step tx_hb_of
      drive =
          let unarmed : t.core.tx.tx_armed ≡ 0 = omega (arith, h.left) in
          let more : t.core.tx.tx_hb_cnt < t.tx_hb.tx_hb_len = rw h.store (omega (arith, h.none)) in
          let early : t.core.tx.tx_hb_cnt < 56 = omega (arith, h.none) in
          simp (on_false (ap not (eq-eqb _ _ unarmed)), on_false (lt-leb _ _ more), on_false calm, on_false (ap not (eq-eqb _ _ h.fresh)), on_false (lt-leb _ _ early))

      begins : Begins t b
      unfolding after_step driven runs_counted
      begins = record { sending = h.sending; one_more = ap (λ (u : DaliBitbangPhy). u.core.tx.tx_hb_cnt) (by (Drive _) drive) ∙ rw h.none }

  -- what is to be shown of n ticks
  armed_for : (n : ℕ) (t : DaliBitbangPhy) → (n ≤ 3 → Waits hb answer n t) → 0 < hb.length → ArmedFor hb n t
  armed_for n t h some = record {
    armed = λ few. let w : Waits hb answer n t = h few in record { sending = w.sending; released = w.released; none_begun = w.none };
    first = λ last level. begins n t (h (omega arith)) level last some;
    store = λ few. (h few).store;
  }

-- a low tick yields
yield_left : (t : DaliBitbangPhy) → Yields (with_core t (after_step Yield (runs_counted t.core false)))
unfolding after_step yielded idled idle_tick silent fell entered runs_counted polled tick_of tick_in pick
yield_left t = record { first_low = record { idle = refl; second = refl }; told = refl }

yields : (hb : HalfBitBuffer) (n : ℕ) (t : DaliBitbangPhy) → Waits hb false n t → n < 3 → Yields (tick_of t false)
unfolding pick
yields hb n t h few = rw (by hb false n t h false Yield (rule hb false n t h false few ∙ rw h.kind)) (yield_left t)

-- an answer goes on
answers : (hb : HalfBitBuffer) (n : ℕ) (t : DaliBitbangPhy) → Waits hb true n t → (b : Bool) → n < 3 → Waits hb true (suc n) (tick_of t b)
answers hb n t h b few = waits_on hb true n t h b few (rule hb true n t h b few ∙ either)
  where
    no_yield : (b : Bool) → (not b && not t.core.tx.tx_answer) ≡ false
    no_yield true = refl
    no_yield false = ap not h.kind

    either : armed_step t.core.tx b ≡ Arm
    either = on_false (no_yield b) Yield Arm

-- ---- both starts
module _ (s : DaliBitbangPhy) (r : Reached s) (hb : HalfBitBuffer) where
  pub quiet : hears s.core.bus.bus_state ≡ true → drives s ≡ true
  quiet = (invariants s r).released

  pub idle_hears : (b : BusState) → is_idle b ≡ true → hears b ≡ true
  unfolding is_idle hears
  idle_hears bus.Idle e = refl
  idle_hears bus.Rx e = refl
  idle_hears bus.Tx e = absurd (false≢true e)
  idle_hears bus.CollisionTx e = absurd (false≢true e)

  module _ (ok : (start_tx_of s hb).answer ≡ result.Ok tt) where
    pub tx_taken : Taken s hb false (is_idle s.core.bus.bus_state) (start_tx_of s hb)
    unfolding start_tx_of
    tx_taken = taken s hb false (is_idle s.core.bus.bus_state) ok

    frame_waits : (calls : List Call) (n : ℕ) → levels_in calls ≡ replicate n true → n ≤ 3 → Waits hb false n (after_all calls (start_tx_of s hb).station)
    unfolding pick
    frame_waits calls n e few =
        let count : ticks_in calls ≡ n = ap length e ∙ length-replicate n true in
        let begin : Waits hb false 0 (start_tx_of s hb).station = rw tx_taken.left (waits s hb false (quiet (idle_hears _ tx_taken.was))) in
        let on : Waits hb false (0 + ticks_in calls) (after_all calls (start_tx_of s hb).station)
        = walk (Waits hb false) (λ x. x ≡ true) 3 (deaf hb false) (kept hb false)
        (λ k t b h less w. waits_on hb false k t w b less (rule hb false k t w b less ∙ rw h))
        calls 0 (start_tx_of s hb).station (rw e (all_same n true)) begin (omega arith) in
        let plain : 0 + ticks_in calls ≡ n = omega arith in
        rw plain at on

  module _ (ok : (start_answer_of s hb).answer ≡ result.Ok tt) where
    pub answer_taken : Taken s hb true (hears s.core.bus.bus_state) (start_answer_of s hb)
    unfolding start_answer_of
    answer_taken = taken s hb true (hears s.core.bus.bus_state) ok

    answer_waits : (calls : List Call) → ticks_in calls ≤ 3 → Waits hb true (ticks_in calls) (after_all calls (start_answer_of s hb).station)
    answer_waits calls few =
        let begin : Waits hb true 0 (start_answer_of s hb).station = rw answer_taken.left (waits s hb true (quiet answer_taken.was)) in
        let on : Waits hb true (0 + ticks_in calls) (after_all calls (start_answer_of s hb).station)
        = walk (Waits hb true) (λ _. Unit {0}) 3 (deaf hb true) (kept hb true) (λ k t b _ less w. answers hb k t w b less)
        calls 0 (start_answer_of s hb).station (all_any (levels_in calls)) begin (omega arith) in
        rw (zero-add (ticks_in calls)) at on

pub frame_armed : FrameArmed
frame_armed s r hb ok calls n e =
    let t : DaliBitbangPhy = after_all calls (start_tx_of s hb).station in (
      armed_for hb false n t (frame_waits s r hb ok calls n e) (some_length _ (tx_taken s r hb ok).fits),
      λ few. yields hb n t (frame_waits s r hb ok calls n e (omega arith)) few,
    )

pub answer_armed : AnswerArmed
answer_armed s r hb ok calls =
    let t : DaliBitbangPhy = after_all calls (start_answer_of s hb).station in (
      armed_for hb true (ticks_in calls) t (answer_waits s r hb ok calls) (some_length _ (answer_taken s r hb ok).fits),
      λ few. (answers hb (ticks_in calls) t (answer_waits s r hb ok calls (omega arith)) low few).sending,
    )
