-- The last half-bit, and how a frame ends (specs/OverTicks, Tx). Assumes nothing.
use Prim.Native.Nat.{◌+◌, ◌≤◌}
use native.Mathlib.Omega.{arith}
use native.Mathlib.Nat.{not-suc-le-zero}
use mathlib.Core.Bool.{Bool, false, not}
use mathlib.Core.List.{List}
use mathlib.Core.Logic.{◌⊎◌, inl, inr, ⊎_elim}
use mathlib.Core.Path.{◌≡◌, refl, sym, ◌∙◌, ap}
use borrow.Author.Tests.{eq-eqb, le-leb}
use Rattle.laws.specs.Pick.{pick}
use Rattle.laws.proofs.Picked.{on_true, on_false}
use Rattle.machine.specs.declared.BusState.TheVariants as bus
use Rattle.machine.specs.Runs.{runs_counted}
use Rattle.machine.specs.BecomingIdle.{idled}
use Rattle.machine.specs.Idle.{idle_tick, silent, fell}
use Rattle.machine.specs.Sending.{Step, Arm, Yield, End, Clash, Hold, Drive, tx_step, armed, yielded, clashed, held, driven, after_step, tx_tick}
use Rattle.fsm.specs.declared.DaliBitbangPhy.{DaliBitbangPhy}
use Rattle.fsm.specs.declared.TxPollResult.TheVariants.{Ok, Yielded}
use Rattle.fsm.specs.Station.{with_core}
use Rattle.fsm.specs.Ticking.{tick_in, tick_of}
use Rattle.machine.specs.States.{is_tx}
use Rattle.fsm.specs.Polling.{polled}
use Rattle.station_theorems.specs.Calls.{Call, tick, after, after_all, called}
use Rattle.station_theorems.specs.Ticks.{IsIdle, IsSending, levels_in, ticks_in}
use Rattle.station_theorems.specs.OverTicks.{begun, to_send, NoLow, LastHalfBit, SentWhole}
use Rattle.station_theorems.proofs.Cores.{In, InOf, in_state}
use Rattle.station_theorems.proofs.Stations.{reached_whole}
use Rattle.station_theorems.proofs.Walking.{reached_all, all_any, walk}
use Rattle.station_theorems.proofs.ByState.{tick_tx, tick_by, idle_not_breaking, idle_not_sending}
use Rattle.station_theorems.proofs.HalfBits.{begin_tick, InHalf, half_begins, deaf_half, kept_half}
use Rattle.station_theorems.proofs.Steps.{Why, why}

-- ---- the last half-bit
-- nothing but calls between follows
stays : (first : DaliBitbangPhy) (calls : List Call) (t : DaliBitbangPhy) → InHalf first 0 t → ticks_in calls ≡ 0 → InHalf first 0 (after_all calls t)
stays first calls t h none =
    let g : InHalf first (0 + ticks_in calls) (after_all calls t)
    = walk (InHalf first) (λ _. Unit {0}) 0 (deaf_half first) (kept_half first)
    (λ n u b _ less k. absurd (not-suc-le-zero less))
    calls 0 t (all_any (levels_in calls)) h (omega arith) in
    rw none at g

end_tick : (first t : DaliBitbangPhy) → InHalf first 0 t → begun first ≡ to_send first → (b : Bool) → tick_of t b ≡ with_core t (idled (runs_counted t.core b))
unfolding tx_tick tx_step after_step runs_counted
end_tick first t h all b =
    let done : to_send t ≤ begun t = rw h.store (omega (arith, h.count)) in
    tick_tx t b h.sending ∙ simp (on_false (ap not (eq-eqb _ _ h.unarmed)), on_true (le-leb _ _ done))

idle_now : (t : DaliBitbangPhy) (b : Bool) → NoLow (with_core t (idled (runs_counted t.core b)))
unfolding idled runs_counted tick_of tick_in idle_tick silent fell pick
idle_now t b = record { idle = refl; alone = refl }

idle_told : (t : DaliBitbangPhy) (b : Bool) → t.core.told.tx_yielded ≡ false → t.core.told.tx_collision ≡ 0
    → (polled (with_core t (idled (runs_counted t.core b)))).answer ≡ Ok
unfolding idled runs_counted polled is_tx pick
idle_told t b calm none = rw (calm, none)

pub last_half_bit : LastHalfBit
unfolding after In
last_half_bit s r level b all calls none next =
    let first : DaliBitbangPhy = tick_of s level in
    let t : DaliBitbangPhy = after_all calls first in
    let same : first.tx_hb ≡ s.tx_hb = ap (λ (u : DaliBitbangPhy). u.tx_hb) (begin_tick s level b) in
    let h : InHalf first 0 t = stays first calls first (half_begins s level b) none in
    let i : InOf bus.Tx t.core = in_state t.core (reached_whole t (reached_all calls first (called (tick level) r))).core h.sending in
    rw (end_tick first t h (rw same all) next) (record { idle = idle_now t next; told = idle_told t next i.unyielded i.clear })

-- ---- going Idle
module _ (s : DaliBitbangPhy) (short : to_send s ≤ 54) (sending : IsSending s) (level : Bool) where
  Ends : Step → Type 0
  Ends x = IsIdle (with_core s (after_step x (runs_counted s.core level))) → (to_send s ≤ begun s) ⊎ ((polled (with_core s (after_step x (runs_counted s.core level)))).answer ≡ Yielded)

  whole : (x : Step) → Why s.core.tx s.core.collision_policy s.tx_hb level x → Ends x
  unfolding Ends Why after_step armed yielded clashed held driven idled idle_tick silent fell runs_counted polled pick
  whole Arm w e = absurd (idle_not_sending (sym e ∙ sending))
  whole Yield w e = inr refl
  whole End w e = inl (⊎_elim (λ all. all) (λ used. absurd (let no : ⊥ = omega (arith, short, used.0, used.1) in no)) w)
  whole Clash w e = absurd (idle_not_breaking (sym e))
  whole Hold w e = absurd (idle_not_sending (sym e ∙ sending))
  whole (Drive out) w e = absurd (idle_not_sending (sym e ∙ sending))

pub sent_whole : SentWhole
unfolding Ends
sent_whole s r sending level idle =
    let e = tick_by s level sending _ refl in
    rw e (whole s (reached_whole s r).loads sending level _ (why s.core.tx s.core.collision_policy s.tx_hb level) (rw e at idle))
