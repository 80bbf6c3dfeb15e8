-- The ticks of a half-bit (specs/OverTicks, Tx). Assumes nothing.
use Prim.Native.Nat.{ℕ, suc, ◌+◌, ◌%◌, ◌≤◌, ◌<◌}
use native.Mathlib.Omega.{arith}
use native.Mathlib.Decide.{dec_lt}
use native.Mathlib.Nat.{zero-add}
use mathlib.Core.Bool.{Bool, true, false, not}
use mathlib.Core.List.{List}
use mathlib.Core.Logic.{◌⊎◌, inl, inr, ⊎_elim}
use mathlib.Core.Path.{◌≡◌, refl, sym, ◌∙◌, ap}
use lib.Dec.{eqb, leb}
use borrow.Author.Tests.{eq-eqb, ne_eqb, lt-leb}
use Rattle.laws.specs.Bit.{bit}
use Rattle.laws.specs.Pick.{pick}
use Rattle.laws.proofs.Picked.{on_true, on_false}
use Rattle.machine.specs.declared.CollisionPolicy.{CollisionPolicy}
use Rattle.machine.specs.declared.TxHb.{TxHb}
use Rattle.machine.specs.declared.Core.{Core}
use Rattle.machine.specs.Runs.{runs_counted}
use Rattle.machine.specs.BecomingIdle.{idled}
use Rattle.machine.specs.Idle.{idle_tick, silent, fell}
use Rattle.machine.specs.Sending.{Step, Arm, Yield, End, Clash, Hold, Drive, clash_of, releases_at, tx_step, armed, yielded, clashed, held, driven, after_step, tx_tick}
use Rattle.fsm.specs.declared.DaliBitbangPhy.{DaliBitbangPhy}
use Rattle.fsm.specs.Station.{with_core}
use Rattle.fsm.specs.Ticking.{tick_of}
use Rattle.machine.specs.States.{hears}
use Rattle.station_theorems.specs.Calls.{Call, tick, after, after_all, called}
use Rattle.station_theorems.specs.Ticks.{drives, IsSending, IsBreaking, levels_in, ticks_in}
use Rattle.station_theorems.specs.OverTicks.{begun, to_send, Begins, HalfBitsDriven, IsClash, HalfBitTicks}
use Rattle.station_theorems.proofs.Stations.{reached_whole}
use Rattle.station_theorems.proofs.Between.{Same}
use Rattle.station_theorems.proofs.Walking.{all_any, walk}
use Rattle.station_theorems.proofs.Clashes.{Told, clash_told, told_clash, is_high}
use Rattle.station_theorems.proofs.Breaking.{tick_on}
use Rattle.station_theorems.proofs.ByState.{tick_tx, tick_by, sending_not_breaking}
use Rattle.station_theorems.proofs.Steps.{Drew, Why, why}

-- ---- the tick that begins a half-bit
no_more : (n : ℕ) → n ≡ n + 1 → ⊥
no_more n e = omega (arith, e)

drew : (x : Step) (c : Core) (policy : CollisionPolicy) (hb : TxHb) (high : Bool) → (after_step x c).tx.tx_hb_cnt ≡ c.tx.tx_hb_cnt + 1
    → Why c.tx policy hb high x → Drew c.tx hb x
unfolding after_step armed yielded clashed held driven idled idle_tick silent fell pick Why
drew Arm c policy hb high e w = absurd (no_more _ e)
drew Yield c policy hb high e w = absurd (no_more _ e)
drew End c policy hb high e w = absurd (no_more _ e)
drew Clash c policy hb high e w = absurd (no_more _ e)
drew Hold c policy hb high e w = absurd (no_more _ e)
drew (Drive out) c policy hb high e w = w

module _ (s : DaliBitbangPhy) (level : Bool) (b : Begins s level) where
  step : Step
  step = tx_step s.core.tx s.core.collision_policy s.tx_hb level

  ticked : tick_of s level ≡ with_core s (after_step step (runs_counted s.core level))
  unfolding step tx_tick runs_counted
  ticked = tick_tx s level b.sending

  is_drive : Drew s.core.tx s.tx_hb step
  unfolding step runs_counted
  is_drive =
      drew step (runs_counted s.core level) s.core.collision_policy s.tx_hb level
      (sym (ap (λ (t : DaliBitbangPhy). begun t) ticked) ∙ b.one_more) (why s.core.tx s.core.collision_policy s.tx_hb level)

  pub begin_tick : tick_of s level ≡ with_core s (driven (runs_counted s.core level) (releases_at s.tx_hb (begun s)))
  unfolding after_step
  begin_tick = ticked ∙ ap (λ (x : Step). with_core s (after_step x (runs_counted s.core level))) is_drive.out

pub half_bits_driven : HalfBitsDriven
unfolding driven runs_counted
half_bits_driven s level b = record {
  sending = ap (λ (t : DaliBitbangPhy). t.core.bus.bus_state) (begin_tick s level b) ∙ b.sending;
  driven = ap (λ (t : DaliBitbangPhy). drives t) (begin_tick s level b);
}

-- ---- n ticks after it
pub record InHalf (first : DaliBitbangPhy) (n : ℕ) (t : DaliBitbangPhy) : Type 0 where
  pub sending : IsSending t
  pub unarmed : t.core.tx.tx_armed ≡ 0
  pub left : t.core.tx.tx_sp_cnt + n ≡ 3
  pub watch : t.core.tx.tx_high ≡ bit (drives first)
  pub level : drives t ≡ drives first
  pub count : begun t ≡ begun first
  pub store : t.tx_hb ≡ first.tx_hb

pub half_begins : (s : DaliBitbangPhy) (level : Bool) → Begins s level → InHalf (tick_of s level) 0 (tick_of s level)
unfolding driven runs_counted
half_begins s level b =
    rw (begin_tick s level b) (record { sending = b.sending; unarmed = (is_drive s level b).unarmed; left = refl; watch = refl; level = refl; count = refl; store = refl })

-- the rule of a tick within a half-bit that isn't the last
module _ (first : DaliBitbangPhy) (more : begun first < to_send first) (n : ℕ) (t : DaliBitbangPhy) (h : InHalf first n t) (b : Bool) where
  rule : tx_step t.core.tx t.core.collision_policy t.tx_hb b
      ≡ pick (clash_of t.core.tx t.core.collision_policy (to_send t) b) Clash
      (pick (not (eqb t.core.tx.tx_sp_cnt 0)) Hold (pick (leb 56 (begun t)) End (Drive (releases_at t.tx_hb (begun t)))))
  unfolding tx_step
  rule =
      let within : begun t < to_send t = rw h.store (omega (arith, h.count)) in
      simp (on_false (ap not (eq-eqb _ _ h.unarmed)), on_false (lt-leb _ _ within))

  by : (x : Step) → tx_step t.core.tx t.core.collision_policy t.tx_hb b ≡ x → tick_of t b ≡ with_core t (after_step x (runs_counted t.core b))
  by = tick_by t b h.sending

  module _ (clash : clash_of t.core.tx t.core.collision_policy (to_send t) b ≡ true) where
    clash_tick : IsBreaking (tick_of t b) × ((tick_of t b).core.tx.tx_sp_cnt ≡ 0)
    unfolding after_step clashed
    clash_tick = rw (by Clash (rule ∙ on_true clash _ _)) (refl, refl)

  module _ (calm : clash_of t.core.tx t.core.collision_policy (to_send t) b ≡ false) where
    hold_tick : n < 3 → InHalf first (suc n) (tick_of t b)
    unfolding after_step held runs_counted
    hold_tick few =
        let some : t.core.tx.tx_sp_cnt ≡ 0 → ⊥ = λ e. omega (arith, h.left, e) in
        rw (by Hold (rule ∙ on_false calm _ _ ∙ on_true (ap not (ne_eqb _ _ some)) _ _))
        (record { sending = h.sending; unarmed = h.unarmed; left = omega (arith, h.left); watch = h.watch; level = h.level; count = h.count; store = h.store })

    drive_tick : n ≡ 3 → to_send first ≤ 54 → IsSending (tick_of t b) × (begun (tick_of t b) ≡ begun t + 1)
    unfolding after_step driven runs_counted
    drive_tick last short =
        let none : t.core.tx.tx_sp_cnt ≡ 0 = omega (arith, h.left) in
        let at : begun t < 54 = omega (arith, h.count) in
        rw (by (Drive (releases_at t.tx_hb (begun t))) (rule ∙ on_false calm _ _ ∙ on_false (ap not (eq-eqb _ _ none)) _ _ ∙ on_false (lt-leb 56 (begun t) (omega arith)) _ _))
        (h.sending, let small : (begun t + 1) % 256 ≡ begun t + 1 = omega arith in small)

  -- the first and the last two ticks of it: a clash is told by the number of the tick
  clash_of_lem : IsClash (n + 2) t b → clash_of t.core.tx t.core.collision_policy (to_send t) b ≡ true
  clash_of_lem k =
      told_clash t.core.tx t.core.collision_policy (to_send t) b
      (record {
        fell = k.fell;
        released = λ e. let one : t.core.tx.tx_high ≡ 1 = h.watch ∙ ap bit (sym h.level ∙ k.released) in let no : ⊥ = omega arith in no;
        watches = k.watched;
        left = omega (arith, h.left, k.fourth);
        few = omega (arith, h.left, k.third);
      })

  of_clash : clash_of t.core.tx t.core.collision_policy (to_send t) b ≡ true → IsClash (n + 2) t b
  of_clash e =
      let k : Told t.core.tx t.core.collision_policy (to_send t) b = clash_told _ _ _ _ e in
      record {
        released = h.level ∙ is_high (drives first) _ h.watch k.released;
        watched = k.watches;
        third = omega (arith, h.left, k.few);
        fourth = omega (arith, h.left, k.left);
        fell = k.fell;
      }

  module _ (few : n ≤ 3) (short : to_send first ≤ 54) where
    on_calm : clash_of t.core.tx t.core.collision_policy (to_send t) b ≡ false → IsSending (tick_of t b)
    on_calm calm = go (dec_lt n 3)
      where
        go : Dec (n < 3) → IsSending (tick_of t b)
        go (yes early) = (hold_tick calm early).sending
        go (no late) = (drive_tick calm (omega (arith, late)) short).0

    no_clash : (IsClash (n + 2) t b → ⊥) → IsSending (tick_of t b)
    no_clash none = go (clash_of t.core.tx t.core.collision_policy (to_send t) b) refl
      where
        go : (c : Bool) → clash_of t.core.tx t.core.collision_policy (to_send t) b ≡ c → IsSending (tick_of t b)
        go true e = absurd (none (of_clash e))
        go false e = on_calm e

    -- no tick is left to be watched when the next half-bit begins
    next_begins : n ≡ 3 → Begins t b
    next_begins last = go (clash_of t.core.tx t.core.collision_policy (to_send t) b) refl
      where
        go : (c : Bool) → clash_of t.core.tx t.core.collision_policy (to_send t) b ≡ c → Begins t b
        go true e = absurd (let k = of_clash e in let no : ⊥ = omega (arith, k.fourth) in no)
        go false e = record { sending = h.sending; one_more = (drive_tick e last short).1 }

-- ---- it goes on, or a clash ended it
record Broken (n : ℕ) (t : DaliBitbangPhy) : Type 0 where
  breaking : IsBreaking t
  passed : t.core.tx.tx_sp_cnt ≤ n

broken_on : (n : ℕ) (t : DaliBitbangPhy) (b : Bool) → n < 3 → Broken n t → Broken (suc n) (tick_of t b)
unfolding runs_counted
broken_on n t b few h =
    let p : t.core.tx.tx_sp_cnt ≤ n = h.passed in
    rw (tick_on _ t h.breaking refl b (omega arith)) (record { breaking = h.breaking; passed = omega arith })

pub deaf_half : (first : DaliBitbangPhy) (n : ℕ) (t : DaliBitbangPhy) → InHalf first n t → hears t.core.bus.bus_state ≡ false
unfolding hears
deaf_half first n t h = ap hears h.sending

pub kept_half : (first : DaliBitbangPhy) (n : ℕ) (t u : DaliBitbangPhy) → Same t u → InHalf first n t → InHalf first n u
kept_half first n t u same h =
    let bus : u.core.bus ≡ t.core.bus = same.bus in
    let tx : u.core.tx ≡ t.core.tx = same.tx in
    let hb : u.tx_hb ≡ t.tx_hb = same.halfbits in
    record {
      sending = rw bus h.sending;
      unarmed = rw tx h.unarmed;
      left = rw tx h.left;
      watch = rw tx h.watch;
      level = rw bus h.level;
      count = rw tx h.count;
      store = rw hb h.store;
    }

module _ (first : DaliBitbangPhy) (more : begun first < to_send first) where
  abbrev Goes : ℕ → DaliBitbangPhy → Type 0
  Goes n t = InHalf first n t ⊎ Broken n t

  deaf : (n : ℕ) (t : DaliBitbangPhy) → Goes n t → hears t.core.bus.bus_state ≡ false
  unfolding hears
  deaf n t (inl h) = deaf_half first n t h
  deaf n t (inr h) = ap hears h.breaking

  kept : (n : ℕ) (t u : DaliBitbangPhy) → Same t u → Goes n t → Goes n u
  kept n t u same (inl h) = inl (kept_half first n t u same h)
  kept n t u same (inr h) =
      let bus : u.core.bus ≡ t.core.bus = same.bus in
      let tx : u.core.tx ≡ t.core.tx = same.tx in
      inr (record { breaking = rw bus h.breaking; passed = rw tx h.passed })

  ticks : (n : ℕ) (t : DaliBitbangPhy) (b : Bool) → n < 3 → Goes n t → Goes (suc n) (tick_of t b)
  ticks n t b few (inl h) = go (clash_of t.core.tx t.core.collision_policy (to_send t) b) refl
    where
      go : (c : Bool) → clash_of t.core.tx t.core.collision_policy (to_send t) b ≡ c → Goes (suc n) (tick_of t b)
      go true e = let k = clash_tick first more n t h b e in let z : (tick_of t b).core.tx.tx_sp_cnt ≡ 0 = k.1 in inr (record { breaking = k.0; passed = omega arith })
      go false e = inl (hold_tick first more n t h b e few)
  ticks n t b few (inr h) = inr (broken_on n t b few h)

  goes : (calls : List Call) (t : DaliBitbangPhy) → InHalf first 0 t → ticks_in calls ≤ 3 → IsSending (after_all calls t) → InHalf first (ticks_in calls) (after_all calls t)
  goes calls t h few sending =
      let g : Goes (0 + ticks_in calls) (after_all calls t)
      = walk Goes (λ _. Unit {0}) 3 deaf kept (λ n u b _ less k. ticks n u b less k)
      calls 0 t (all_any (levels_in calls)) (inl h) (omega arith) in
      ⊎_elim (λ k. k) (λ k. absurd (sending_not_breaking (sym sending ∙ k.breaking))) (rw (zero-add (ticks_in calls)) at g)

pub half_bit_ticks : HalfBitTicks
unfolding after
half_bit_ticks s r level b more calls few sending next =
    let first : DaliBitbangPhy = tick_of s level in
    let t : DaliBitbangPhy = after_all calls first in
    let same : first.tx_hb ≡ s.tx_hb = ap (λ (u : DaliBitbangPhy). u.tx_hb) (begin_tick s level b) in
    let within : begun first < to_send first = omega (arith, ap (λ (hb : TxHb). hb.tx_hb_len) same) in
    let short : to_send first ≤ 54 = (reached_whole first (called (tick level) r)).loads in
    let h : InHalf first (ticks_in calls) t = goes first within calls first (half_begins s level b) few sending in
    record {
      held = (h.level, h.count);
      store = h.store;
      clash = λ k. (clash_tick first within (ticks_in calls) t h next (clash_of_lem first within (ticks_in calls) t h next k)).0;
      no_clash = no_clash first within (ticks_in calls) t h next few short;
      over = λ fifth. next_begins first within (ticks_in calls) t h next few short (omega arith);
    }
