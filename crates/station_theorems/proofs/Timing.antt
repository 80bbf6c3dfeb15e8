-- A started station by the number of ticks since the start (specs/OverTicks, Tx). Assumes nothing.
use Prim.Native.Nat.{ℕ, suc, ◌+◌, ◌-◌, ◌/◌, ◌%◌, ◌≤◌, ◌<◌, min}
use native.Mathlib.Omega.{arith}
use native.Mathlib.Decide.{dec_lt}
use native.Mathlib.Nat.{add-zero, zero-add}
use mathlib.Core.Bool.{Bool, true, false, not}
use mathlib.Core.List.{List, [], ◌∷◌}
use mathlib.Core.Path.{◌≡◌, refl, sym, ◌∙◌, ap, subst}
use lib.Dec.{eqb, leb}
use borrow.Author.Tests.{leb-false, eq-eqb, ne_eqb, lt-leb}
use Rattle.laws.specs.Bit.{bit}
use Rattle.laws.specs.Pick.{pick}
use Rattle.laws.proofs.Picked.{on_true, on_false}
use Rattle.halfbits.specs.declared.HalfBitBuffer.{HalfBitBuffer}
use Rattle.laws.proofs.Joined.{and_on, and_off, joins}
use Rattle.machine.proofs.Store.{releases_loaded}
use Rattle.machine.specs.Runs.{runs_counted}
use Rattle.machine.specs.BecomingIdle.{idled}
use Rattle.machine.specs.Idle.{idle_tick, silent, fell}
use Rattle.machine.specs.Sending.{Step, Arm, Yield, End, Clash, Hold, Drive, clash_of, tx_step, armed, yielded, clashed, held, driven, after_step, tx_hb_of, armed_step, releases_at}
use Rattle.machine.specs.Starting.{loaded}
use Rattle.fsm.specs.declared.DaliBitbangPhy.{DaliBitbangPhy}
use Rattle.fsm.specs.Station.{with_core}
use Rattle.fsm.specs.Ticking.{tick_of}
use Rattle.fsm.specs.Starting.{loaded_with}
use Rattle.machine.specs.States.{hears}
use Rattle.station_theorems.specs.Calls.{Call, after, after_all, Reached}
use Rattle.station_theorems.specs.Ticks.{drives, IsSending, IsBreaking, StaysSending, level_in, levels_in, ticks_in}
use Rattle.station_theorems.specs.OverTicks.{begun, to_send, half_bit_level, IsClash, OnTime, Starts, a_frame, an_answer, SendsOnTime}
use Rattle.station_theorems.proofs.Stations.{fits}
use Rattle.station_theorems.proofs.Between.{Same, by_call}
use Rattle.station_theorems.proofs.Clashes.{Told, clash_told, told_clash, is_high, breaking_clash}
use Rattle.station_theorems.proofs.Arming.{quiet, idle_hears, tx_taken, answer_taken}
use Rattle.station_theorems.proofs.ByState.{tick_by, sending_not_breaking, idle_not_sending, idle_not_breaking}

record Timed (hb : HalfBitBuffer) (n : ℕ) (t : DaliBitbangPhy) : Type 0 where
  sending : IsSending t
  waits : t.core.tx.tx_armed + min n 3 ≡ 3
  count : begun t ≡ n / 4
  store : t.tx_hb ≡ tx_hb_of hb
  early : n < 4 → (t.core.tx.tx_sp_cnt ≡ 0) × (drives t ≡ true)
  left : 4 ≤ n → t.core.tx.tx_sp_cnt + n % 4 ≡ 3
  watch : 4 ≤ n → t.core.tx.tx_high ≡ bit (drives t)
  level : 4 ≤ n → drives t ≡ half_bit_level hb.«data» (n / 4 - 1)

timed_start : (s : DaliBitbangPhy) (hb : HalfBitBuffer) (answer : Bool) → drives s ≡ true → Timed hb 0 (loaded_with s hb answer)
unfolding loaded_with loaded
timed_start s hb answer e = record {
  sending = refl;
  waits = refl;
  count = refl;
  store = refl;
  early = λ _. (refl, e);
  left = λ h. absurd (none h);
  watch = λ h. absurd (none h);
  level = λ h. absurd (none h);
}
  where
    none : 4 ≤ 0 → ⊥
    none h = omega (arith, h)

timed_kept : (hb : HalfBitBuffer) (n : ℕ) (t u : DaliBitbangPhy) → Same t u → Timed hb n t → Timed hb n u
timed_kept hb n t u same h =
    let bus : u.core.bus ≡ t.core.bus = same.bus in
    let tx : u.core.tx ≡ t.core.tx = same.tx in
    let store : u.tx_hb ≡ t.tx_hb = same.halfbits in
    record {
      sending = rw bus h.sending;
      waits = rw tx h.waits;
      count = rw tx h.count;
      store = rw store h.store;
      early = λ few. rw (bus, tx) (h.early few);
      left = λ many. rw tx (h.left many);
      watch = λ many. rw (bus, tx) (h.watch many);
      level = λ many. rw bus (h.level many);
    }

-- ---- a tick
-- steps that leave Tx
yield_leaves : (t : DaliBitbangPhy) (b : Bool) → IsSending (with_core t (after_step Yield (runs_counted t.core b))) → ⊥
unfolding after_step yielded idled idle_tick silent fell pick
yield_leaves t b e = idle_not_sending e

end_leaves : (t : DaliBitbangPhy) (b : Bool) → IsSending (with_core t (after_step End (runs_counted t.core b))) → ⊥
unfolding after_step idled
end_leaves t b e = idle_not_sending e

clash_leaves : (t : DaliBitbangPhy) (b : Bool) → IsSending (with_core t (after_step Clash (runs_counted t.core b))) → ⊥
unfolding after_step clashed
clash_leaves t b e = sending_not_breaking (sym e)

module _ (hb : HalfBitBuffer) (short : hb.length ≤ 54) (n : ℕ) (t : DaliBitbangPhy) (h : Timed hb n t) (b : Bool) where
  by : (x : Step) → tx_step t.core.tx t.core.collision_policy t.tx_hb b ≡ x → tick_of t b ≡ with_core t (after_step x (runs_counted t.core b))
  by = tick_by t b h.sending

  arms : n < 3 → tx_step t.core.tx t.core.collision_policy t.tx_hb b ≡ Arm → Timed hb (suc n) (tick_of t b)
  unfolding after_step armed runs_counted
  arms few e =
      rw (by Arm e)
      (record {
        sending = h.sending;
        waits = omega (arith, h.waits);
        count = omega (arith, h.count);
        store = h.store;
        early = λ _. h.early (omega arith);
        left = λ many. absurd (let no : ⊥ = omega arith in no);
        watch = λ many. absurd (let no : ⊥ = omega arith in no);
        level = λ many. absurd (let no : ⊥ = omega arith in no);
      })

  holds : 4 ≤ n → n % 4 < 3 → tx_step t.core.tx t.core.collision_policy t.tx_hb b ≡ Hold → Timed hb (suc n) (tick_of t b)
  unfolding after_step held runs_counted
  holds many more e =
      let same : suc n / 4 ≡ n / 4 = omega arith in
      rw (by Hold e)
      (record {
        sending = h.sending;
        waits = omega (arith, h.waits);
        count = h.count ∙ sym same;
        store = h.store;
        early = λ few. absurd (let no : ⊥ = omega arith in no);
        left = λ _. omega (arith, h.left many);
        watch = λ _. h.watch many;
        level = λ _. rw same (h.level many);
      })

  drives_next : 3 ≤ n → n % 4 ≡ 3 → n / 4 < hb.length
      → tx_step t.core.tx t.core.collision_policy t.tx_hb b ≡ Drive (releases_at t.tx_hb (begun t)) → Timed hb (suc n) (tick_of t b)
  unfolding after_step driven runs_counted
  drives_next many last within e =
      let next : suc n / 4 ≡ suc (n / 4) = omega arith in
      let c : begun t ≡ n / 4 = h.count in
      let place : suc n / 4 - 1 ≡ n / 4 = omega arith in
      rw (by (Drive _) e)
      (record {
        sending = h.sending;
        waits = omega (arith, h.waits);
        count = omega (arith, c, next);
        store = h.store;
        early = λ few. absurd (let no : ⊥ = omega arith in no);
        left = λ _. omega (arith, last);
        watch = λ _. refl;
        level = λ _. rw (h.store, c, place) (releases_loaded hb (n / 4) (omega arith));
      })

  -- ---- armed
  module _ (few : n < 3) where
    rule_armed : tx_step t.core.tx t.core.collision_policy t.tx_hb b ≡ armed_step t.core.tx b
    unfolding tx_step
    rule_armed =
        let some : t.core.tx.tx_armed ≡ 0 → ⊥ = λ e. omega (arith, h.waits, e) in
        simp (on_true (ap not (ne_eqb _ _ some)))

    on_armed : IsSending (tick_of t b) → Timed hb (suc n) (tick_of t b)
    on_armed on = go b refl t.core.tx.tx_answer refl
      where
        go : (x : Bool) → b ≡ x → (y : Bool) → t.core.tx.tx_answer ≡ y → Timed hb (suc n) (tick_of t b)
        go true e y f = arms few (rule_armed ∙ on_false (and_off (ap not e) _) Yield Arm)
        go false e true f = arms few (rule_armed ∙ on_false (and_on (ap not e) _ ∙ ap not f) Yield Arm)
        go false e false f = absurd (yield_leaves t b (subst IsSending (by Yield (rule_armed ∙ on_true (joins (ap not e) (ap not f)) Yield Arm)) on))

  -- ---- sending
  module _ (many : 3 ≤ n) where
    rule : tx_step t.core.tx t.core.collision_policy t.tx_hb b
        ≡ pick (leb (to_send t) (begun t)) End
        (pick (clash_of t.core.tx t.core.collision_policy (to_send t) b) Clash
        (pick (not (eqb t.core.tx.tx_sp_cnt 0)) Hold (pick (leb 56 (begun t)) End (Drive (releases_at t.tx_hb (begun t))))))
    unfolding tx_step
    rule =
        let none : t.core.tx.tx_armed ≡ 0 = omega (arith, h.waits) in
        simp (on_false (ap not (eq-eqb _ _ none)))

    len : to_send t ≡ hb.length
    unfolding tx_hb_of
    len = rw h.store

    module _ (within : leb (to_send t) (begun t) ≡ false) where
      small : n / 4 < hb.length
      small = let w : begun t < to_send t = leb-false _ _ within in omega (arith, h.count, len)

      none_left : n % 4 ≡ 3 → Dec (n < 4) → t.core.tx.tx_sp_cnt ≡ 0
      none_left e (yes few) = (h.early few).0
      none_left e (no four) = omega (arith, h.left (omega (arith, four)), e)

      on_calm : clash_of t.core.tx t.core.collision_policy (to_send t) b ≡ false → Timed hb (suc n) (tick_of t b)
      on_calm calm = go (dec_lt (n % 4) 3)
        where
          go : Dec (n % 4 < 3) → Timed hb (suc n) (tick_of t b)
          go (yes more) =
              let four : 4 ≤ n = omega (arith, more) in
              let some : t.core.tx.tx_sp_cnt ≡ 0 → ⊥ = λ e. omega (arith, h.left four, e, more) in
              holds four more (rule ∙ on_false within _ _ ∙ on_false calm _ _ ∙ on_true (ap not (ne_eqb _ _ some)) _ _)
          go (no last) =
              let three : n % 4 ≡ 3 = omega (arith, last) in
              let at : begun t < 56 = omega (arith, h.count, small) in
              drives_next many three small (rule ∙ on_false within _ _ ∙ on_false calm _ _ ∙ on_false (ap not (eq-eqb _ _ (none_left three (dec_lt n 4)))) _ _ ∙ on_false (lt-leb _ _ at) _ _)

    on_sending : IsSending (tick_of t b) → Timed hb (suc n) (tick_of t b)
    on_sending on = go (leb (to_send t) (begun t)) refl (clash_of t.core.tx t.core.collision_policy (to_send t) b) refl
      where
        go : (x : Bool) → leb (to_send t) (begun t) ≡ x → (y : Bool) → clash_of t.core.tx t.core.collision_policy (to_send t) b ≡ y → Timed hb (suc n) (tick_of t b)
        go true e y f = absurd (end_leaves t b (subst IsSending (by End (rule ∙ on_true e _ _)) on))
        go false e true f = absurd (clash_leaves t b (subst IsSending (by Clash (rule ∙ on_false e _ _ ∙ on_true f _ _)) on))
        go false e false f = on_calm e f

  timed_on : IsSending (tick_of t b) → Timed hb (suc n) (tick_of t b)
  timed_on on = go (dec_lt n 3)
    where
      go : Dec (n < 3) → Timed hb (suc n) (tick_of t b)
      go (yes few) = on_armed few on
      go (no many) = on_sending (omega (arith, many)) on

  -- ---- which ticks are a clash
  clash : 4 ≤ n → n / 4 < hb.length → IsClash (n % 4 + 2) t b → IsBreaking (tick_of t b)
  unfolding after_step clashed tx_hb_of
  clash many small k =
      let within : begun t < to_send t = rw h.store (omega (arith, h.count)) in
      let told : Told t.core.tx t.core.collision_policy (to_send t) b
      = record {
        fell = k.fell;
        released = λ e. let one : t.core.tx.tx_high ≡ 1 = h.watch many ∙ ap bit k.released in let no : ⊥ = omega arith in no;
        watches = k.watched;
        left = omega (arith, h.left many, k.fourth);
        few = omega (arith, h.left many, k.third);
      } in
      rw (by Clash (rule (omega arith) ∙ on_false (lt-leb _ _ within) _ _ ∙ on_true (told_clash _ _ _ _ told) _ _))

  module _ (breaking : IsBreaking (tick_of t b)) where
    told : Told t.core.tx t.core.collision_policy (to_send t) b
    told = clash_told _ _ _ _ (breaking_clash t b h.sending breaking)

    late : Dec (n < 4) → 4 ≤ n
    late (yes few) = absurd (let zero : t.core.tx.tx_sp_cnt ≡ 0 = (h.early few).0 in let no : ⊥ = omega (arith, told.left) in no)
    late (no many) = omega (arith, many)

    inside : 4 ≤ n → n / 4 < hb.length
    unfolding after_step idled
    inside many = go (leb (to_send t) (begun t)) refl
      where
        go : (x : Bool) → leb (to_send t) (begun t) ≡ x → n / 4 < hb.length
        go true e = absurd (idle_not_breaking (subst IsBreaking (by End (rule (omega arith) ∙ on_true e _ _)) breaking))
        go false e = small (omega arith) e

    no_other : (4 ≤ n) × (n / 4 < hb.length) × IsClash (n % 4 + 2) t b
    no_other =
        let many : 4 ≤ n = late (dec_lt n 4) in (
          many,
          inside many,
          record {
            released = is_high (drives t) _ (h.watch many) told.released;
            watched = told.watches;
            third = omega (arith, h.left many, told.few);
            fourth = omega (arith, h.left many, told.left);
            fell = told.fell;
          },
        )

-- ---- calls one after another, while it is sending
still : (cs : List Call) (t : DaliBitbangPhy) → StaysSending cs t → IsSending t
unfolding StaysSending
still [] t h = h
still (c ∷ cs) t h = h.0

module _ (hb : HalfBitBuffer) (short : hb.length ≤ 54) where
  timed : (cs : List Call) (m : ℕ) (t : DaliBitbangPhy) → Timed hb m t → StaysSending cs t → Timed hb (m + ticks_in cs) (after_all cs t)
  unfolding levels_in level_in after_all after StaysSending hears
  timed [] m t h on = rw (add-zero m) h
  timed (c ∷ cs) m t h on =
      by_call (λ c. StaysSending (c ∷ cs) t → Timed hb (m + ticks_in (c ∷ cs)) (after_all (c ∷ cs) t))
      (λ b on.
      let next : Timed hb (suc m) (tick_of t b) = timed_on hb short m t h b (still cs (tick_of t b) on.1) in
      let all : Timed hb (suc m + ticks_in cs) (after_all cs (tick_of t b)) = timed cs (suc m) (tick_of t b) next on.1 in
      subst (λ (k : ℕ). Timed hb k (after_all cs (tick_of t b))) (omega arith) all)
      (λ c same none. rw none (λ on. timed cs m (after c t) (timed_kept hb m t (after c t) (same t (ap hears h.sending)) h) on.1)) c on

  on_time : (cs : List Call) (t : DaliBitbangPhy) → Timed hb 0 t → StaysSending cs t → OnTime hb (ticks_in cs) (after_all cs t)
  on_time cs t h on =
      let n : ℕ = ticks_in cs in
      let u : DaliBitbangPhy = after_all cs t in
      let k : Timed hb n u = rw (zero-add (ticks_in cs)) at (timed cs 0 t h on) in
      record {
        count = omega (arith, k.count);
        armed = λ few. (k.early few).1;
        driven = k.level;
        clash = λ level many small is. clash hb short n u k level many small is;
        no_other = λ level breaking. no_other hb short n u k level breaking;
      }

started_timed : (s : DaliBitbangPhy) → Reached s → (hb : HalfBitBuffer) (t : DaliBitbangPhy) → Starts s hb t → Timed hb 0 t × (hb.length ≤ 54)
started_timed s r hb _ (a_frame ok) =
    let taken = tx_taken s r hb ok in
    (rw taken.left (timed_start s hb false (quiet s r hb (idle_hears s r hb _ taken.was))), fits _ taken.fits)
started_timed s r hb _ (an_answer ok) =
    let taken = answer_taken s r hb ok in
    (rw taken.left (timed_start s hb true (quiet s r hb taken.was)), fits _ taken.fits)

pub sends_on_time : SendsOnTime
sends_on_time s r hb t starts calls on = let b = started_timed s r hb t starts in on_time hb b.1 calls t b.0 on
