-- A sender that hears the line low on a half-bit that it releases, and its break. Whatever levels it samples meanwhile. Assumes nothing.
use Prim.Native.Nat.{ℕ, zero, suc, ◌+◌, ◌*◌, ◌%◌, ◌-◌, ◌<◌, ◌≤◌}
use native.Mathlib.Omega.{arith}
use native.Mathlib.Decide.{dec_lt}
use native.Mathlib.Nat.{add-zero}
use mathlib.Core.Bool.{Bool, true, false, not, ◌&&◌, and-false}
use mathlib.Core.List.{List}
use mathlib.Core.Path.{◌≡◌, refl, sym, ◌∙◌, ap, subst}
use lib.Dec.{eqb, ltb}
use lib.ListN.{length}
use borrow.Author.Tests.{lt-leb}
use Rattle.laws.specs.Pick.{pick}
use Rattle.laws.proofs.Picked.{on_true, on_false}
use Rattle.halfbits.specs.Wave.{high, low, level_at}
use Rattle.halfbits.specs.HalfBits.{half_bits_of}
use Rattle.machine.specs.declared.CollisionPolicy.{CollisionPolicy}
use Rattle.machine.specs.Fields.{with_driven_high, with_tx_sp_cnt}
use Rattle.machine.specs.Runs.{runs_counted}
use Rattle.machine.specs.BecomingIdle.{idled}
use Rattle.machine.specs.Idle.{idle_tick, silent, fell}
use Rattle.machine.specs.Collision.{broke, collision_tick}
use Rattle.machine.specs.Sending.{Clash, watches_of, clash_of, tx_step, clashed, after_step}
use Rattle.fsm.specs.declared.DaliBitbangPhy.{DaliBitbangPhy}
use Rattle.fsm.specs.Station.{with_core}
use Rattle.machine.specs.States.{hears}
use Rattle.fsm.specs.Ticking.{tick_in, tick_of}
use Rattle.station_theorems.specs.Ticks.{drives, IsIdle, IsSending, after_levels, IsBreaking}
use Rattle.frames.specs.Sends.{FitsBuffer}
use Rattle.frames.proofs.SendingTicks.{Sender, rule_of, clashes, by_rule, hold, drive, pulled_calm}
use Rattle.line_theorems.proofs.Hearing.{heard_more, Listens}

-- ---- a station in its break, so many ticks after it saw the clash
-- low from the first tick to the twelfth
abbrev pub break_level : ℕ → Bool
break_level zero = high
break_level (suc n) = ltb 12 (suc n)

pub record Breaking (ticks : ℕ) (s : DaliBitbangPhy) : Type 0 where
  pub state : IsBreaking s
  pub spaces : s.core.tx.tx_sp_cnt ≡ ticks
  pub line : drives s ≡ break_level ticks
  pub collisions : s.core.told.tx_collision ≡ 1
  pub yields : s.core.told.tx_yielded ≡ false

module _ (s : DaliBitbangPhy) (sampled : Bool) (breaking : IsBreaking s) where
  in_break : tick_of s sampled ≡ with_core s (collision_tick (runs_counted s.core sampled) sampled)
  unfolding tick_of tick_in pick
  in_break = rw breaking

  goes_on : (n : ℕ) → s.core.tx.tx_sp_cnt ≡ n → n < 13
      → tick_of s sampled ≡ with_core s (with_driven_high (with_tx_sp_cnt (runs_counted s.core sampled) (suc n)) (ltb 12 (suc n)))
  unfolding collision_tick runs_counted
  goes_on n e h =
      let next : (s.core.tx.tx_sp_cnt + 1) % 256 ≡ suc n = omega arith in
      in_break ∙ rw next (ap (with_core s) (on_false (lt-leb 14 (suc n) (omega arith)) _ _))

  over : s.core.tx.tx_sp_cnt ≡ 13 → tick_of s sampled ≡ with_core s (broke (with_tx_sp_cnt (runs_counted s.core sampled) 14) sampled)
  unfolding collision_tick runs_counted pick
  over e = in_break ∙ rw e

pub break_next : (n : ℕ) (s : DaliBitbangPhy) (sampled : Bool) → n < 13 → Breaking n s → Breaking (suc n) (tick_of s sampled)
unfolding runs_counted
break_next n s sampled h b =
    rw (goes_on s sampled b.state n b.spaces h)
    (record { state = b.state; spaces = refl; line = refl; collisions = b.collisions; yields = b.yields })

-- the fourteenth tick samples the line
pub break_ends : (s : DaliBitbangPhy) (sampled : Bool) → Breaking 13 s
    → IsIdle (tick_of s sampled) × Listens 1 sampled false (tick_of s sampled)
unfolding broke idled idle_tick silent fell runs_counted pick hears
break_ends s true b = rw (over s true b.state b.spaces) (refl, record { hearing = refl; collisions = b.collisions; marked = refl; yields = b.yields })
break_ends s false b = rw (over s false b.state b.spaces) (refl, record { hearing = refl; collisions = b.collisions; marked = refl; yields = b.yields })

-- thirteen ticks of it
pub breaks_on : (level : ℕ → Bool) (s : DaliBitbangPhy) → Breaking 0 s → (n : ℕ) → n ≤ 13 → Breaking n (after_levels n level s)
unfolding after_levels
breaks_on level s b zero h = b
breaks_on level s b (suc n) h = break_next n (after_levels n level s) (level n) (omega arith) (breaks_on level s b n (omega arith))

-- ---- a sender that has begun half-bits
module _ {bits : List Bool} {policy : CollisionPolicy} {j : ℕ} {s : DaliBitbangPhy} where
  -- no level is a clash on a half-bit that it pulls, nor on the second tick of any
  pulls_on : {left : ℕ} (sampled : Bool) → Sender bits policy 0 j left low s → clashes s sampled ≡ false
  pulls_on sampled a = pulled_calm s.core.tx s.core.collision_policy s.tx_hb.tx_hb_len sampled (a.pulled refl)

  not_yet : {level : Bool} (sampled : Bool) → Sender bits policy 0 j 3 level s → clashes s sampled ≡ false
  unfolding clash_of
  not_yet sampled a =
      rw a.spaces (and-false ((watches_of s.core.collision_policy s.tx_hb.tx_hb_len && not (eqb s.core.tx.tx_high 0)) && not sampled))

  -- A low third tick of one that it releases is a clash.
  module _ (some : 0 < j) (more : j < half_bits_of (length bits)) (watched : watches_of policy (half_bits_of (length bits)) ≡ true) where
    is_clash : Sender bits policy 0 j 2 high s → clashes s low ≡ true
    unfolding clash_of pick
    is_clash a = rw (a.released some refl, a.watch, a.loads, watched, a.spaces)

    pub sees : Sender bits policy 0 j 2 high s → Breaking 0 (tick_of s low)
    unfolding after_step clashed runs_counted tx_step
    sees a =
        let rule : rule_of s low ≡ Clash
        = on_false (ap (λ n. not (eqb n 0)) a.arms) _ _
        ∙ on_false (lt-leb s.tx_hb.tx_hb_len s.core.tx.tx_hb_cnt (omega arith)) _ _
        ∙ on_true (is_clash a) _ _ in
        rw (by_rule s low a.state rule)
        (record { state = refl; spaces = refl; line = a.line; collisions = rw a.clear.0; yields = a.clear.1 })

-- ---- from the tick that drives a half-bit on
module _ {bits : List Bool} {policy : CollisionPolicy} (fits : FitsBuffer bits) {j : ℕ} (some : 0 < j) (more : j < half_bits_of (length bits))
    {s : DaliBitbangPhy} (level : ℕ → Bool) where
  -- released: two low ticks more, and it breaks
  released_on : Sender bits policy 0 j 3 high s → Sender bits policy 0 j 2 high (after_levels 1 level s)
  unfolding after_levels
  released_on a = hold fits more (level 0) (not_yet (level 0) a) a

  meets : watches_of policy (half_bits_of (length bits)) ≡ true → level 1 ≡ low → Sender bits policy 0 j 3 high s → Breaking 0 (after_levels 2 level s)
  unfolding after_levels
  meets watched falls a = rw falls (sees some more watched (released_on a))

  -- pulled: it holds the line for four ticks, whatever it samples, and drives the next one
  pulled_on : Sender bits policy 0 j 3 low s → (n : ℕ) → n ≤ 3 → Sender bits policy 0 j (3 - n) low (after_levels n level s)
  unfolding after_levels
  pulled_on a zero h = a
  pulled_on a (suc n) h =
      let left : 3 - n ≡ suc (3 - suc n) = omega arith in
      let before = pulled_on a n (omega arith) in
      hold fits more (level n) (pulls_on (level n) before) (rw left at before)

  goes_over : Sender bits policy 0 j 3 low s → Sender bits policy 0 (j + 1) 3 (level_at bits (4 * j)) (after_levels 4 level s)
  unfolding after_levels
  goes_over a = let last = pulled_on a 3 (omega arith) in drive fits more (level 3) (pulls_on (level 3) last) last

-- ---- a station that has sent up to some tick
module _ (level : ℕ → Bool) (s : DaliBitbangPhy) where
  abbrev now : ℕ → DaliBitbangPhy
  now t = after_levels t level s

  abbrev SendsTo : ℕ → Type 0
  SendsTo tick = (t : ℕ) → t < tick → IsSending (now t)

  longer : (tick n : ℕ) → SendsTo tick → ((i : ℕ) → i < n → IsSending (now (tick + i))) → SendsTo (tick + n)
  longer tick n before more t h = go (dec_lt t tick)
    where
      go : Dec (t < tick) → IsSending (now t)
      go (yes early) = before t early
      go (no late) = let e : t ≡ tick + (t - tick) = omega (arith, late) in subst (λ i. IsSending (now i)) (sym e) (more (t - tick) (omega (arith, late)))

  -- and then drives a half-bit, the last of so many that it has begun
  pub record Begun (bits : List Bool) (policy : CollisionPolicy) (tick j : ℕ) (driven : Bool) : Type 0 where
    pub sends : SendsTo tick
    pub sender : Sender bits policy 0 j 3 driven (now tick)

  -- and then sees a clash
  pub record Broken (tick : ℕ) : Type 0 where
    pub sends : SendsTo tick
    pub breaking : (n : ℕ) → n ≤ 13 → Breaking n (now (tick + n))

  module _ {bits : List Bool} {policy : CollisionPolicy} (fits : FitsBuffer bits) {tick j : ℕ} (some : 0 < j) (more : j < half_bits_of (length bits)) where
    four_ticks : Begun bits policy tick j low → (n : ℕ) → n ≤ 3 → Sender bits policy 0 j (3 - n) low (now (tick + n))
    four_ticks b n h = subst (λ (x : DaliBitbangPhy). Sender bits policy 0 j (3 - n) low x) (sym (heard_more tick n level s)) (pulled_on fits some more _ b.sender n h)

    pub pulls_four : Begun bits policy tick j low → (n : ℕ) → n ≤ 3 → drives (now (tick + n)) ≡ low
    pulls_four b n h = (four_ticks b n h).line

    pub pulls_over : Begun bits policy tick j low → Begun bits policy (tick + 4) (j + 1) (level_at bits (4 * j))
    pulls_over b = record {
      sends = longer tick 4 b.sends (λ n h. (four_ticks b n (omega arith)).state);
      sender = subst (λ (x : DaliBitbangPhy). Sender bits policy 0 (j + 1) 3 (level_at bits (4 * j)) x) (sym (heard_more tick 4 level s)) (goes_over fits some more _ b.sender);
    }

    pub breaks : watches_of policy (half_bits_of (length bits)) ≡ true → level (tick + 1) ≡ low → Begun bits policy tick j high → Broken (tick + 2)
    breaks watched falls b = record {
      sends = longer tick 2 b.sends (λ n h. two_ticks n h);
      breaking = λ n h.
          subst (λ (x : DaliBitbangPhy). Breaking n x) (sym (heard_more (tick + 2) n level s))
          (breaks_on _ _ (subst (λ (x : DaliBitbangPhy). Breaking 0 x) (sym (heard_more tick 2 level s)) (meets fits some more _ watched falls b.sender)) n h);
    }
      where
        two_ticks : (n : ℕ) → n < 2 → IsSending (now (tick + n))
        two_ticks zero h = subst (λ i. IsSending (now i)) (sym (add-zero tick)) b.sender.state
        two_ticks (suc zero) h = subst (λ (x : DaliBitbangPhy). IsSending x) (sym (heard_more tick 1 level s)) (released_on fits some more _ b.sender).state
        two_ticks (suc (suc n)) h = absurd (let none : ⊥ = omega arith in none)

  pub ends : {tick : ℕ} {found : Bool} → level (tick + 13) ≡ found → Broken tick → IsIdle (now (tick + 14)) × Listens 1 found false (now (tick + 14))
  unfolding after_levels
  ends {tick} {found} sampled b =
      let e : tick + 14 ≡ suc (tick + 13) = omega arith in
      rw (e, sampled) (break_ends (now (tick + 13)) found (b.breaking 13 (omega arith)))
