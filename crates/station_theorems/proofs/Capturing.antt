-- What a station makes of the levels that it samples: one law for each tick, whatever the levels are and however many. Assumes nothing.
use Prim.Native.Nat.{ℕ, suc, ◌+◌, ◌*◌, ◌/◌, ◌%◌, ◌<◌, ◌≤◌, min}
use native.Mathlib.Omega.{arith}
use native.Mathlib.Decide.{dec_lt}
use native.Mathlib.Nat.{div-one, not-suc-le-zero}
use mathlib.Core.Bool.{Bool, true, false}
use mathlib.Core.List.{List}
use mathlib.Core.Path.{◌≡◌, refl, sym, ◌∙◌, ap}
use lib.Dec.{eqb}
use lib.ListN.{length, get_or, set, length-set}
use lib.Seq.{get_or-set_same, get_or-set_other}
use borrow.Author.Tests.{lt-ltb, le-ltb, eqb-true, eqb-false}
use Rattle.laws.specs.Bit.{bit}
use Rattle.laws.specs.Packed.{packed}
use Rattle.laws.specs.Pick.{pick}
use Rattle.laws.proofs.Picked.{on_true, on_false, cases}
use Rattle.laws.proofs.Digits.{packed_part, bit_lt}
use Rattle.capture.specs.declared.Samples.{Samples}
use Rattle.capture.specs.Samples.{bytes_of, with_byte}
use Rattle.capture.proofs.Kept.{whole, writes_one}
use Rattle.machine.specs.declared.RxState.TheVariants.{Completed}
use Rattle.machine.specs.declared.Rx.{Rx}
use Rattle.machine.specs.Fields.{with_rx}
use Rattle.machine.specs.Runs.{runs_counted}
use Rattle.machine.specs.BecomingIdle.{idled}
use Rattle.machine.specs.Idle.{entered, idle_tick, silent, fell}
use Rattle.fsm.specs.Rx.{shifted, high_run, sampled, filled, goes_on, finished, notified, went_on, rx_tick, none_sampled}
use Rattle.fsm.specs.declared.DaliBitbangPhy.{DaliBitbangPhy}
use Rattle.fsm.specs.Station.{last_bytes, last_count, with_core, with_rx_data}
use Rattle.fsm.specs.Ticking.{tick_in, tick_of}
use Rattle.station_theorems.specs.Ticks.{IsIdle, IsCapturing, highs_running}
use Rattle.station_theorems.specs.OverTicks as over
use Rattle.station_theorems.specs.OverTicks.{idle_count, captured, byte_of, Store, NoLow}
use Rattle.station_theorems.proofs.Between.{Same}
use Rattle.station_theorems.proofs.ByState.{tick_rx}

-- ---- the position
moves_on : (m at bits : ℕ) → at ≡ min (m / 8) 63 → bits ≡ m % 8 → bits ≡ 7 → min (at + 1) 63 ≡ min (suc m / 8) 63
moves_on m at bits e f g =
    let next : suc m / 8 ≡ suc (m / 8) = omega (arith, f, g) in
    rw (e, next) (climbs (m / 8))
  where
    climbs : (q : ℕ) → min (min q 63 + 1) 63 ≡ min (suc q) 63
    climbs q = omega arith

stays_there : (m at bits : ℕ) → at ≡ min (m / 8) 63 → bits ≡ m % 8 → (bits ≡ 7 → ⊥) → at ≡ min (suc m / 8) 63
stays_there m at bits e f g =
    let same : suc m / 8 ≡ m / 8 = omega (arith, f, g) in
    rw same e

pinned : (q at : ℕ) → at ≡ min q 63 → min at 63 ≡ min q 63
pinned q at e = rw e (omega arith)

module _ (level : ℕ → Bool) where
  abbrev pub digit : ℕ → ℕ
  digit p = bit (level p)

  -- ---- the counters of a capture, with m levels sampled
  pub record Sampled (m : ℕ) (r : Rx) : Type 0 where
    pub pos : r.rx_pos ≡ min (m / 8) 63
    pub count : r.rx_bit_cnt ≡ m % 8
    pub byte : r.rx_byte ≡ packed 2 m digit % 256
    pub idle : r.rx_idle ≡ highs_running m level

  module _ (m : ℕ) (r : Rx) (h : Sampled m r) where
    next_byte : shifted r (level m) ≡ packed 2 (suc m) digit % 256
    unfolding packed
    next_byte = rw h.byte (omega (arith, bit_lt (level m)))

    next_idle : highs_running m level ≤ 15 → high_run r (level m) ≡ highs_running (suc m) level
    unfolding high_run highs_running
    next_idle few = let e : min (r.rx_idle + 1) 255 ≡ suc (highs_running m level) = omega (arith, h.idle) in rw e

    pub sampled_next : highs_running m level ≤ 15 → Sampled (suc m) (sampled r (level m))
    unfolding sampled
    sampled_next few =
        cases (Sampled (suc m)) (eqb r.rx_bit_cnt 7)
        (λ e.
        let c : r.rx_bit_cnt ≡ 7 = eqb-true _ _ e in
        record { pos = moves_on m _ _ h.pos h.count c; count = omega (arith, h.count, c); byte = next_byte; idle = next_idle few })
        (λ e.
        let c : r.rx_bit_cnt ≡ 7 → ⊥ = eqb-false _ _ e in
        record { pos = stays_there m _ _ h.pos h.count c; count = omega (arith, h.count, c); byte = next_byte; idle = next_idle few })

  -- ---- its bytes
  -- the eight levels last sampled
  last_eight : (m q : ℕ) → 8 * q + 8 ≡ m → packed 2 m digit % 256 ≡ byte_of level q
  last_eight m q e = ap (λ x. x % 256) (sym (div-one (packed 2 m digit))) ∙ packed_part m (8 * q) 8 0 digit (omega arith) (λ i. bit_lt (level i))

  module _ (before : List ℕ) (samples : Samples) where
    abbrev bytes : List ℕ
    bytes = bytes_of samples

    -- a byte is written at its place, or over slot 63
    written : (q : ℕ) → Store before level q bytes → Store before level (suc q) (set bytes (min q 63) (byte_of level q))
    written q h = record { whole = length-set bytes (min q 63) _ ∙ h.whole; first = λ i p small. first_kept i p small (dec_lt i q); last = last_kept; rest = rest_kept }
      where
        first_kept : (i : ℕ) → i < suc q → i < 63 → Dec (i < q) → get_or (set bytes (min q 63) (byte_of level q)) i 0 ≡ byte_of level i
        first_kept i p small (yes early) = get_or-set_other bytes (min q 63) i _ 0 (λ e. let here : ⊥ = omega arith in here) ∙ h.first i early small
        first_kept i p small (no late) =
            let e : i ≡ q = omega (arith, late) in
            let at : min q 63 ≡ q = omega (arith, e) in
            rw (at, e) (get_or-set_same bytes q _ 0 (omega (arith, h.whole, e)))

        last_kept : (i : ℕ) → i + 1 ≡ suc q → 63 ≤ i → get_or (set bytes (min q 63) (byte_of level q)) 63 0 ≡ byte_of level i
        last_kept i e past =
            let same : i ≡ q = omega arith in
            let at : min q 63 ≡ 63 = omega arith in
            rw (at, same) (get_or-set_same bytes 63 _ 0 (omega (arith, h.whole)))

        rest_kept : (i : ℕ) → suc q ≤ i → get_or (set bytes (min q 63) (byte_of level q)) i 0 ≡ get_or before i 0
        rest_kept i past = get_or-set_other bytes (min q 63) i _ 0 (λ e. let here : ⊥ = omega arith in here) ∙ h.rest i (omega arith)

    module _ (m : ℕ) (r : Rx) (h : Sampled m r) (stored : Store before level (m / 8) bytes) where
      eighth_stored : r.rx_bit_cnt ≡ 7 → Store before level (suc m / 8) (bytes_of (with_byte samples (min r.rx_pos 63) (shifted r (level m))))
      eighth_stored c =
          let at : min r.rx_pos 63 ≡ min (m / 8) 63 = pinned (m / 8) _ h.pos in
          let last : 8 * (m / 8) + 8 ≡ suc m = omega (arith, h.count) in
          let next : suc m / 8 ≡ suc (m / 8) = omega (arith, h.count) in
          let small : shifted r (level m) < 256 = omega (arith, bit_lt (level m)) in
          rw (writes_one samples (min r.rx_pos 63) (shifted r (level m)) small, next, at, next_byte m r h, last_eight (suc m) (m / 8) last)
          (written (m / 8) stored)

      pub filled_next : Store before level (suc m / 8) (bytes_of (filled samples r (level m)))
      unfolding filled
      filled_next =
          cases (λ (x : Samples). Store before level (suc m / 8) (bytes_of x)) (eqb r.rx_bit_cnt 7) (λ e. eighth_stored (eqb-true _ _ e))
          (λ e. let c : r.rx_bit_cnt ≡ 7 → ⊥ = eqb-false _ _ e in let same : suc m / 8 ≡ m / 8 = omega (arith, h.count, c) in rw same stored)

-- ---- a tick in Rx
module _ (s : DaliBitbangPhy) (high : Bool) (in_rx : IsCapturing s) where
  tick_on : goes_on (sampled s.core.rx high) ≡ true
      → tick_of s high ≡ with_rx_data (with_core s (with_rx (runs_counted s.core high) (sampled s.core.rx high))) (filled s.rx_data s.core.rx high)
  unfolding rx_tick went_on runs_counted
  tick_on e = tick_rx s high in_rx ∙ simp (on_true e)

  tick_end : goes_on (sampled s.core.rx high) ≡ false
      → tick_of s high
      ≡ notified s (finished (runs_counted s.core high) (sampled s.core.rx high)) (with_byte (filled s.rx_data s.core.rx high) (sampled s.core.rx high).rx_pos 255)
  unfolding rx_tick went_on runs_counted
  tick_end e = tick_rx s high in_rx ∙ simp (on_false e)

-- the silence before a capture stays with it
pre_kept : (r : Rx) (high : Bool) → (sampled r high).rx_pre_idle ≡ r.rx_pre_idle
unfolding sampled
pre_kept r high = cases (λ (x : Rx). x.rx_pre_idle ≡ r.rx_pre_idle) (eqb r.rx_bit_cnt 7) (λ _. refl) (λ _. refl)

-- a station whose capture is over is Idle, and remembers no low
at_rest : (s : DaliBitbangPhy) (high : Bool) (r : Rx) (samples : Samples) → NoLow (notified s (finished (runs_counted s.core high) r) samples)
unfolding notified finished idled runs_counted tick_of tick_in idle_tick silent fell pick
at_rest s high r samples = record { idle = refl; alone = refl }

-- the end: 0xFF at the position
ended : (s : DaliBitbangPhy) (high : Bool) (r : Rx) (samples : Samples) (base : DaliBitbangPhy) (level : ℕ → Bool) (m : ℕ)
    → r.rx_pos ≡ min (m / 8) 63 → Store (captured base) level (m / 8) (bytes_of samples) → r.rx_pre_idle ≡ min (idle_count base) 255
    → over.Captured base level m (notified s (finished (runs_counted s.core high) r) (with_byte samples r.rx_pos 255))
unfolding notified finished idled
ended s high r samples base level m at b pre = record {
  idle = at_rest s high r (with_byte samples r.rx_pos 255);
  whole = whole (with_byte samples r.rx_pos 255);
  ready = refl;
  count = rw at (plain (m / 8));
  first = λ i p small. rw put (get_or-set_other (bytes_of samples) (min (m / 8) 63) i 255 0 (λ e. let here : ⊥ = omega arith in here) ∙ b.first i p small);
  end = rw put (get_or-set_same (bytes_of samples) (min (m / 8) 63) 255 0 (let within : min (m / 8) 63 < length (bytes_of samples) = omega (arith, b.whole) in within));
  rest = λ i past. rw put (get_or-set_other (bytes_of samples) (min (m / 8) 63) i 255 0 (λ e. let here : ⊥ = omega arith in here) ∙ b.rest i (omega arith));
  silence = pre;
  stays = refl;
}
  where
    put : bytes_of (with_byte samples r.rx_pos 255) ≡ set (bytes_of samples) (min (m / 8) 63) 255
    put = writes_one samples r.rx_pos 255 (omega arith) ∙ ap (λ i. set (bytes_of samples) i 255) at

    plain : (q : ℕ) → min (min q 63 + 1) 65535 ≡ min q 63 + 1
    plain q = omega arith

-- `base` is the station before the capture, and s has sampled m levels of it
module _ (base : DaliBitbangPhy) (level : ℕ → Bool) where
  pub record HearingOn (m : ℕ) (s : DaliBitbangPhy) : Type 0 where
    pub in_rx : IsCapturing s
    pub counters : Sampled level m s.core.rx
    pub store : Store (captured base) level (m / 8) (captured s)
    pub silence : s.core.rx.rx_pre_idle ≡ min (idle_count base) 255

  pub hearing_kept : (m : ℕ) (s t : DaliBitbangPhy) → Same s t → HearingOn m s → HearingOn m t
  hearing_kept m s t same h =
      let bus : t.core.bus ≡ s.core.bus = same.bus in
      let rx : t.core.rx ≡ s.core.rx = same.rx in
      let bytes : t.rx_data ≡ s.rx_data = same.bytes in
      record { in_rx = rw bus h.in_rx; counters = rw rx h.counters; store = rw bytes h.store; silence = rw rx h.silence }

  module _ (m : ℕ) (s : DaliBitbangPhy) (h : HearingOn m s) (few : highs_running m level ≤ 15) where
    then : Sampled level (suc m) (sampled s.core.rx (level m))
    then = sampled_next level m s.core.rx h.counters few

    then_bytes : Store (captured base) level (suc m / 8) (bytes_of (filled s.rx_data s.core.rx (level m)))
    then_bytes = filled_next level (captured base) s.rx_data m s.core.rx h.counters h.store

    pub on_next : highs_running (suc m) level ≤ 15 → HearingOn (suc m) (tick_of s (level m))
    unfolding runs_counted
    on_next short =
        let on : (sampled s.core.rx (level m)).rx_idle < 16 = omega (arith, then.idle) in
        rw (tick_on s (level m) h.in_rx (lt-ltb _ _ on))
        (record { in_rx = h.in_rx; counters = then; store = then_bytes; silence = pre_kept s.core.rx (level m) ∙ h.silence })

    pub on_end : highs_running (suc m) level ≡ 16 → over.Captured base level (suc m) (tick_of s (level m))
    on_end full =
        let over : 16 ≤ (sampled s.core.rx (level m)).rx_idle = omega (arith, then.idle) in
        rw (tick_end s (level m) h.in_rx (le-ltb _ _ over))
        (ended s (level m) (sampled s.core.rx (level m)) (filled s.rx_data s.core.rx (level m)) base level (suc m) then.pos then_bytes
        (pre_kept s.core.rx (level m) ∙ h.silence))

-- ---- ticks in Idle
-- The second low tick running starts Rx, with two low levels sampled.
two_lows : (level : ℕ → Bool) (pre : ℕ) → level 0 ≡ false → level 1 ≡ false → Sampled level 2 (sampled (sampled (none_sampled pre) false) false)
unfolding sampled high_run pick highs_running packed
two_lows level pre e f = record { pos = refl; count = refl; byte = rw (e, f); idle = rw f }

pub second_low_on : (level : ℕ → Bool) (s : DaliBitbangPhy) → IsIdle s → s.core.bus.rx_debounce ≡ 1 → level 0 ≡ false → level 1 ≡ false
    → HearingOn s level 2 (tick_of s false)
unfolding tick_of tick_in idle_tick silent fell entered sampled high_run runs_counted pick
second_low_on level s idle once e f =
    rw (idle, once) (record { in_rx = refl; counters = two_lows level _ e f; store = untouched; silence = refl })
  where
    untouched : Store (captured s) level (2 / 8) (captured s)
    untouched = record { whole = whole s.rx_data; first = λ i p _. absurd (not-suc-le-zero p); last = λ i e _. absurd (let none : ⊥ = omega arith in none); rest = λ i _. refl }

-- One low tick alone is only remembered.
pub first_low : (s : DaliBitbangPhy) → IsIdle s → s.core.bus.rx_debounce ≡ 0
    → IsIdle (tick_of s false) × ((tick_of s false).core.bus.rx_debounce ≡ 1) × ((tick_of s false).rx_data ≡ s.rx_data)
unfolding tick_of tick_in idle_tick silent fell runs_counted pick
first_low s idle none = rw (idle, none) (refl, refl, refl)

-- ---- captures of up to 504 levels, which overwrite no slot
module _ (level : ℕ → Bool) where
  -- bytes of which n are written
  pub record Stored (n : ℕ) (bytes : List ℕ) : Type 0 where
    pub whole : length bytes ≡ 64
    pub each : (i : ℕ) → i < n → get_or bytes i 0 ≡ byte_of level i

  -- a station in Rx that has sampled m levels
  pub record Hearing (m : ℕ) (s : DaliBitbangPhy) : Type 0 where
    pub base : DaliBitbangPhy
    pub on : HearingOn base level m s

  -- a station that has made a capture of m of them: the last sixteen were high, and what is not a whole byte is an idle one
  pub record Captured (m : ℕ) (s : DaliBitbangPhy) : Type 0 where
    pub idle : IsIdle s
    pub ready : s.core.told.rx_state ≡ Completed
    pub count : last_count s ≡ m / 8 + 1
    pub bytes : Stored (m / 8) (last_bytes s)
    pub end : get_or (last_bytes s) (m / 8) 0 ≡ 255

  module _ (m : ℕ) (s : DaliBitbangPhy) (h : Hearing m s) (room : m < 504) (few : highs_running m level ≤ 15) where
    pub hearing_next : highs_running (suc m) level ≤ 15 → Hearing (suc m) (tick_of s (level m))
    hearing_next short = record { base = h.base; on = on_next h.base level m s h.on few short }

    pub captured_next : highs_running (suc m) level ≡ 16 → Captured (suc m) (tick_of s (level m))
    captured_next full =
        let c : over.Captured h.base level (suc m) (tick_of s (level m)) = on_end h.base level m s h.on few full in
        let at : min (suc m / 8) 63 ≡ suc m / 8 = omega arith in
        record {
          idle = c.idle.idle;
          ready = c.ready;
          count = omega (arith, c.count);
          bytes = record { whole = c.whole; each = λ i p. c.first i p (omega arith) };
          end = rw at at c.end;
        }

  -- A capture stays while the line is high.
  pub captured_stays : (m : ℕ) (s : DaliBitbangPhy) → Captured m s → Captured m (tick_of s true)
  unfolding tick_of tick_in idle_tick silent fell runs_counted pick
  captured_stays m s h = rw h.idle (record { idle = refl; ready = h.ready; count = h.count; bytes = h.bytes; end = h.end })

  pub second_low : (s : DaliBitbangPhy) → IsIdle s → s.core.bus.rx_debounce ≡ 1 → level 0 ≡ false → level 1 ≡ false
      → Hearing 2 (tick_of s false)
  second_low s idle once e f = record { base = s; on = second_low_on level s idle once e f }
