-- A station that hears a wave whole captures it, with one low tick in front where it was debouncing, whatever a host calls meanwhile.
-- Assumes nothing.
use Prim.Native.Nat.{ℕ, zero, suc, ◌+◌, ◌-◌, ◌*◌, ◌/◌, ◌<◌, ◌≤◌}
use native.Mathlib.Omega.{arith}
use native.Mathlib.Decide.{dec_lt}
use native.Mathlib.Nat.{not-suc-le-zero}
use mathlib.Core.Bool.{Bool}
use mathlib.Core.List.{List}
use mathlib.Core.Path.{◌≡◌, refl, sym, ◌∙◌, ap, subst}
use lib.ListN.{length, get_or}
use Rattle.laws.specs.Pick.{pick}
use Rattle.halfbits.specs.Wave.{high, low, level_at}
use Rattle.halfbits.proofs.Levels.{bit_of, first_level}
use Rattle.event.specs.Event.{event_of}
use Rattle.machine.specs.declared.BusState.TheVariants as bus
use Rattle.fsm.specs.declared.DaliBitbangPhy.{DaliBitbangPhy}
use Rattle.fsm.specs.Ticking.{tick_of}
use Rattle.station_theorems.specs.Calls.{Reached}
use Rattle.station_theorems.proofs.Holding.{invariants}
use Rattle.station_theorems.specs.Ticks.{IsIdle, highs_running}
use Rattle.station_theorems.proofs.Between.{Same}
use Rattle.frames.specs.ReadAs.{Whole, FitsCapture}
use Rattle.frames.specs.Hosts.{Host, after_levels_amid, LetsHear}
use Rattle.station_theorems.proofs.Capturing.{Stored, Hearing, hearing_kept, Captured, hearing_next, captured_next, captured_stays, first_low, second_low}
use Rattle.frames.proofs.Between.{mark_of, all_kept, all_in_rx, all_between, all_marks}
use Rattle.frames.proofs.Waving.{last_low, after_last, short, sixteen, runs_on, low_in_bounds}

-- ---- what is left as it was
module _ (level : ℕ → Bool) (m : ℕ) {s t : DaliBitbangPhy} (k : Same s t) where
  hears_on : Hearing level m s → Hearing level m t
  hears_on h = record { base = h.base; on = hearing_kept h.base level m s t k h.on }

  holds_on : mark_of t ≡ mark_of s → Captured level m s → Captured level m t
  unfolding event_of
  holds_on same h = record {
    idle = ap (λ b. b.bus_state) k.bus ∙ h.idle;
    ready = same ∙ h.ready;
    count = ap (λ e. e.sample_count) k.last ∙ h.count;
    bytes = subst (Stored level (m / 8)) (sym (ap (λ e. e.samples) k.last)) h.bytes;
    end = ap (λ e. get_or e.samples (m / 8) 0) k.last ∙ h.end;
  }

-- ---- from the second low sample to the sixteenth high one, and on
-- (`later n`: the station n ticks behind the second sample)
module _ (level : ℕ → Bool) (end : ℕ) (room : end ≤ 504) (long : 3 ≤ end)
    (before : (m : ℕ) → m < end → highs_running m level ≤ 15) (full : highs_running end level ≡ 16) (stays : (k : ℕ) → end ≤ k → level k ≡ high)
    (later : ℕ → DaliBitbangPhy) (two : Hearing level 2 (later 0))
    (calls-kept : (n : ℕ) → let t = tick_of (later n) (level (suc (suc n))) in t.core.bus.bus_state ≡ bus.Rx → Same t (later (suc n)))
    (ready-kept : (n : ℕ) → end ≤ suc (suc (suc n))
    → let t = tick_of (later n) (level (suc (suc n))) in Same t (later (suc n)) × (mark_of (later (suc n)) ≡ mark_of t)) where
  still : (n : ℕ) → suc (suc n) < end → Hearing level (suc (suc n)) (later n)
  still zero h = two
  still (suc n) h =
      let next
      = hearing_next level (suc (suc n)) (later n) (still n (omega arith)) (omega arith) (before (suc (suc n)) (omega arith)) (before (suc (suc (suc n))) h) in
      hears_on level (suc (suc (suc n))) (calls-kept n next.on.in_rx) next

  caught : (n : ℕ) → suc (suc (suc n)) ≡ end → Captured level end (later (suc n))
  caught n e =
      let c = captured_next level (suc (suc n)) (later n) (still n (omega arith)) (omega arith) (before (suc (suc n)) (omega arith)) (ap (λ m. highs_running m level) e ∙ full) in
      subst (λ (m : ℕ). Captured level m (later (suc n))) e (let (kept, mark) = ready-kept n (omega arith) in holds_on level (suc (suc (suc n))) kept mark c)

  then : (n : ℕ) → end ≤ suc (suc (suc n)) → (end ≤ suc (suc n) → Captured level end (later n)) → Dec (suc (suc n) < end) → Captured level end (later (suc n))
  then n h held (yes last) = caught n (omega arith)
  then n h held (no past) =
      let e : level (suc (suc n)) ≡ high = stays (suc (suc n)) (omega (arith, past)) in
      let (kept, mark) = ready-kept n h in
      holds_on level end kept mark
      (subst (λ (l : Bool). Captured level end (tick_of (later n) l)) (sym e) (captured_stays level end (later n) (held (omega (arith, past)))))

  pub captures : (n : ℕ) → end ≤ suc (suc n) → Captured level end (later n)
  captures zero h = absurd (let none : ⊥ = omega arith in none)
  captures (suc n) h = then n h (captures n) (dec_lt (suc (suc n)) end)

-- ---- a wave, with so many low ticks in front
abbrev pub late : ℕ → (ℕ → Bool) → ℕ → Bool
late zero level p = level p
late (suc d) level zero = low
late (suc d) level (suc p) = late d level p

-- a low tick in front leaves the highs that are running
highs_late : (level : ℕ → Bool) (t : ℕ) → highs_running (suc t) (late 1 level) ≡ highs_running t level
unfolding highs_running pick
highs_late level zero = refl
highs_late level (suc t) = rw (highs_late level t)

-- what is captured of a wave: all of it, and up to sixteen high ticks
pub record Caught (frame : List Bool) (s : DaliBitbangPhy) : Type 0 where
  pub front : ℕ
  pub few : front ≤ 1
  pub end : ℕ
  pub ends : end ≡ front + (last_low frame + 17)
  pub capture : Captured (late front (level_at frame)) end s

module _ (frame : List Bool) (fits : FitsCapture frame) where
  starts_low : (t : ℕ) → t < 4 → level_at frame t ≡ low
  starts_low t h = ap (level_at frame) (let e : t ≡ 8 * 0 + t = omega arith in e) ∙ first_level frame 0 t (omega arith) h

  not_yet : (t : ℕ) → t < last_low frame + 17 → highs_running t (level_at frame) ≤ 15
  not_yet t h = short frame t (omega arith)

  ends_high : (k : ℕ) → last_low frame + 17 ≤ k → level_at frame k ≡ high
  ends_high k h = ap (level_at frame) (let e : k ≡ suc (last_low frame) + (k - suc (last_low frame)) = omega arith in e) ∙ after_last frame (k - suc (last_low frame))

  -- the same behind one low tick
  not_yet_late : (t : ℕ) → t < suc (last_low frame + 17) → highs_running t (late 1 (level_at frame)) ≤ 15
  unfolding highs_running
  not_yet_late zero h = omega arith
  not_yet_late (suc t) h = rw (highs_late (level_at frame) t) (not_yet t (omega arith))

  ends_high_late : (k : ℕ) → suc (last_low frame + 17) ≤ k → late 1 (level_at frame) k ≡ high
  ends_high_late zero h = absurd (not-suc-le-zero h)
  ends_high_late (suc k) h = ends_high k (omega arith)

  enough : last_low frame + 17 ≤ 503
  enough = let b = low_in_bounds (bit_of frame (length frame)) in omega arith

  module _ (host : Host) (lets : LetsHear frame host) (s : DaliBitbangPhy) (idle : IsIdle s) where
    abbrev level : ℕ → Bool
    level = level_at frame

    abbrev now : ℕ → DaliBitbangPhy
    now n = after_levels_amid host n level s

    -- ---- its calls
    first_calls : Same s (now 0)
    unfolding after_levels_amid
    first_calls = all_kept (host 0) s (lets.idle 0 (omega arith))

    second_calls : Same (tick_of (now 0) (level 0)) (now 1)
    unfolding after_levels_amid
    second_calls = all_kept (host 1) (tick_of (now 0) (level 0)) (lets.idle 1 (omega arith))

    calls_in_rx : (n : ℕ) → (tick_of (now n) (level n)).core.bus.bus_state ≡ bus.Rx → Same (tick_of (now n) (level n)) (now (suc n))
    unfolding after_levels_amid
    calls_in_rx n in_rx = all_in_rx (host (suc n)) (tick_of (now n) (level n)) in_rx (lets.in_rx (suc n))

    last_calls : (n : ℕ) → last_low frame + 17 ≤ suc n
        → Same (tick_of (now n) (level n)) (now (suc n)) × (mark_of (now (suc n)) ≡ mark_of (tick_of (now n) (level n)))
    unfolding after_levels_amid
    last_calls n h =
        let each = lets.ready (suc n) (runs_on frame (suc n) h) in
        (all_kept (host (suc n)) (tick_of (now n) (level n)) (all_between (host (suc n)) each), all_marks (host (suc n)) (tick_of (now n) (level n)) each)

    -- ---- the capture
    -- Idle with so many low ticks remembered
    abbrev Ready : ℕ → DaliBitbangPhy → Type 0
    Ready fell t = IsIdle t × (t.core.bus.rx_debounce ≡ fell)

    idles_on : (fell : ℕ) (t u : DaliBitbangPhy) → Same t u → Ready fell t → Ready fell u
    idles_on fell t u k r = (ap (λ b. b.bus_state) k.bus ∙ r.0, ap (λ b. b.rx_debounce) k.bus ∙ r.1)

    -- the wave's second tick starts Rx
    from_quiet : s.core.bus.rx_debounce ≡ 0 → (n : ℕ) → last_low frame + 17 ≤ suc (suc n) → Caught frame (now (suc (suc n)))
    from_quiet quiet n h =
        let first : level 0 ≡ low = starts_low 0 (omega arith) in
        let second : level 1 ≡ low = starts_low 1 (omega arith) in
        let r = idles_on 0 s (now 0) first_calls (idle, quiet) in
        let fell = first_low (now 0) r.0 r.1 in
        let one : Ready 1 (tick_of (now 0) (level 0)) = rw first (fell.0, fell.1) in
        let r' = idles_on 1 (tick_of (now 0) (level 0)) (now 1) second_calls one in
        let two : Hearing level 2 (tick_of (now 1) (level 1)) = rw second (second_low level (now 1) r'.0 r'.1 first second) in
        record {
          front = 0;
          few = omega arith;
          end = last_low frame + 17;
          ends = omega arith;
          capture
              = captures level (last_low frame + 17) (omega (arith, enough)) (omega arith) not_yet (sixteen frame) ends_high (λ k. now (suc (suc k)))
              (hears_on level 2 (calls_in_rx 1 two.on.in_rx) two) (λ k. calls_in_rx (suc (suc k))) (λ k. last_calls (suc (suc k))) n h;
        }

    -- its first tick does, if the one before was low
    from_debouncing : s.core.bus.rx_debounce ≡ 1 → (n : ℕ) → last_low frame + 17 ≤ suc n → Caught frame (now (suc n))
    from_debouncing fell n h =
        let first : level 0 ≡ low = starts_low 0 (omega arith) in
        let r = idles_on 1 s (now 0) first_calls (idle, fell) in
        let two : Hearing (late 1 level) 2 (tick_of (now 0) (level 0)) = rw first (second_low (late 1 level) (now 0) r.0 r.1 refl first) in
        record {
          front = 1;
          few = omega arith;
          end = suc (last_low frame + 17);
          ends = omega arith;
          capture
              = captures (late 1 level) (suc (last_low frame + 17)) (omega (arith, enough)) (omega arith) not_yet_late (highs_late level (last_low frame + 17) ∙ sixteen frame)
              ends_high_late (λ k. now (suc k)) (hears_on (late 1 level) 2 (calls_in_rx 0 two.on.in_rx) two) (λ k. calls_in_rx (suc k)) (λ k p. last_calls (suc k) (omega arith)) n (omega arith);
        }

    either_way : (ticks : ℕ) → last_low frame + 17 ≤ ticks → s.core.bus.rx_debounce ≤ 1 → Dec (s.core.bus.rx_debounce < 1) → Caught frame (now ticks)
    either_way zero h one quiet = absurd (let none : ⊥ = omega arith in none)
    either_way (suc zero) h one quiet = absurd (let none : ⊥ = omega arith in none)
    either_way (suc (suc n)) h one (yes quiet) = from_quiet (omega arith) n h
    either_way (suc (suc n)) h one (no fell) = from_debouncing (omega (arith, fell)) (suc n) h

  -- sixteen high ticks running are not heard sooner
  long_enough : (ticks : ℕ) → Whole frame ticks → Dec (ticks < last_low frame + 17) → last_low frame + 17 ≤ ticks
  long_enough ticks whole (yes early) = let few = not_yet ticks early in absurd (let none : ⊥ = omega arith in none)
  long_enough ticks whole (no late) = omega (arith, late)

  pub catches : (s : DaliBitbangPhy) → Reached s → IsIdle s → (host : Host) → LetsHear frame host → (ticks : ℕ) → Whole frame ticks
      → Caught frame (after_levels_amid host ticks (level_at frame) s)
  catches s reached idle host lets ticks whole =
      let holds = invariants s reached in
      either_way host lets s idle ticks (long_enough ticks whole (dec_lt ticks (last_low frame + 17))) (holds.debounce idle) (dec_lt s.core.bus.rx_debounce 1)
