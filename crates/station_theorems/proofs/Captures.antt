-- Ticks in Idle, and captures of any length (specs/OverTicks, Idle and Rx). Assumes nothing.
use Prim.Native.Nat.{ℕ, zero, suc, ◌+◌, ◌≤◌, ◌<◌, min}
use native.Mathlib.Omega.{arith}
use native.Mathlib.Decide.{dec_lt}
use native.Mathlib.Nat.{add-zero}
use mathlib.Core.Bool.{Bool, true, false, false≢true}
use mathlib.Core.List.{List, [], ◌∷◌}
use mathlib.Core.Logic.{inl, inr}
use mathlib.Core.Path.{◌≡◌, refl, sym, ◌∙◌, ap, subst}
use lib.ListN.{length, get_or, drop}
use Rattle.laws.specs.Pick.{pick}
use Rattle.laws.specs.Tabulate.{tabulate}
use Rattle.laws.proofs.Tabulated.{length_tabulate}
use Rattle.halfbits.specs.declared.HalfBitBuffer.{HalfBitBuffer}
use Rattle.machine.specs.Runs.{runs_counted}
use Rattle.machine.specs.Idle.{entered, idle_tick, silent, fell}
use Rattle.fsm.specs.declared.DaliBitbangPhy.{DaliBitbangPhy}
use Rattle.fsm.specs.Ticking.{tick_in, tick_of}
use Rattle.machine.specs.States.{is_idle}
use Rattle.fsm.specs.Starting.{start_tx_of}
use Rattle.station_theorems.specs.Calls.{Call, tick, start_tx, start_answer, poll, take_idle, take_rx, acknowledge, policy, after, after_all, is_between, is_answer, NoAnswer, Reached}
use Rattle.station_theorems.specs.Ticks.{IsIdle, IsCapturing, highs_running, level_in, levels_in}
use Rattle.station_theorems.specs.OverTicks.{idle_count, NoLow, OneLow, InIdle, IdleTicks, Hears, Captures, Captured, CaptureEnds}
use Rattle.station_theorems.proofs.Holding.{invariants}
use Rattle.station_theorems.proofs.ByState.{idle_not_capturing}
use Rattle.station_theorems.proofs.Between.{Same, itself, between_same, tx_refused}
use Rattle.station_theorems.proofs.Capturing.{HearingOn, hearing_kept, on_next, on_end, second_low_on, first_low}

-- ---- Idle
module _ (s : DaliBitbangPhy) (idle : IsIdle s) where
  none_yet : s.core.bus.rx_debounce ≡ 0 → NoLow s
  none_yet e = record { idle = idle; alone = (first_low s idle e).0 }

  one_yet : s.core.bus.rx_debounce ≡ 1 → OneLow s
  unfolding tick_of tick_in idle_tick silent fell entered runs_counted pick
  one_yet e = record { idle = idle; second = rw (idle, e) }

  after_high : NoLow (tick_of s true)
  unfolding tick_of tick_in idle_tick silent fell runs_counted pick
  after_high = rw idle (record { idle = refl; alone = refl })

  counted : idle_count (tick_of s true) ≡ min (idle_count s + 1) 65535
  unfolding tick_of tick_in idle_tick silent fell runs_counted pick
  counted = rw idle

  -- neither the first low tick nor the second changes the idle count
  not_reset_first : s.core.bus.rx_debounce ≡ 0 → idle_count (tick_of s false) ≡ idle_count s
  unfolding tick_of tick_in idle_tick silent fell runs_counted pick
  not_reset_first e = rw (idle, e)

  not_reset_second : s.core.bus.rx_debounce ≡ 1 → idle_count (tick_of s false) ≡ idle_count s
  unfolding tick_of tick_in idle_tick silent fell entered runs_counted pick
  not_reset_second e = rw (idle, e)

module _ (s : DaliBitbangPhy) (r : Reached s) (idle : IsIdle s) where
  at_most : s.core.bus.rx_debounce ≤ 1
  at_most = (invariants s r).debounce idle

  quiet : NoLow s → s.core.bus.rx_debounce ≡ 0
  quiet n = go (dec_lt s.core.bus.rx_debounce 1)
    where
      go : Dec (s.core.bus.rx_debounce < 1) → s.core.bus.rx_debounce ≡ 0
      go (yes none) = omega (arith, none)
      go (no some) = absurd (idle_not_capturing (sym n.alone ∙ (one_yet s idle (omega (arith, some, at_most))).second))

  pub debouncing : OneLow s → s.core.bus.rx_debounce ≡ 1
  debouncing o = go (dec_lt s.core.bus.rx_debounce 1)
    where
      go : Dec (s.core.bus.rx_debounce < 1) → s.core.bus.rx_debounce ≡ 1
      go (yes none) = absurd (idle_not_capturing (sym (none_yet s idle (omega (arith, none))).alone ∙ o.second))
      go (no some) = omega (arith, some, at_most)

  in_idle : Dec (s.core.bus.rx_debounce < 1) → InIdle s
  in_idle (yes none) =
      let e : s.core.bus.rx_debounce ≡ 0 = omega (arith, none) in
      record {
        either = inl (none_yet s idle e);
        after_high = after_high s idle;
        counted = counted s idle;
        after_low = λ n. one_yet (tick_of s false) (first_low s idle (quiet n)).0 (first_low s idle (quiet n)).1;
        not_reset = not_reset_first s idle e;
      }
  in_idle (no some) =
      let e : s.core.bus.rx_debounce ≡ 1 = omega (arith, some, at_most) in
      record {
        either = inr (one_yet s idle e);
        after_high = after_high s idle;
        counted = counted s idle;
        after_low = λ n. one_yet (tick_of s false) (first_low s idle (quiet n)).0 (first_low s idle (quiet n)).1;
        not_reset = not_reset_second s idle e;
      }

pub idle_ticks : IdleTicks
idle_ticks s r idle = in_idle s r idle (dec_lt s.core.bus.rx_debounce 1)

-- ---- captures
-- in Rx a start_tx is refused
not_started : (t : DaliBitbangPhy) (hb : HalfBitBuffer) → IsCapturing t → Same t (start_tx_of t hb).station
unfolding is_idle
not_started t hb e = rw (tx_refused t hb (ap is_idle e)) (itself t)

module _ (base : DaliBitbangPhy) (level : ℕ → Bool) where
  -- calls from m levels on, whose ticks sample the next n
  hears_on : (cs : List Call) (n m : ℕ) (f : ℕ → Bool) (t : DaliBitbangPhy) → levels_in cs ≡ tabulate n f → ((i : ℕ) → f i ≡ level (m + i)) → NoAnswer cs
      → ((k : ℕ) → k ≤ m + n → highs_running k level < 16) → HearingOn base level m t → HearingOn base level (m + n) (after_all cs t)
  unfolding levels_in level_in after_all after NoAnswer is_answer tabulate is_between
  hears_on [] n m f t e same un lasts h =
      let none : n ≡ 0 = sym (length_tabulate n f) ∙ sym (ap length e) in
      rw (none, add-zero m) h
  hears_on (tick b ∷ cs) zero m f t e same un lasts h = absurd (let none : ⊥ = omega (arith, ap length e) in none)
  hears_on (tick b ∷ cs) (suc n) m f t e same un lasts h =
      let first : b ≡ level m = ap (λ l. get_or l 0 true) e ∙ same 0 ∙ ap level (add-zero m) in
      let now : highs_running m level < 16 = lasts m (omega arith) in
      let then : highs_running (suc m) level < 16 = lasts (suc m) (omega arith) in
      let next : HearingOn base level (suc m) (tick_of t b) = rw first (on_next base level m t h (omega arith) (omega arith)) in
      let on : HearingOn base level (suc m + n) (after_all cs (tick_of t b))
      = hears_on cs n (suc m) (λ i. f (suc i)) (tick_of t b) (ap (drop 1) e) (λ i. same (suc i) ∙ ap level (omega arith)) un.1 (λ k le. lasts k (omega arith)) next in
      subst (λ (k : ℕ). HearingOn base level k (after_all cs (tick_of t b))) (omega arith) on
  hears_on (start_tx hb ∷ cs) n m f t e same un lasts h = hears_on cs n m f (after (start_tx hb) t) e same un.1 lasts (hearing_kept base level m t _ (not_started t hb h.in_rx) h)
  hears_on (start_answer hb ∷ cs) n m f t e same un lasts h = absurd (false≢true (sym un.0))
  hears_on (poll ∷ cs) n m f t e same un lasts h = hears_on cs n m f (after poll t) e same un.1 lasts (hearing_kept base level m t _ (between_same poll t refl) h)
  hears_on (take_idle ∷ cs) n m f t e same un lasts h = hears_on cs n m f (after take_idle t) e same un.1 lasts (hearing_kept base level m t _ (between_same take_idle t refl) h)
  hears_on (take_rx ∷ cs) n m f t e same un lasts h = hears_on cs n m f (after take_rx t) e same un.1 lasts (hearing_kept base level m t _ (between_same take_rx t refl) h)
  hears_on (acknowledge ∷ cs) n m f t e same un lasts h = hears_on cs n m f (after acknowledge t) e same un.1 lasts (hearing_kept base level m t _ (between_same acknowledge t refl) h)
  hears_on (policy p ∷ cs) n m f t e same un lasts h = hears_on cs n m f (after (policy p) t) e same un.1 lasts (hearing_kept base level m t _ (between_same (policy p) t refl) h)

module _ (s : DaliBitbangPhy) (level : ℕ → Bool) (n : ℕ) (calls : List Call) (h : Hears s level n calls) where
  hearing : HearingOn s level (2 + n) (after_all calls (tick_of s false))
  hearing =
      let idle : IsIdle s = h.starts.idle in
      let two : HearingOn s level 2 (tick_of s false)
      = second_low_on level s idle (debouncing s h.reached idle h.starts) h.two_lows.0 h.two_lows.1 in
      hears_on s level calls n 2 (λ i. level (2 + i)) (tick_of s false) h.ticks (λ i. refl) h.unanswered h.lasts two

  ends : highs_running (3 + n) level ≡ 16 → Captured s level (3 + n) (tick_of (after_all calls (tick_of s false)) (level (2 + n)))
  ends full =
      let e : suc (2 + n) ≡ 3 + n = omega arith in
      let now : highs_running (2 + n) level < 16 = h.lasts (2 + n) (omega arith) in
      rw e at (on_end s level (2 + n) (after_all calls (tick_of s false)) hearing (omega arith) (rw e full))

pub captures : Captures
captures s level n calls h = record { capturing = (hearing s level n calls h).in_rx; store = (hearing s level n calls h).store }

pub capture_ends : CaptureEnds
capture_ends s level n calls h full = ends s level n calls h (omega arith)
