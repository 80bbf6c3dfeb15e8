-- What the stations of a line hear, tick after tick, and what one that does not send keeps meanwhile. Assumes nothing.
use Prim.Native.Nat.{ℕ, zero, suc, ◌+◌, ◌-◌, ◌≤◌, ◌<◌, min}
use native.Mathlib.Nat.{add-zero, add-suc}
use native.Mathlib.Omega.{arith}
use mathlib.Core.Bool.{Bool, true, false, false≢true}
use mathlib.Core.List.{List}
use mathlib.Core.Logic.{◌⊎◌, inl, inr}
use mathlib.Core.Path.{◌≡◌, refl, ap, ◌∙◌, subst}
use lib.Dec.{ltb}
use lib.ListN.{length, get_or}
use Rattle.laws.specs.Pick.{pick}
use Rattle.laws.proofs.Picked.{cases}
use Rattle.machine.specs.Fields.{with_rx_state}
use Rattle.machine.specs.declared.BusState.{BusState}
use Rattle.machine.specs.declared.BusState.TheVariants as bus
use Rattle.machine.specs.declared.RxState.{RxState}
use Rattle.machine.specs.declared.RxState.TheVariants.{Receiving, Completed}
use Rattle.machine.specs.declared.Runs.{Runs}
use Rattle.machine.specs.declared.Told.{Told}
use Rattle.machine.specs.declared.Core.{Core}
use Rattle.machine.specs.Runs.{runs_counted}
use Rattle.machine.specs.BecomingIdle.{idled}
use Rattle.machine.specs.Idle.{entered, idle_tick, silent, fell}
use Rattle.fsm.specs.Rx.{sampled, goes_on, finished, notified, rx_tick, went_on}
use Rattle.fsm.specs.declared.DaliBitbangPhy.{DaliBitbangPhy}
use Rattle.fsm.specs.Station.{new_station}
use Rattle.fsm.specs.Ticking.{tick_in, tick_of}
use Rattle.machine.specs.States.{hears}
use Rattle.station_theorems.specs.Calls as station
use Rattle.station_theorems.specs.Calls.{Reached, after}
use Rattle.station_theorems.proofs.Holding.{invariants}
use Rattle.bench_line.specs.declared.BenchLine.{BenchLine}
use Rattle.bench_line.specs.Line.{stations_on, station_at, level_left, line_ticked}
use Rattle.bench_line.proofs.Laws.{left_high, left_low}
use Rattle.station_theorems.specs.Ticks.{drives, IsIdle, after_levels}
use Rattle.line_theorems.specs.Reached.{line_after, tick, ReachedLine, called}
use Rattle.line_theorems.specs.Lines.{LineHolds}
use Rattle.line_theorems.specs.OnLine.{ticks_on}
use Rattle.line_theorems.proofs.Lines.{ticked_within, line_invariants}

-- ---- a line that ticks
-- every station samples the level that the line was left at
pub tick_at : (l : BenchLine) → length l.stations ≡ 4 → (number : ℕ) → number < stations_on l
    → station_at (line_ticked l) number ≡ tick_of (station_at l number) l.level
unfolding line_ticked
tick_at l whole number on = ticked_within (stations_on l) number l.level l.stations new_station on (omega (arith, whole))

pub ticks_reached : (n : ℕ) (l : BenchLine) → ReachedLine l → ReachedLine (ticks_on n l)
unfolding ticks_on line_after
ticks_reached zero l r = r
ticks_reached (suc n) l r = called tick (ticks_reached n l r)

pub same_count : (n : ℕ) (l : BenchLine) → (ticks_on n l).count ≡ l.count
unfolding ticks_on line_ticked
same_count zero l = refl
same_count (suc n) l = same_count n l

-- the level that so many ticks leave, which the next one samples
abbrev pub levels : BenchLine → ℕ → Bool
levels l t = (ticks_on t l).level

pub on_line : (l : BenchLine) → ReachedLine l → (number : ℕ) → number < stations_on l → (n : ℕ)
    → station_at (ticks_on n l) number ≡ after_levels n (levels l) (station_at l number)
unfolding ticks_on after_levels
on_line l r number on zero = refl
on_line l r number on (suc n) =
    tick_at (ticks_on n l) (line_invariants (ticks_on n l) (ticks_reached n l r)).places number (omega (arith, same_count n l))
    ∙ ap (λ (s : DaliBitbangPhy). tick_of s (levels l n)) (on_line l r number on n)

-- ---- the level that is left
all_high : (n : ℕ) (ss : List DaliBitbangPhy) → ((i : ℕ) → i < n → drives (get_or ss i new_station) ≡ true) → level_left n ss ≡ true
unfolding level_left
all_high zero ss high = refl
all_high (suc n) ss high = left_high n new_station ss (all_high n ss (λ i below. high i (omega arith))) (high n (omega arith))

pub left_if_all_high : (l : BenchLine) → LineHolds l → ((number : ℕ) → number < stations_on l → drives (station_at l number) ≡ true) → l.level ≡ true
left_if_all_high l h high = h.left ∙ all_high (stations_on l) l.stations high

pub left_if_one_low : (l : BenchLine) → LineHolds l → (number : ℕ) → number < stations_on l → drives (station_at l number) ≡ false → l.level ≡ false
left_if_one_low l h number on low = h.left ∙ left_low number (stations_on l) new_station l.stations on (omega (arith, h.places)) low

-- ---- many ticks of a station
pub heard_more : (m n : ℕ) (level : ℕ → Bool) (s : DaliBitbangPhy) → after_levels (m + n) level s ≡ after_levels n (λ t. level (m + t)) (after_levels m level s)
unfolding after_levels
heard_more m zero level s = rw (add-zero m)
heard_more m (suc n) level s = rw (add-suc m n) (ap (λ (before : DaliBitbangPhy). tick_of before (level (m + n))) (heard_more m n level s))

pub heard_same : (n : ℕ) (these those : ℕ → Bool) (s : DaliBitbangPhy) → ((t : ℕ) → t < n → these t ≡ those t) → after_levels n these s ≡ after_levels n those s
unfolding after_levels
heard_same zero these those s same = refl
heard_same (suc n) these those s same =
    ap (tick_of (after_levels n these s)) (same n (omega arith))
    ∙ ap (λ (before : DaliBitbangPhy). tick_of before (those n)) (heard_same n these those s (λ t below. same t (omega arith)))

pub heard_reached : (n : ℕ) (level : ℕ → Bool) (s : DaliBitbangPhy) → Reached s → Reached (after_levels n level s)
unfolding after_levels after
heard_reached zero level s r = r
heard_reached (suc n) level s r = station.called (station.tick (level n)) (heard_reached n level s r)

-- ---- a station that does not send
-- Idle or in Rx, with what its last send left to tell: the clashes, whether the line was idle after the break, and whether it yielded
pub record Listens (collision : ℕ) (found yielded : Bool) (s : DaliBitbangPhy) : Type 0 where
  pub hearing : hears s.core.bus.bus_state ≡ true
  pub collisions : s.core.told.tx_collision ≡ collision
  pub marked : s.core.told.tx_idle_after_break ≡ found
  pub yields : s.core.told.tx_yielded ≡ yielded

-- Such a core goes on hearing, and of what it tells only the mark of a capture may be another. Its runs are what the level makes them.
pub record Keeps (c : Core) (level : Bool) (d : Core) : Type 0 where
  pub hearing : hears d.bus.bus_state ≡ true
  pub mark : RxState
  pub told : d.told ≡ (with_rx_state c mark).told
  pub runs : d.runs ≡ (runs_counted c level).runs

module _ (c : Core) (level : Bool) (h : hears c.bus.bus_state ≡ true) where
  idle_keeps : Keeps c level (idle_tick (runs_counted c level) level)
  unfolding idle_tick silent fell entered runs_counted hears
  idle_keeps =
      cases (Keeps c level) level (λ _. record { hearing = h; mark = _; told = refl; runs = refl })
      (λ _. cases (Keeps c level) (ltb (min (c.bus.rx_debounce + 1) 255) 2)
      (λ _. record { hearing = h; mark = _; told = refl; runs = refl })
      (λ _. record { hearing = refl; mark = Receiving; told = refl; runs = refl }))

  rx_keeps : (s : DaliBitbangPhy) → Keeps c level (rx_tick s (runs_counted c level) level).core
  unfolding rx_tick went_on notified finished idled runs_counted hears
  rx_keeps s =
      cases (λ (t : DaliBitbangPhy). Keeps c level t.core) (goes_on (sampled c.rx level)) (λ _. record { hearing = h; mark = _; told = refl; runs = refl })
      (λ _. record { hearing = refl; mark = Completed; told = refl; runs = refl })

module _ (s : DaliBitbangPhy) (level : Bool) (h : hears s.core.bus.bus_state ≡ true) where
  act_keeps : (state : BusState) → hears state ≡ true → Keeps s.core level (tick_in state s (runs_counted s.core level) level).core
  unfolding tick_in hears pick
  act_keeps bus.Idle e = idle_keeps s.core level h
  act_keeps bus.Rx e = rx_keeps s.core level h s
  act_keeps bus.Tx e = absurd (false≢true e)
  act_keeps bus.CollisionTx e = absurd (false≢true e)

  pub tick_keeps : Keeps s.core level (tick_of s level).core
  unfolding tick_of
  tick_keeps = act_keeps s.core.bus.bus_state h

module _ {collision : ℕ} {found yielded : Bool} where
  pub listens_next : (s : DaliBitbangPhy) (level : Bool) → Listens collision found yielded s → Listens collision found yielded (tick_of s level)
  listens_next s level h =
      let k = tick_keeps s level h.hearing in
      record {
        hearing = k.hearing;
        collisions = ap (λ (told : Told). told.tx_collision) k.told ∙ h.collisions;
        marked = ap (λ (told : Told). told.tx_idle_after_break) k.told ∙ h.marked;
        yields = ap (λ (told : Told). told.tx_yielded) k.told ∙ h.yields;
      }

  pub listens_on : (n : ℕ) (level : ℕ → Bool) {s : DaliBitbangPhy} → Listens collision found yielded s → Listens collision found yielded (after_levels n level s)
  unfolding after_levels
  listens_on zero level h = h
  listens_on (suc n) level h = listens_next _ (level n) (listens_on n level h)

pub listener_drives : (s : DaliBitbangPhy) → Reached s → hears s.core.bus.bus_state ≡ true → drives s ≡ true
listener_drives s r = (invariants s r).released

-- one that is Idle stays so while the line is high
pub quiet_next : (s : DaliBitbangPhy) → IsIdle s → IsIdle (tick_of s true)
unfolding tick_of tick_in idle_tick silent fell runs_counted pick
quiet_next s idle = rw idle refl

pub quiet : (n : ℕ) (level : ℕ → Bool) (s : DaliBitbangPhy) → IsIdle s → ((t : ℕ) → t < n → level t ≡ true) → IsIdle (after_levels n level s)
unfolding after_levels
quiet zero level s idle high = idle
quiet (suc n) level s idle high = rw (high n (omega arith)) (quiet_next (after_levels n level s) (quiet n level s idle (λ t below. high t (omega arith))))

-- ---- one that hears, and will soon be Idle
-- Idle already, or after so many high ticks more: sixteen running end an Rx
abbrev pub Settles : ℕ → DaliBitbangPhy → Type 0
Settles left s = IsIdle s ⊎ ((hears s.core.bus.bus_state ≡ true) × (16 ≤ s.core.runs.high_run_ticks + left))

pub settles_next : (left : ℕ) (s : DaliBitbangPhy) → Settles left s → Settles (left - 1) (tick_of s true)
unfolding runs_counted pick
settles_next left s (inl idle) = inl (quiet_next s idle)
settles_next left s (inr (hearing, many)) =
    let k = tick_keeps s true hearing in
    let longer : (tick_of s true).core.runs.high_run_ticks ≡ min (s.core.runs.high_run_ticks + 1) 65535 = ap (λ (r : Runs). r.high_run_ticks) k.runs in
    inr (k.hearing, more s.core.runs.high_run_ticks (tick_of s true).core.runs.high_run_ticks left longer many)
  where
    more : (run next left : ℕ) → next ≡ min (run + 1) 65535 → 16 ≤ run + left → 16 ≤ next + (left - 1)
    more run next left e h = omega arith

pub settles_on : (n left : ℕ) (level : ℕ → Bool) (s : DaliBitbangPhy) → Settles left s → ((t : ℕ) → t < n → level t ≡ true) → Settles (left - n) (after_levels n level s)
unfolding after_levels
settles_on zero left level s h high = let e : left ≡ left - 0 = omega arith in subst (λ m. Settles m s) e h
settles_on (suc n) left level s h high =
    let e : left - n - 1 ≡ left - suc n = omega arith in
    rw (high n (omega arith))
    (subst (λ m. Settles m (tick_of (after_levels n level s) true)) e (settles_next (left - n) (after_levels n level s) (settles_on n left level s h (λ t below. high t (omega arith)))))

pub settles_later : (sooner later : ℕ) → sooner ≤ later → (s : DaliBitbangPhy) → Settles sooner s → Settles later s
settles_later sooner later h s (inl idle) = inl idle
settles_later sooner later h s (inr (hearing, many)) = inr (hearing, omega (arith, h, many))

pub settles_hears : (left : ℕ) (s : DaliBitbangPhy) → Settles left s → hears s.core.bus.bus_state ≡ true
unfolding hears
settles_hears left s (inl idle) = ap hears idle
settles_hears left s (inr (hearing, many)) = hearing

-- In Rx fewer than sixteen highs run.
pub settled_idle : (s : DaliBitbangPhy) → Reached s → Settles 0 s → IsIdle s
unfolding hears
settled_idle s r (inl idle) = idle
settled_idle s r (inr (hearing, many)) = go s.core.bus.bus_state refl hearing
  where
    go : (state : BusState) → s.core.bus.bus_state ≡ state → hears state ≡ true → state ≡ bus.Idle
    go bus.Idle e h = refl
    go bus.Rx e h = absurd (let none : ⊥ = omega (arith, (invariants s r).short e, many) in none)
    go bus.Tx e h = absurd (false≢true h)
    go bus.CollisionTx e h = absurd (false≢true h)
