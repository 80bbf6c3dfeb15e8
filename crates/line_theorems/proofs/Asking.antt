-- Calls that start nothing, and what they leave as it was. Assumes nothing.
use Prim.Native.Nat.{ℕ, suc, ◌-◌, ◌<◌}
use native.Mathlib.Omega.{arith}
use native.Mathlib.Decide.{ℕ_discrete}
use mathlib.Core.Bool.{Bool, true, false≢true, not}
use mathlib.Core.List.{List, [], ◌∷◌}
use mathlib.Core.Logic.{inl, inr}
use mathlib.Core.Path.{◌≡◌, refl, sym, ◌∙◌, ap, subst}
use lib.Dec.{eqb}
use lib.Seq.{get_or-set_same, get_or-set_other}
use borrow.Author.Tests.{lt-ltb}
use Rattle.laws.proofs.Picked.{on_true, cases}
use Rattle.machine.specs.declared.Bus.{Bus}
use Rattle.machine.specs.declared.Runs.{Runs}
use Rattle.fsm.specs.declared.DaliBitbangPhy.{DaliBitbangPhy}
use Rattle.fsm.specs.declared.Answered.{Answered}
use Rattle.fsm.specs.declared.TxPollResult.{TxPollResult}
use Rattle.fsm.specs.Station.{last_event, new_station}
use Rattle.fsm.specs.Ticking.{tick_of}
use Rattle.machine.specs.States.{hears, is_tx}
use Rattle.fsm.specs.Polling.{polled}
use Rattle.fsm.specs.Calls.{with_policy, took_idle, has_event, acknowledged, took_rx}
use Rattle.bench_line.specs.declared.BenchLine.{BenchLine}
use Rattle.bench_line.specs.declared.LineAnswered.{LineAnswered}
use Rattle.bench_line.specs.Line.{stations_on, is_on, station_at, with_station, line_ticked}
use Rattle.bench_line.specs.Calls.{answered_at}
use Rattle.station_theorems.specs.Calls as station
use Rattle.station_theorems.specs.Calls.{Call, after, is_between}
use Rattle.line_theorems.specs.Reached.{LineCall, tick, start_tx, start_answer, poll, take_idle, take_rx, acknowledge, policy}
use Rattle.line_theorems.specs.Reached.{line_after, ReachedLine, called, line_after_all, Each, starts_nothing, StartNothing, is_tick, ticks_in}
use Rattle.line_theorems.specs.OnLine.{AllIdle}
use Rattle.line_theorems.proofs.Lines.{line_invariants}
use Rattle.line_theorems.proofs.Hearing.{tick_at, left_if_all_high, listener_drives, Settles, settles_next, settles_later, settles_hears, settled_idle}

-- two calls that are not one call
pub distinct : ◌≡◌ {A = ℕ} 0 1 → ⊥
distinct e = omega (arith, e)

-- ---- a station that is asked, or whose policy is set
-- Its line and its runs stay as they are, and so does all that it tells but what the call tells.
pub record Kept (k : Call) (s s' : DaliBitbangPhy) : Type 0 where
  pub bus : s'.core.bus ≡ s.core.bus
  pub runs : s'.core.runs ≡ s.core.runs
  pub last : last_event s' ≡ last_event s
  pub collisions : (k ≡ station.poll → ⊥) → s'.core.told.tx_collision ≡ s.core.told.tx_collision
  pub yields : (k ≡ station.poll → ⊥) → s'.core.told.tx_yielded ≡ s.core.told.tx_yielded
  pub marked : (k ≡ station.take_idle → ⊥) → s'.core.told.tx_idle_after_break ≡ s.core.told.tx_idle_after_break
  pub event : (k ≡ station.take_rx → ⊥) → (k ≡ station.acknowledge → ⊥) → s'.core.told.rx_state ≡ s.core.told.rx_state

module _ (s : DaliBitbangPhy) where
  as_it_was : (k : Call) → Kept k s s
  as_it_was k = record { bus = refl; runs = refl; last = refl; collisions = λ _. refl; yields = λ _. refl; marked = λ _. refl; event = λ _ _. refl }

  poll_keeps : Kept station.poll s (polled s).station
  unfolding polled
  poll_keeps =
      let P : Answered TxPollResult → Type 0 = λ (x : Answered TxPollResult). Kept station.poll s x.station in
      cases P s.core.told.tx_yielded
      (λ _. record { bus = refl; runs = refl; last = refl; collisions = λ other. absurd (other refl); yields = λ other. absurd (other refl); marked = λ _. refl; event = λ _ _. refl })
      (λ _. cases P (not (eqb s.core.told.tx_collision 0))
      (λ _. record { bus = refl; runs = refl; last = refl; collisions = λ other. absurd (other refl); yields = λ other. absurd (other refl); marked = λ _. refl; event = λ _ _. refl })
      (λ _. cases P (is_tx s.core.bus.bus_state) (λ _. as_it_was station.poll) (λ _. as_it_was station.poll)))

  -- by the call of that name, or by a take
  acknowledge_keeps : (k : Call) → ((k ≡ station.take_rx → ⊥) → (k ≡ station.acknowledge → ⊥) → ⊥) → Kept k s (acknowledged s)
  unfolding acknowledged
  acknowledge_keeps k is =
      cases (Kept k s) (has_event s)
      (λ _. record {
        bus = refl;
        runs = refl;
        last = refl;
        collisions = λ _. refl;
        yields = λ _. refl;
        marked = λ _. refl;
        event = λ not_taken not_acknowledged. absurd (is not_taken not_acknowledged);
      })
      (λ _. as_it_was k)

  pub kept : (k : Call) → is_between k ≡ true → Kept k s (after k s)
  unfolding after is_between took_idle took_rx with_policy
  kept (station.tick high) e = absurd (false≢true e)
  kept (station.start_tx hb) e = absurd (false≢true e)
  kept (station.start_answer hb) e = absurd (false≢true e)
  kept station.poll e = poll_keeps
  kept station.take_idle e = record {
    bus = refl;
    runs = refl;
    last = refl;
    collisions = λ _. refl;
    yields = λ _. refl;
    marked = λ other. absurd (other refl);
    event = λ _ _. refl;
  }
  kept station.take_rx e = acknowledge_keeps station.take_rx (λ other _. other refl)
  kept station.acknowledge e = acknowledge_keeps station.acknowledge (λ _ other. other refl)
  kept (station.policy p) e = record { bus = refl; runs = refl; last = refl; collisions = λ _. refl; yields = λ _. refl; marked = λ _. refl; event = λ _ _. refl }

-- ---- a station of a line of which some station is called
-- the call of a station with a number
abbrev pub line_call : ℕ → Call → LineCall
line_call n (station.tick high) = tick
line_call n (station.start_tx hb) = start_tx n hb
line_call n (station.start_answer hb) = start_answer n hb
line_call n station.poll = poll n
line_call n station.take_idle = take_idle n
line_call n station.take_rx = take_rx n
line_call n station.acknowledge = acknowledge n
line_call n (station.policy p) = policy n p

answered_count : {A : Type 0} (l : BenchLine) (number : ℕ) (r : Answered A) → (answered_at l number r).line.count ≡ l.count
unfolding answered_at
answered_count {A} l number r = cases (λ (x : LineAnswered A). x.line.count ≡ l.count) (is_on l number) (λ _. refl) (λ _. refl)

pub count_kept : (l : BenchLine) (c : LineCall) → (line_after c l).count ≡ l.count
unfolding line_after line_ticked
count_kept l tick = refl
count_kept l (start_tx number hb) = answered_count l number _
count_kept l (start_answer number hb) = answered_count l number _
count_kept l (poll number) = answered_count l number _
count_kept l (take_idle number) = answered_count l number _
count_kept l (take_rx number) = answered_count l number _
count_kept l (acknowledge number) = answered_count l number _
count_kept l (policy number p) = answered_count l number _

module _ (l : BenchLine) (reached : ReachedLine l) (n : ℕ) (on : n < stations_on l) (P : DaliBitbangPhy → Type 0) (before : P (station_at l n)) where
  at : {A : Type 0} (number : ℕ) (r : Answered A) → (number ≡ n → P r.station) → P (station_at (answered_at l number r).line n)
  unfolding answered_at
  at {A} number r own =
      cases (λ (x : LineAnswered A). P (station_at x.line n)) (is_on l number) (λ _. go (ℕ_discrete number n)) (λ _. before)
    where
      go : Dec (number ≡ n) → P (station_at (with_station l number r.station) n)
      go (yes e) = rw (e, get_or-set_same l.stations n r.station new_station (omega (arith, (line_invariants l reached).places, on))) (own e)
      go (no apart) = rw (get_or-set_other l.stations number n r.station new_station (λ e. apart (sym e))) before

  -- What is so of a station stays so, if it does where the line ticks, and where the station itself is called.
  pub stays : (c : LineCall) → starts_nothing c ≡ true → (c ≡ tick → P (tick_of (station_at l n) l.level))
      → ((k : Call) → is_between k ≡ true → c ≡ line_call n k → P (after k (station_at l n))) → P (station_at (line_after c l) n)
  unfolding line_after starts_nothing is_between after
  stays tick e ticks own = rw (tick_at l (line_invariants l reached).places n on) (ticks refl)
  stays (start_tx number hb) e ticks own = absurd (false≢true e)
  stays (start_answer number hb) e ticks own = absurd (false≢true e)
  stays (poll number) e ticks own = at number _ (λ same. rw same (own station.poll refl (ap poll same)))
  stays (take_idle number) e ticks own = at number _ (λ same. rw same (own station.take_idle refl (ap take_idle same)))
  stays (take_rx number) e ticks own = at number _ (λ same. rw same (own station.take_rx refl (ap take_rx same)))
  stays (acknowledge number) e ticks own = at number _ (λ same. rw same (own station.acknowledge refl (ap acknowledge same)))
  stays (policy number p) e ticks own = at number _ (λ same. rw same (own (station.policy p) refl (ap (λ m. policy m p) same)))

-- the station that is called
module _ (l : BenchLine) (reached : ReachedLine l) (n : ℕ) (on : n < stations_on l) where
  put : (s : DaliBitbangPhy) → station_at (with_station l n s) n ≡ s
  put s = get_or-set_same l.stations n s new_station (omega (arith, (line_invariants l reached).places, on))

  pub polled_here : station_at (line_after (poll n) l) n ≡ (polled (station_at l n)).station
  unfolding line_after answered_at
  polled_here = ap (λ (r : LineAnswered TxPollResult). station_at r.line n) (on_true (lt-ltb n (stations_on l) on) _ _) ∙ put _

  pub taken_here : station_at (line_after (take_idle n) l) n ≡ (took_idle (station_at l n)).station
  unfolding line_after answered_at
  taken_here = ap (λ (r : LineAnswered Bool). station_at r.line n) (on_true (lt-ltb n (stations_on l) on) _ _) ∙ put _

-- ---- many calls
pub all_keep : (Q : BenchLine → Type 0) (Allowed : LineCall → Type 0) → ((l : BenchLine) (c : LineCall) → starts_nothing c ≡ true → Allowed c → Q l → Q (line_after c l))
    → (calls : List LineCall) → StartNothing calls → Each Allowed calls → (l : BenchLine) → Q l → Q (line_after_all calls l)
unfolding line_after_all Each
all_keep Q Allowed next [] nothing each l q = q
all_keep Q Allowed next (c ∷ cs) (none, nothing) (allowed, each) l q = all_keep Q Allowed next cs nothing each (line_after c l) (next l c none allowed q)

-- Each may be made that is not this one, nor that.
pub each_both : (P Q : LineCall → Type 0) (calls : List LineCall) → Each P calls → Each Q calls → Each (λ c. P c × Q c) calls
unfolding Each
each_both P Q [] p q = p
each_both P Q (c ∷ cs) (p, ps) (q, qs) = ((p, q), each_both P Q cs ps qs)

abbrev pub Any : LineCall → Type 0
Any c = Unit {0}

pub each_any : (calls : List LineCall) → Each Any calls
unfolding Each
each_any [] = tt
each_any (c ∷ cs) = (tt, each_any cs)

-- a station of a reached line
pub record On (n : ℕ) (P : DaliBitbangPhy → Type 0) (l : BenchLine) : Type 0 where
  pub reached : ReachedLine l
  pub on : n < stations_on l
  pub is : P (station_at l n)

pub still_on : (l : BenchLine) (c : LineCall) (n : ℕ) → n < stations_on l → n < stations_on (line_after c l)
still_on l c n on = omega (arith, on, count_kept l c)

-- What a tick with any level leaves so, and each call of the station that is allowed.
pub on_keeps : (n : ℕ) (P : DaliBitbangPhy → Type 0) (Allowed : LineCall → Type 0) → ((s : DaliBitbangPhy) (level : Bool) → P s → P (tick_of s level))
    → ((s : DaliBitbangPhy) (k : Call) → is_between k ≡ true → Allowed (line_call n k) → P s → P (after k s))
    → (calls : List LineCall) → StartNothing calls → Each Allowed calls → (l : BenchLine) → On n P l → On n P (line_after_all calls l)
on_keeps n P Allowed ticks asks =
    all_keep (On n P) Allowed
    (λ l c none allowed o. record {
      reached = called c o.reached;
      on = still_on l c n o.on;
      is = stays l o.reached n o.on P o.is c none (λ _. ticks (station_at l n) l.level o.is)
          (λ k between e. asks (station_at l n) k between (subst Allowed e allowed) o.is);
    })

-- ---- a line on which all hear, and will soon be Idle
pub record Settling (left : ℕ) (l : BenchLine) : Type 0 where
  pub reached : ReachedLine l
  pub settles : (n : ℕ) → n < stations_on l → Settles left (station_at l n)

module _ (left : ℕ) (l : BenchLine) (h : Settling left l) where
  -- nobody pulls
  pub stays_high : l.level ≡ true
  stays_high =
      left_if_all_high l (line_invariants l h.reached)
      (λ n on. listener_drives (station_at l n) ((line_invariants l h.reached).reached n on) (settles_hears left (station_at l n) (h.settles n on)))

  tick_settles : Settling (left - 1) (line_after tick l)
  unfolding line_after
  tick_settles = record {
    reached = called tick h.reached;
    settles = λ n on.
        let here : n < stations_on l = omega (arith, on, count_kept l tick) in
        rw (tick_at l (line_invariants l h.reached).places n here, stays_high) (settles_next left (station_at l n) (h.settles n here));
  }

  asked_settles : (s : DaliBitbangPhy) (k : Call) → is_between k ≡ true → Settles left s → Settles left (after k s)
  asked_settles s k between (inl idle) = inl (ap (λ (b : Bus). b.bus_state) (kept s k between).bus ∙ idle)
  asked_settles s k between (inr (hearing, many)) =
      let same = ap (λ (r : Runs). r.high_run_ticks) (kept s k between).runs in
      inr (ap (λ (b : Bus). hears b.bus_state) (kept s k between).bus ∙ hearing, omega (arith, many, same))

  any_settles : (c : LineCall) → starts_nothing c ≡ true → Settling left (line_after c l)
  any_settles c none = record {
    reached = called c h.reached;
    settles = λ n on.
        let here : n < stations_on l = omega (arith, on, count_kept l c) in
        stays l h.reached n here (λ s. Settles left s) (h.settles n here) c none
        (λ _. settles_later (left - 1) left (omega arith) (tick_of (station_at l n) l.level) (rw stays_high (settles_next left (station_at l n) (h.settles n here))))
        (λ k between e. asked_settles (station_at l n) k between (h.settles n here));
  }

tick_is : (c : LineCall) → is_tick c ≡ true → c ≡ tick
unfolding is_tick
tick_is tick e = refl
tick_is (start_tx number hb) e = absurd (false≢true e)
tick_is (start_answer number hb) e = absurd (false≢true e)
tick_is (poll number) e = absurd (false≢true e)
tick_is (take_idle number) e = absurd (false≢true e)
tick_is (take_rx number) e = absurd (false≢true e)
tick_is (acknowledge number) e = absurd (false≢true e)
tick_is (policy number p) e = absurd (false≢true e)

pub all_settle : (calls : List LineCall) → StartNothing calls → (left : ℕ) (l : BenchLine) → Settling left l → Settling (left - ticks_in calls) (line_after_all calls l)
unfolding line_after_all Each ticks_in
all_settle [] nothing left l h = let e : left ≡ left - 0 = omega arith in rw e at h
all_settle (c ∷ cs) (none, nothing) left l h =
    cases (λ n. Settling (left - n) (line_after_all cs (line_after c l))) (is_tick c)
    (λ is.
    let e : left - 1 - ticks_in cs ≡ left - suc (ticks_in cs) = omega arith in
    rw (tick_is c is) (subst (λ n. Settling n (line_after_all cs (line_after tick l))) e (all_settle cs nothing (left - 1) (line_after tick l) (tick_settles left l h))))
    (λ _. all_settle cs nothing left (line_after c l) (any_settles left l h c none))

pub settled_line : (l : BenchLine) → Settling 0 l → AllIdle l
settled_line l h n on = settled_idle (station_at l n) ((line_invariants l h.reached).reached n on) (h.settles n on)

pub settling : (l : BenchLine) → ReachedLine l → AllIdle l → Settling 0 l
settling l reached idle = record { reached = reached; settles = λ n on. inl (idle n on) }

pub idle_next : (l : BenchLine) → ReachedLine l → AllIdle l → (c : LineCall) → starts_nothing c ≡ true → AllIdle (line_after c l)
idle_next l reached idle c none = settled_line _ (any_settles 0 l (settling l reached idle) c none)
