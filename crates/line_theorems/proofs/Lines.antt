-- What every call keeps of a line, and what a tick does to one place of it. Assumes nothing.
use Rattle.std.specs.Prelude.{Result, ⊤}
use Prim.Native.Nat.{ℕ, zero, suc, ◌≤◌, ◌<◌}
use native.Mathlib.Omega.{arith}
use native.Mathlib.Decide.{ℕ_discrete}
use mathlib.Core.Bool.{Bool, true, false, false≢true, true≢false}
use mathlib.Core.List.{List, [], ◌∷◌}
use mathlib.Core.Path.{◌≡◌, refl, sym, ap, ◌∙◌}
use lib.Dec.{eqb}
use lib.ListN.{length, get_or, set, replicate, length-set}
use lib.Seq.{get_or-set_same, get_or-set_other}
use borrow.Author.Tests.{ltb-true, leb-true, eqb-false}
use Rattle.laws.specs.Pick.{pick}
use Rattle.laws.proofs.Picked.{cases}
use Rattle.halfbits.specs.declared.HalfBitBuffer.{HalfBitBuffer}
use Rattle.machine.specs.Starting.{loaded}
use Rattle.fsm.specs.declared.DaliBitbangPhy.{DaliBitbangPhy}
use Rattle.fsm.specs.declared.Answered.{Answered}
use Rattle.fsm.specs.declared.StartError.{StartError}
use Rattle.std.specs.declared.result.Result.TheVariants.{Err}
use Rattle.fsm.specs.declared.StartError.TheVariants.{Busy}
use Rattle.fsm.specs.Station.{new_core, new_station}
use Rattle.fsm.specs.Ticking.{tick_of}
use Rattle.fsm.specs.Starting.{length_fits, started_with, loaded_with, started, start_tx_of, start_answer_of}
use Rattle.machine.specs.States.{is_idle, hears}
use Rattle.station_theorems.specs.Calls as station
use Rattle.station_theorems.specs.Calls.{Call, after, Reached}
use Rattle.bench_line.specs.declared.BenchLine.{BenchLine}
use Rattle.bench_line.specs.declared.LineAnswered.{LineAnswered}
use Rattle.bench_line.specs.Line.{stations_on, is_on, station_at, with_station, new_line_of, all_ticked, level_left, line_ticked}
use Rattle.bench_line.specs.Refusals.{is_count}
use Rattle.bench_line.specs.Calls.{answered_at}
use Rattle.station_theorems.specs.Ticks.{drives}
use Rattle.station_theorems.proofs.Between.{between_same, by_kind}
use Rattle.line_theorems.specs.Reached.{LineCall, tick, start_tx, start_answer, poll, take_idle, take_rx, acknowledge, policy}
use Rattle.line_theorems.specs.Reached.{line_after, new_line, called}
use Rattle.line_theorems.specs.Lines.{LineHolds, LineInvariants}

-- ---- no call but a tick changes what a station drives
abbrev is_tick : Call → Bool
is_tick (station.tick high) = true
is_tick (station.start_tx hb) = false
is_tick (station.start_answer hb) = false
is_tick station.poll = false
is_tick station.take_idle = false
is_tick station.take_rx = false
is_tick station.acknowledge = false
is_tick (station.policy p) = false

module _ (s : DaliBitbangPhy) where
  start_drives : (allowed : Bool) (hb : HalfBitBuffer) (answer : Bool)
      → drives (pick {A = Answered (Result ⊤ StartError)} allowed (started s hb answer) (started_with s (Err Busy))).station ≡ drives s
  unfolding started loaded_with loaded
  start_drives allowed hb answer =
      let P : Answered (Result ⊤ StartError) → Type 0 = λ (x : Answered (Result ⊤ StartError)). drives x.station ≡ drives s in
      cases P allowed (λ _. cases P (length_fits hb.length) (λ _. refl) (λ _. refl)) (λ _. refl)

  drives_as_before : (c : Call) → is_tick c ≡ false → drives (after c s) ≡ drives s
  unfolding after start_tx_of start_answer_of
  drives_as_before =
      by_kind (λ c. is_tick c ≡ false → drives (after c s) ≡ drives s) (λ high e. absurd (true≢false e))
      (λ hb _. start_drives (is_idle s.core.bus.bus_state) hb false) (λ hb _. start_drives (hears s.core.bus.bus_state) hb true)
      (λ c between _ _. ap (λ b. b.driven_high) (between_same c s between).bus)

-- ---- places that a tick reaches, and places that it does not
ticked_length : (n : ℕ) (level : Bool) (ss : List DaliBitbangPhy) → length (all_ticked n level ss) ≡ length ss
unfolding all_ticked
ticked_length zero level ss = refl
ticked_length (suc n) level [] = refl
ticked_length (suc n) level (s ∷ ss) = ap suc (ticked_length n level ss)

pub ticked_within : (n i : ℕ) (level : Bool) (ss : List DaliBitbangPhy) (d : DaliBitbangPhy) → i < n → i < length ss
    → get_or (all_ticked n level ss) i d ≡ tick_of (get_or ss i d) level
unfolding all_ticked
ticked_within zero i level ss d p q = absurd (let none : ⊥ = omega arith in none)
ticked_within (suc n) i level [] d p q = absurd (let none : ⊥ = omega arith in none)
ticked_within (suc n) zero level (s ∷ ss) d p q = refl
ticked_within (suc n) (suc i) level (s ∷ ss) d p q = ticked_within n i level ss d (omega arith) (omega arith)

ticked_past : (n i : ℕ) (level : Bool) (ss : List DaliBitbangPhy) (d : DaliBitbangPhy) → n ≤ i → get_or (all_ticked n level ss) i d ≡ get_or ss i d
unfolding all_ticked
ticked_past zero i level ss d p = refl
ticked_past (suc n) i level [] d p = refl
ticked_past (suc n) zero level (s ∷ ss) d p = absurd (let none : ⊥ = omega arith in none)
ticked_past (suc n) (suc i) level (s ∷ ss) d p = ticked_past n i level ss d (omega arith)

-- ---- the level, with another station in a place
left_kept : (n i : ℕ) (ss : List DaliBitbangPhy) (s d : DaliBitbangPhy) → drives s ≡ drives (get_or ss i d) → level_left n (set ss i s) ≡ level_left n ss
unfolding level_left
left_kept zero i ss s d e = refl
left_kept (suc n) i [] s d e = refl
left_kept (suc n) zero (x ∷ ss) s d e = rw e
left_kept (suc n) (suc i) (x ∷ ss) s d e = rw (left_kept n i ss s d e)

-- ---- a new line
all_new : (places i : ℕ) → get_or (replicate places new_station) i new_station ≡ new_station
all_new zero i = refl
all_new (suc places) zero = refl
all_new (suc places) (suc i) = all_new places i

new_left : (n places : ℕ) → level_left n (replicate places new_station) ≡ true
unfolding level_left new_station new_core pick
new_left zero places = refl
new_left (suc n) zero = refl
new_left (suc n) (suc places) = new_left n places

one_to_four : (count : ℕ) → is_count count ≡ true → (1 ≤ count) × (count ≤ 4)
unfolding is_count
one_to_four count =
    cases (λ (t : Bool). t ≡ true → (1 ≤ count) × (count ≤ 4)) (eqb count 0) (λ _ e. absurd (false≢true e))
    (λ some e. let ne : count ≡ 0 → ⊥ = eqb-false count 0 some in (omega (arith, ne), leb-true count 4 e))

new_holds : (count : ℕ) → is_count count ≡ true → LineHolds (new_line_of count)
unfolding new_line_of
new_holds count e = record {
  from_one = (one_to_four count e).0;
  to_four = (one_to_four count e).1;
  places = refl;
  reached = λ number on. rw (all_new 4 number) station.new;
  new_past = λ number past. all_new 4 number;
  left = sym (new_left (stations_on (new_line_of count)) 4);
}

-- ---- a call of a line that holds
module _ (l : BenchLine) (h : LineHolds l) where
  tick_holds : LineHolds (line_ticked l)
  unfolding line_ticked after
  tick_holds = record {
    from_one = h.from_one;
    to_four = h.to_four;
    places = ticked_length (stations_on l) l.level l.stations ∙ h.places;
    reached = λ number on.
        rw (ticked_within (stations_on l) number l.level l.stations new_station on (omega (arith, h.places)))
        (station.called (station.tick l.level) (h.reached number on));
    new_past = λ number past. ticked_past (stations_on l) number l.level l.stations new_station past ∙ h.new_past number past;
    left = refl;
  }

  -- one of its stations is replaced by one that is reached and drives what it drove
  with_holds : (number : ℕ) → number < stations_on l → (s : DaliBitbangPhy) → Reached s → drives s ≡ drives (station_at l number) → LineHolds (with_station l number s)
  with_holds number on s r e = record {
    from_one = h.from_one;
    to_four = h.to_four;
    places = length-set l.stations number s ∙ h.places;
    reached = λ other within. go other within (ℕ_discrete other number);
    new_past = λ other past. get_or-set_other l.stations number other s new_station (λ same. let none : ⊥ = omega arith in none) ∙ h.new_past other past;
    left = h.left ∙ sym (left_kept (stations_on l) number l.stations s new_station e);
  }
    where
      go : (other : ℕ) → other < stations_on l → Dec (other ≡ number) → Reached (get_or (set l.stations number s) other new_station)
      go other within (yes same) = rw (same, get_or-set_same l.stations number s new_station (omega (arith, h.places))) r
      go other within (no apart) = rw (get_or-set_other l.stations number other s new_station apart) (h.reached other within)

  -- What is no tick is a call of one station, which replaces it; where it is none of the line's, the line stays as it was.
  at : {A : Type 0} (number : ℕ) (r : Answered A) (c : Call) → is_tick c ≡ false → r.station ≡ after c (station_at l number) → LineHolds (answered_at l number r).line
  unfolding answered_at
  at {A} number r c e as_called =
      cases (λ (x : LineAnswered A). LineHolds x.line) (is_on l number)
      (λ on.
      let within : number < stations_on l = ltb-true _ _ on in
      rw as_called (with_holds number within _ (station.called c (h.reached number within)) (drives_as_before (station_at l number) c e)))
      (λ _. h)

  call_holds : (c : LineCall) → LineHolds (line_after c l)
  unfolding line_after after
  call_holds tick = tick_holds
  call_holds (start_tx number hb) = at number _ (station.start_tx hb) refl refl
  call_holds (start_answer number hb) = at number _ (station.start_answer hb) refl refl
  call_holds (poll number) = at number _ station.poll refl refl
  call_holds (take_idle number) = at number _ station.take_idle refl refl
  call_holds (take_rx number) = at number _ station.take_rx refl refl
  call_holds (acknowledge number) = at number _ station.acknowledge refl refl
  call_holds (policy number p) = at number _ (station.policy p) refl refl

-- ---- from a new line on
pub line_invariants : LineInvariants
line_invariants _ (new_line count e) = new_holds count e
line_invariants _ (called {l = l} c r) = call_holds l (line_invariants l r) c
