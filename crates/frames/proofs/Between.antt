-- What the calls of a host leave as it is, those of a list too: of a station all but its marks and its policy, and of its marks some.
-- Assumes nothing.
use Prim.Native.Nat.{ℕ, zero, suc}
use mathlib.Core.Bool.{Bool, true, false, false≢true, not}
use mathlib.Core.List.{List, [], ◌∷◌}
use mathlib.Core.Path.{◌≡◌, refl, ◌∙◌, ap}
use lib.Dec.{eqb}
use Rattle.laws.specs.Pick.{pick}
use Rattle.laws.proofs.Picked.{cases}
use Rattle.machine.specs.declared.BusState.TheVariants as bus
use Rattle.machine.specs.declared.RxState.{RxState}
use Rattle.fsm.specs.declared.DaliBitbangPhy.{DaliBitbangPhy}
use Rattle.fsm.specs.declared.Answered.{Answered}
use Rattle.fsm.specs.declared.TxPollResult.{TxPollResult}
use Rattle.fsm.specs.Ticking.{tick_of}
use Rattle.fsm.specs.Starting.{start_tx_of, start_answer_of}
use Rattle.machine.specs.States.{is_idle, hears, is_tx}
use Rattle.fsm.specs.Polling.{polled}
use Rattle.fsm.specs.Calls.{with_policy, took_idle, has_event, acknowledged, took_rx}
use Rattle.station_theorems.specs.Calls.{Call, tick, start_tx, start_answer, poll, take_idle, take_rx, acknowledge, policy, after, after_all, is_between}
use Rattle.station_theorems.specs.Ticks.{IsSending, drives, after_levels, alone}
use Rattle.station_theorems.proofs.Between.{Same, itself, then, between_same, tx_refused, answer_refused, refused_keeps, by_kind}
use Rattle.frames.specs.Hosts.{after_levels_amid, alone_amid, Each, keeps_tx, keeps_rx, keeps_capture}
use Rattle.frames.specs.Amid.{no_calls, NoCalls}

-- no clash and no yield is to be told
abbrev pub Clear : DaliBitbangPhy → Type 0
Clear s = (s.core.told.tx_collision ≡ 0) × (s.core.told.tx_yielded ≡ false)

abbrev pub mark_of : DaliBitbangPhy → RxState
mark_of s = s.core.told.rx_state

-- ---- one call
module _ (s : DaliBitbangPhy) where
  -- nothing to tell
  polled_clear : Clear s → Clear (polled s).station
  unfolding polled pick
  polled_clear clear =
      rw (clear.1, clear.0) (cases (λ (x : Answered TxPollResult). Clear x.station) (is_tx s.core.bus.bus_state) (λ _. (refl, refl)) (λ _. (refl, refl)))

  acknowledged_clear : Clear s → Clear (acknowledged s)
  unfolding acknowledged
  acknowledged_clear clear = cases Clear (has_event s) (λ _. clear) (λ _. clear)

  still_clear : (c : Call) → is_between c ≡ true → Clear s → Clear (after c s)
  unfolding after is_between took_idle took_rx with_policy
  still_clear (tick high) b clear = absurd (false≢true b)
  still_clear (start_tx hb) b clear = absurd (false≢true b)
  still_clear (start_answer hb) b clear = absurd (false≢true b)
  still_clear poll b clear = polled_clear clear
  still_clear take_idle b clear = clear
  still_clear take_rx b clear = acknowledged_clear clear
  still_clear acknowledge b clear = acknowledged_clear clear
  still_clear (policy p) b clear = clear

  -- the mark of a capture
  polled_mark : mark_of (polled s).station ≡ mark_of s
  unfolding polled
  polled_mark =
      let P : Answered TxPollResult → Type 0 = λ (x : Answered TxPollResult). mark_of x.station ≡ mark_of s in
      cases P s.core.told.tx_yielded (λ _. refl)
      (λ _. cases P (not (eqb s.core.told.tx_collision 0)) (λ _. refl) (λ _. cases P (is_tx s.core.bus.bus_state) (λ _. refl) (λ _. refl)))

  same_mark : (c : Call) → keeps_capture c ≡ true → mark_of (after c s) ≡ mark_of s
  unfolding after keeps_capture took_idle with_policy
  same_mark (tick high) b = absurd (false≢true b)
  same_mark (start_tx hb) b = absurd (false≢true b)
  same_mark (start_answer hb) b = absurd (false≢true b)
  same_mark poll b = polled_mark
  same_mark take_idle b = refl
  same_mark take_rx b = absurd (false≢true b)
  same_mark acknowledge b = absurd (false≢true b)
  same_mark (policy p) b = refl

  -- In Rx start_tx is refused.
  still_in_rx : s.core.bus.bus_state ≡ bus.Rx → (c : Call) → keeps_rx c ≡ true → Same s (after c s)
  unfolding after keeps_rx is_idle
  still_in_rx in_rx =
      by_kind (λ c. keeps_rx c ≡ true → Same s (after c s)) (λ high b. absurd (false≢true b))
      (λ hb _. refused_keeps (Same s) s (start_tx_of s hb) (tx_refused s hb (ap is_idle in_rx)) (itself s)) (λ hb b. absurd (false≢true b))
      (λ c between _ _. between_same c s between)

  -- In Tx both starts are refused.
  module _ (sending : IsSending s) (clear : Clear s) where
    abbrev StillIn : DaliBitbangPhy → Type 0
    StillIn t = Same s t × Clear t

    still_in_tx : (c : Call) → keeps_tx c ≡ true → StillIn (after c s)
    unfolding after keeps_tx is_idle hears
    still_in_tx =
        by_kind (λ c. keeps_tx c ≡ true → StillIn (after c s)) (λ high b. absurd (false≢true b))
        (λ hb _. refused_keeps StillIn s (start_tx_of s hb) (tx_refused s hb (ap is_idle sending)) (itself s, clear))
        (λ hb _. refused_keeps StillIn s (start_answer_of s hb) (answer_refused s hb (ap hears sending)) (itself s, clear))
        (λ c between _ _. (between_same c s between, still_clear c between clear))

-- ---- any list of them
between : (c : Call) → keeps_capture c ≡ true → is_between c ≡ true
unfolding keeps_capture is_between
between (tick high) b = b
between (start_tx hb) b = b
between (start_answer hb) b = b
between poll b = refl
between take_idle b = refl
between take_rx b = refl
between acknowledge b = refl
between (policy p) b = refl

pub all_kept : (cs : List Call) (s : DaliBitbangPhy) → Each is_between cs → Same s (after_all cs s)
unfolding after_all Each
all_kept [] s each = itself s
all_kept (c ∷ cs) s each = then (between_same c s each.0) (all_kept cs (after c s) each.1)

pub all_clear : (cs : List Call) (s : DaliBitbangPhy) → Each is_between cs → Clear s → Clear (after_all cs s)
unfolding after_all Each
all_clear [] s each clear = clear
all_clear (c ∷ cs) s each clear = all_clear cs (after c s) each.1 (still_clear s c each.0 clear)

pub all_in_rx : (cs : List Call) (s : DaliBitbangPhy) → s.core.bus.bus_state ≡ bus.Rx → Each keeps_rx cs → Same s (after_all cs s)
unfolding after_all Each
all_in_rx [] s in_rx each = itself s
all_in_rx (c ∷ cs) s in_rx each =
    let one = still_in_rx s in_rx c each.0 in
    then one (all_in_rx cs (after c s) (ap (λ b. b.bus_state) one.bus ∙ in_rx) each.1)

pub all_between : (cs : List Call) → Each keeps_capture cs → Each is_between cs
unfolding Each
all_between [] each = tt
all_between (c ∷ cs) each = (between c each.0, all_between cs each.1)

pub all_marks : (cs : List Call) (s : DaliBitbangPhy) → Each keeps_capture cs → mark_of (after_all cs s) ≡ mark_of s
unfolding after_all Each
all_marks [] s each = refl
all_marks (c ∷ cs) s each = all_marks cs (after c s) each.1 ∙ same_mark s c each.0

pub all_in_tx : (cs : List Call) (s : DaliBitbangPhy) → Each keeps_tx cs → IsSending s → Clear s → Same s (after_all cs s) × Clear (after_all cs s)
unfolding after_all Each
all_in_tx [] s each sending clear = (itself s, clear)
all_in_tx (c ∷ cs) s each sending clear =
    let (one, clear') = still_in_tx s sending clear c each.0 in
    let (others, last) = all_in_tx cs (after c s) each.1 (ap (λ b. b.bus_state) one.bus ∙ sending) clear' in
    (then one others, last)

-- ---- no call at all
alone_same : (n : ℕ) (s : DaliBitbangPhy) → alone_amid no_calls n s ≡ alone n s
unfolding alone_amid alone after_all
alone_same zero s = refl
alone_same (suc n) s = ap (λ before. tick_of before (drives before)) (alone_same n s)

heard_same : (n : ℕ) (level : ℕ → Bool) (s : DaliBitbangPhy) → after_levels_amid no_calls n level s ≡ after_levels n level s
unfolding after_levels_amid after_levels after_all
heard_same zero level s = refl
heard_same (suc n) level s = ap (λ before. tick_of before (level n)) (heard_same n level s)

pub no_calls_lem : NoCalls
no_calls_lem ticks s = (alone_same ticks s, λ level. heard_same ticks level s)
