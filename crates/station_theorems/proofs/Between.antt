-- What calls other than ticks leave as it is. Assumes nothing.
use Rattle.std.specs.Prelude.{Result, ⊤}
use mathlib.Core.Bool.{Bool, true, false, not, false≢true}
use mathlib.Core.List.{[]}
use mathlib.Core.Path.{◌≡◌, refl, sym, ◌∙◌}
use lib.Dec.{eqb}
use Rattle.laws.proofs.Picked.{on_false, cases}
use Rattle.halfbits.specs.declared.HalfBitBuffer.{HalfBitBuffer}
use Rattle.machine.specs.declared.BusState.{BusState}
use Rattle.machine.specs.declared.BusState.TheVariants as bus
use Rattle.fsm.specs.Station.{last_event}
use Rattle.fsm.specs.declared.DaliBitbangPhy.{DaliBitbangPhy}
use Rattle.fsm.specs.declared.Answered.{Answered}
use Rattle.fsm.specs.declared.StartError.{StartError}
use Rattle.std.specs.declared.result.Result.TheVariants as result
use Rattle.fsm.specs.declared.StartError.TheVariants.{Busy}
use Rattle.fsm.specs.declared.TxPollResult.{TxPollResult}
use Rattle.fsm.specs.Starting.{started_with, started, start_tx_of, start_answer_of}
use Rattle.machine.specs.States.{is_idle, hears, is_tx}
use Rattle.fsm.specs.Polling.{polled}
use Rattle.fsm.specs.Calls.{with_policy, took_idle, has_event, acknowledged, took_rx}
use Rattle.station_theorems.specs.Calls.{Call, tick, start_tx, start_answer, poll, take_idle, take_rx, acknowledge, policy, after, is_between}
use Rattle.station_theorems.specs.Ticks.{level_in}

-- all of a station but its marks and its policy; of its last event, what is told
pub record Same (s t : DaliBitbangPhy) : Type 0 where
  pub runs : t.core.runs ≡ s.core.runs
  pub bus : t.core.bus ≡ s.core.bus
  pub rx : t.core.rx ≡ s.core.rx
  pub tx : t.core.tx ≡ s.core.tx
  pub bytes : t.rx_data ≡ s.rx_data
  pub halfbits : t.tx_hb ≡ s.tx_hb
  pub last : last_event t ≡ last_event s

pub itself : (s : DaliBitbangPhy) → Same s s
itself s = record { runs = refl; bus = refl; rx = refl; tx = refl; bytes = refl; halfbits = refl; last = refl }

pub then : {s t u : DaliBitbangPhy} → Same s t → Same t u → Same s u
then k l = record {
  runs = l.runs ∙ k.runs;
  bus = l.bus ∙ k.bus;
  rx = l.rx ∙ k.rx;
  tx = l.tx ∙ k.tx;
  bytes = l.bytes ∙ k.bytes;
  halfbits = l.halfbits ∙ k.halfbits;
  last = l.last ∙ k.last;
}

-- ---- calls that tell, take or set the policy
polled_same : (s : DaliBitbangPhy) → Same s (polled s).station
unfolding polled
polled_same s =
    let P : Answered TxPollResult → Type 0 = λ (x : Answered TxPollResult). Same s x.station in
    cases P s.core.told.tx_yielded
    (λ _. record { runs = refl; bus = refl; rx = refl; tx = refl; bytes = refl; halfbits = refl; last = refl })
    (λ _. cases P (not (eqb s.core.told.tx_collision 0))
    (λ _. record { runs = refl; bus = refl; rx = refl; tx = refl; bytes = refl; halfbits = refl; last = refl })
    (λ _. cases P (is_tx s.core.bus.bus_state) (λ _. itself s) (λ _. itself s)))

acknowledged_same : (s : DaliBitbangPhy) → Same s (acknowledged s)
unfolding acknowledged
acknowledged_same s =
    cases (Same s) (has_event s)
    (λ _. record { runs = refl; bus = refl; rx = refl; tx = refl; bytes = refl; halfbits = refl; last = refl })
    (λ _. itself s)

pub between_same : (c : Call) (s : DaliBitbangPhy) → is_between c ≡ true → Same s (after c s)
unfolding is_between after took_idle took_rx with_policy
between_same (tick high) s h = absurd (false≢true h)
between_same (start_tx hb) s h = absurd (false≢true h)
between_same (start_answer hb) s h = absurd (false≢true h)
between_same poll s h = polled_same s
between_same take_idle s h = record { runs = refl; bus = refl; rx = refl; tx = refl; bytes = refl; halfbits = refl; last = refl }
between_same take_rx s h = acknowledged_same s
between_same acknowledge s h = acknowledged_same s
between_same (policy p) s h = record { runs = refl; bus = refl; rx = refl; tx = refl; bytes = refl; halfbits = refl; last = refl }

-- ---- starts that are refused
pub tx_refused : (s : DaliBitbangPhy) (hb : HalfBitBuffer) → is_idle s.core.bus.bus_state ≡ false → start_tx_of s hb ≡ started_with s (result.Err Busy)
unfolding start_tx_of
tx_refused s hb e = on_false e (started s hb false) (started_with s (result.Err Busy))

pub answer_refused : (s : DaliBitbangPhy) (hb : HalfBitBuffer) → hears s.core.bus.bus_state ≡ false → start_answer_of s hb ≡ started_with s (result.Err Busy)
unfolding start_answer_of
answer_refused s hb e = on_false e (started s hb true) (started_with s (result.Err Busy))

-- whatever holds of the station holds after it
pub refused_keeps : (P : DaliBitbangPhy → Type 0) (s : DaliBitbangPhy) (x : Answered (Result ⊤ StartError)) → x ≡ started_with s (result.Err Busy) → P s → P x.station
refused_keeps P s x e p = rw e p

deaf_idle : (b : BusState) → hears b ≡ false → is_idle b ≡ false
unfolding hears is_idle
deaf_idle bus.Idle h = absurd (false≢true (sym h))
deaf_idle bus.Rx h = refl
deaf_idle bus.Tx h = refl
deaf_idle bus.CollisionTx h = refl

-- ---- by cases on a call
-- It is a tick, a start, or a call that a host may make between any two ticks.
pub by_kind : (P : Call → Type 0) → ((high : Bool) → P (tick high)) → ((hb : HalfBitBuffer) → P (start_tx hb)) → ((hb : HalfBitBuffer) → P (start_answer hb))
    → ((c : Call) → is_between c ≡ true → level_in c ≡ [] → P c) → (c : Call) → P c
unfolding is_between level_in
by_kind P ticks frames answers others (tick high) = ticks high
by_kind P ticks frames answers others (start_tx hb) = frames hb
by_kind P ticks frames answers others (start_answer hb) = answers hb
by_kind P ticks frames answers others poll = others poll refl refl
by_kind P ticks frames answers others take_idle = others take_idle refl refl
by_kind P ticks frames answers others take_rx = others take_rx refl refl
by_kind P ticks frames answers others acknowledge = others acknowledge refl refl
by_kind P ticks frames answers others (policy p) = others (policy p) refl refl

-- Or it is a tick, or leaves a station that sends or breaks as it is: every start is then refused.
pub by_call : (P : Call → Type 0) → ((high : Bool) → P (tick high))
    → ((c : Call) → ((s : DaliBitbangPhy) → hears s.core.bus.bus_state ≡ false → Same s (after c s)) → level_in c ≡ [] → P c) → (c : Call) → P c
unfolding after level_in
by_call P ticks others =
    by_kind P ticks
    (λ hb. others (start_tx hb) (λ s h. refused_keeps (Same s) s (start_tx_of s hb) (tx_refused s hb (deaf_idle _ h)) (itself s)) refl)
    (λ hb. others (start_answer hb) (λ s h. refused_keeps (Same s) s (start_answer_of s hb) (answer_refused s hb h) (itself s)) refl)
    (λ c between. others c (λ s _. between_same c s between))
