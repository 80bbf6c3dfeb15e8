-- What each way through a tick in place leaves and answers, from what the functions that it calls answer (see Leaves). Assumes nothing.
use Prim.Native.Nat.{min}
use mathlib.Core.Bool.{Bool, true, false}
use mathlib.Core.Path.{◌≡◌, sym, ap, ◌∙◌}
use Rattle.capture.specs.declared.Samples.{Samples}
use Rattle.capture.specs.Samples.{with_byte}
use Rattle.machine.specs.Fields.{with_tx, with_runs, with_bus, with_rx}
use Rattle.machine.specs.Runs.{runs_counted}
use Rattle.machine.specs.Idle.{silent, idle_tick}
use Rattle.machine.specs.Sending.{tx_step, is_hold, tx_tick, held}
use Rattle.machine.specs.Collision.{collision_tick}
use Rattle.machine.specs.declared.BusState.{BusState}
use Rattle.machine.specs.declared.BusState.TheVariants as bus
use Rattle.machine.specs.declared.Core.{Core}
use Rattle.machine.specs.declared.Rx.{Rx}
use Rattle.fsm.specs.declared.DaliBitbangPhy.{DaliBitbangPhy}
use Rattle.fsm.specs.declared.Ticked.{Ticked}
use Rattle.fsm.specs.Station.{with_core, with_rx_data}
use Rattle.fsm.specs.Rx.{shifted, eighth, sampled, goes_on, finished, notified}
use Rattle.fsm.specs.Ticking.{ticked}
use Rattle.in_place.proofs.Leaves.{driving, hears, hearing, hears_runs, counts_bus, holds_tx, counts, falls, holds, sends, breaks, rx_heard, data_of, fills, keeps, ended_bytes, captured, goes_on_lem, ends}

-- the core `counted` has counted its runs, and the station `s` keeps them
module _ (s : DaliBitbangPhy) (high : Bool) (counted : Core) (is : counted ≡ runs_counted s.core high) where
  abbrev pub stored : Core
  stored = with_runs s.core counted.runs

  same : stored ≡ hears s high
  same = ap (λ (d : Core). with_runs s.core d.runs) is ∙ sym (hears_runs s high)

  abbrev In : BusState → Type 0
  In x = counted.bus.bus_state ≡ x

  state : (x : BusState) → In x → (hears s high).bus.bus_state ≡ x
  state x e = ap (λ (d : Core). d.bus.bus_state) (sym is) ∙ e

  -- a core that is stored whole
  abbrev Left : Core → Type 0
  Left d = driving (with_core s d) ≡ ticked s high

  left : {d e : Core} → d ≡ e → Left e → Left d
  left p so = ap (λ (w : Core). driving (with_core s w)) p ∙ so

  pub silence : high ≡ true → In bus.Idle → (next : Core) → next ≡ silent stored → Left (with_bus stored next.bus)
  silence up e next n =
      left
      (ap (λ (w : Core). with_bus w next.bus) same ∙ ap (λ (w : Core). with_bus (hears s high) w.bus) (n ∙ ap silent same) ∙ sym (counts_bus (hears s high)))
      (counts s high up (state bus.Idle e))

  pub falling : high ≡ false → In bus.Idle → (next : Core) → next ≡ idle_tick stored false → Left next
  falling down e next n = left (n ∙ ap (λ (w : Core). idle_tick w false) same) (falls s high down (state bus.Idle e))

  pub holding : In bus.Tx → (more : Bool) → more ≡ is_hold (tx_step stored.tx stored.collision_policy s.tx_hb high) → more ≡ true → (next : Core) → next ≡ held stored → Left (with_tx stored next.tx)
  holding e more m t next n =
      left
      (ap (λ (w : Core). with_tx w next.tx) same ∙ ap (λ (w : Core). with_tx (hears s high) w.tx) (n ∙ ap held same) ∙ sym (holds_tx (hears s high)))
      (holds s high (state bus.Tx e) (ap (λ (w : Core). is_hold (tx_step w.tx w.collision_policy s.tx_hb high)) (sym same) ∙ sym m ∙ t))

  -- the core that goes on with a half-bit is the one from before, but for its Tx
  pub only_tx : (next : Core) → next ≡ held stored → next ≡ with_tx stored next.tx
  only_tx next n = n ∙ holds_tx stored ∙ ap (λ (w : Core). with_tx stored w.tx) (sym n)

  pub sending : In bus.Tx → (next : Core) → next ≡ tx_tick stored s.tx_hb high → Left next
  sending e next n = left (n ∙ ap (λ (w : Core). tx_tick w s.tx_hb high) same) (sends s high (state bus.Tx e))

  pub breaking : In bus.CollisionTx → (next : Core) → next ≡ collision_tick stored high → Left next
  breaking e next n = left (n ∙ ap (λ (w : Core). collision_tick w high) same) (breaks s high (state bus.CollisionTx e))

  -- ---- Rx: the capture after a sample, whether or not that fills a byte; and what then lies there, `t`
  pub filling : (taken : Samples) → eighth stored.rx ≡ true → taken ≡ with_byte s.rx_data (min stored.rx.rx_pos 63) (shifted stored.rx high) → taken ≡ data_of s high
  filling taken e d =
      d ∙ ap (λ (w : Core). with_byte s.rx_data (min w.rx.rx_pos 63) (shifted w.rx high)) same ∙ fills s high (ap (λ (w : Core). eighth w.rx) (sym same) ∙ e)

  pub keeping : eighth stored.rx ≡ false → s.rx_data ≡ data_of s high
  keeping e = keeps s high (ap (λ (w : Core). eighth w.rx) (sym same) ∙ e)

  -- the station with the capture `taken`, and the sample `rx`
  abbrev pub receiving : Samples → DaliBitbangPhy
  receiving taken = with_core (with_rx_data s taken) stored

  module _ (e : In bus.Rx) (taken : Samples) (is_taken : taken ≡ data_of s high) (t : DaliBitbangPhy) (is_t : t ≡ receiving taken) (rx : Rx) (is_rx : rx ≡ sampled stored.rx high) where
    heard : rx ≡ rx_heard s high
    heard = is_rx ∙ ap (λ (w : Core). sampled w.rx high) same

    pub going_on : goes_on rx ≡ true → driving (with_core t (with_rx t.core rx)) ≡ ticked s high
    going_on g =
        ap (λ (u : DaliBitbangPhy). driving (with_core u (with_rx u.core rx))) is_t ∙
        ap (λ (w : Core). driving (with_core (with_rx_data s taken) (with_rx w rx))) same ∙
        ap (λ (x : Rx). driving (with_core (with_rx_data s taken) (with_rx (hears s high) x))) heard ∙
        goes_on_lem s high (state bus.Rx e) taken is_taken (ap goes_on (sym heard) ∙ g)

    -- the level is that from before
    pub level : goes_on rx ≡ true → s.core.bus.driven_high ≡ (ticked s high).driven_high
    level g = ap (λ (u : DaliBitbangPhy). u.core.bus.driven_high) (sym is_t) ∙ ap (λ (r : Ticked). r.driven_high) (going_on g)

    pub ending : goes_on rx ≡ false → (next : Core) → next ≡ finished stored rx → (samples : Samples) → samples ≡ with_byte t.rx_data rx.rx_pos 255 → (ended : DaliBitbangPhy) → ended ≡ notified t next samples → driving ended ≡ ticked s high
    ending g next n samples is_samples ended is_ended =
        let n' : next ≡ finished (hears s high) (rx_heard s high) = n ∙ ap (λ (w : Core). finished w rx) same ∙ ap (finished (hears s high)) heard in
        let b : samples ≡ ended_bytes s high taken = is_samples ∙ ap (λ (u : DaliBitbangPhy). with_byte u.rx_data rx.rx_pos 255) is_t ∙ ap (λ (x : Rx). with_byte taken x.rx_pos 255) heard in
        let t' : t ≡ with_rx_data (hearing s high) taken = is_t ∙ ap (λ (w : Core). with_core (with_rx_data s taken) w) same in
        let so : ended ≡ captured s high taken =
        is_ended ∙ ap (λ (u : DaliBitbangPhy). notified u next samples) t' ∙ ap (λ (w : Core). notified (with_rx_data (hearing s high) taken) w samples) n' ∙
        ap (λ (x : Samples). notified (with_rx_data (hearing s high) taken) (finished (hears s high) (rx_heard s high)) x) b in
        ap driving so ∙ ends s high (state bus.Rx e) taken is_taken (ap goes_on (sym heard) ∙ g)

    -- its core is that of the capture's end
    pub ended_core : (next : Core) (samples : Samples) (ended : DaliBitbangPhy) → ended ≡ notified t next samples → ended.core ≡ next
    unfolding notified
    ended_core next samples ended is_ended = ap (λ (u : DaliBitbangPhy). u.core) is_ended
