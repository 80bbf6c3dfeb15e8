-- Each return is one way of Ways. It leaves `driving` of some station, and so both the station and the level.
use Rattle.std.proofs.Common.{true, false}
use Rattle.std.proofs.lemmas.Bool.{eq-eqb, ne_eqb, lt-ltb, le-ltb}
use mathlib.Core.Path.{◌≡◌, ap, sym, ◌∙◌}
use Rattle.capture.specs.declared.Samples.{Samples}
use Rattle.fsm.specs.Station.{with_core}
use Rattle.fsm.specs.Rx.{goes_on}
use Rattle.fsm.specs.Ticking.{ticked}
use Rattle.machine.specs.Fields.{with_bus, with_tx, with_rx}
use Rattle.in_place.proofs.Leaves.{driving, data_of}
use Rattle.in_place.proofs.Ways.{stored, silence, falling, holding, only_tx, sending, breaking, filling, keeping, receiving, going_on, level, ending, ended_core}
use Rattle.in_place.proofs.tick.Goals as goal
use Rattle.in_place.proofs.tick.Goals.{then-core-eq7, else-core-eq7}

pub returns-then-bus_is_high : goal.returns-then-bus_is_high
returns-then-bus_is_high c =
    let s = c.args.station.now in
    let h = c.args.bus_is_high in
    let is = c.count_runs-counted.ensures in
    let next = c.count_idle-next.result in
    let p : driving (with_core s (with_bus (stored s h _ is) next.bus)) ≡ ticked s h =
    silence s h _ is c.if-bus_is_high.true c.in-Idle.is next c.count_idle-next.ensures in
    record { station_after = ap (λ r. r.station) p; value = ap (λ r. r.driven_high) p }

pub returns-else-bus_is_high : goal.returns-else-bus_is_high
returns-else-bus_is_high c =
    let s = c.args.station.now in
    let h = c.args.bus_is_high in
    let next = c.tick_idle-next.result in
    let p : driving (with_core s next) ≡ ticked s h =
    falling s h _ c.count_runs-counted.ensures c.if-bus_is_high.false c.in-Idle.is next c.tick_idle-next.ensures in
    record { station_after = ap (λ r. r.station) p; value = ap (λ r. r.driven_high) p }

pub returns-then-rx-lt-RX_IDLE_LINE_HIGH_TICKS : goal.returns-then-rx-lt-RX_IDLE_LINE_HIGH_TICKS
returns-then-rx-lt-RX_IDLE_LINE_HIGH_TICKS c =
    let s = c.args.station.now in
    let h = c.args.bus_is_high in
    let is = c.count_runs-counted.ensures in
    let t = c.if-core-eq7.station in
    let rx = c.sample-rx.result in
    let few : goes_on rx ≡ true = lt-ltb _ _ c.if-rx-lt-RX_IDLE_LINE_HIGH_TICKS.true in
    let f : (d : Samples) × ((d ≡ data_of s h) × (t ≡ receiving s h _ is d)) =
    elim c.if-core-eq7.branch [
      | then-core-eq7 w ↦ (w.fill-station.result, (filling s h _ is _ (eq-eqb _ _ w.if-core-eq7.true) w.fill-station.ensures, w.station-is))
      | else-core-eq7 w ↦ (s.rx_data, (keeping s h _ is (ne_eqb _ _ w.if-core-eq7.false), w.station-is))
    ] in
    let p : driving (with_core t (with_rx t.core rx)) ≡ ticked s h =
    going_on s h _ is c.in-Rx.is f.0 f.1.0 t f.1.1 rx c.sample-rx.ensures few in
    record {
      station_after = ap (λ r. r.station) p;
      value = level s h _ is c.in-Rx.is f.0 f.1.0 t f.1.1 rx c.sample-rx.ensures few;
    }

pub returns-else-rx-lt-RX_IDLE_LINE_HIGH_TICKS : goal.returns-else-rx-lt-RX_IDLE_LINE_HIGH_TICKS
returns-else-rx-lt-RX_IDLE_LINE_HIGH_TICKS c =
    let s = c.args.station.now in
    let h = c.args.bus_is_high in
    let is = c.count_runs-counted.ensures in
    let t = c.if-core-eq7.station in
    let rx = c.sample-rx.result in
    let many : goes_on rx ≡ false = le-ltb _ _ c.if-rx-lt-RX_IDLE_LINE_HIGH_TICKS.false in
    let f : (d : Samples) × ((d ≡ data_of s h) × (t ≡ receiving s h _ is d)) =
    elim c.if-core-eq7.branch [
      | then-core-eq7 w ↦ (w.fill-station.result, (filling s h _ is _ (eq-eqb _ _ w.if-core-eq7.true) w.fill-station.ensures, w.station-is))
      | else-core-eq7 w ↦ (s.rx_data, (keeping s h _ is (ne_eqb _ _ w.if-core-eq7.false), w.station-is))
    ] in
    let next = c.end_rx-next.result in
    let samples = c.with_end-samples.result in
    let ended = c.finish_rx_and_notify.result in
    let p : driving ended ≡ ticked s h =
    ending s h _ is c.in-Rx.is f.0 f.1.0 t f.1.1 rx c.sample-rx.ensures many next c.end_rx-next.ensures samples c.with_end-samples.ensures ended
    c.finish_rx_and_notify.ensures in
    let core : ended.core ≡ next = ended_core s h _ is c.in-Rx.is f.0 f.1.0 t f.1.1 rx c.sample-rx.ensures next samples ended c.finish_rx_and_notify.ensures in
    record { station_after = ap (λ r. r.station) p; value = ap (λ d. d.bus.driven_high) (sym core) ∙ ap (λ r. r.driven_high) p }

pub returns-then-holds : goal.returns-then-holds
returns-then-holds c =
    let s = c.args.station.now in
    let h = c.args.bus_is_high in
    let is = c.count_runs-counted.ensures in
    let next = c.hold_half_bit-next.result in
    let p : driving (with_core s (with_tx (stored s h _ is) next.tx)) ≡ ticked s h =
    holding s h _ is c.in-Tx.is c.holds.result c.holds.ensures c.if-holds.true next c.hold_half_bit-next.ensures in
    record {
      station_after = ap (λ r. r.station) p;
      value = ap (λ d. d.bus.driven_high) (only_tx s h _ is next c.hold_half_bit-next.ensures) ∙ ap (λ r. r.driven_high) p;
    }

pub returns-else-holds : goal.returns-else-holds
returns-else-holds c =
    let s = c.args.station.now in
    let h = c.args.bus_is_high in
    let next = c.tick_tx-next.result in
    let p : driving (with_core s next) ≡ ticked s h = sending s h _ c.count_runs-counted.ensures c.in-Tx.is next c.tick_tx-next.ensures in
    record { station_after = ap (λ r. r.station) p; value = ap (λ r. r.driven_high) p }

pub returns-in-CollisionTx : goal.returns-in-CollisionTx
returns-in-CollisionTx c =
    let s = c.args.station.now in
    let h = c.args.bus_is_high in
    let next = c.tick_collision_tx-next.result in
    let p : driving (with_core s next) ≡ ticked s h = breaking s h _ c.count_runs-counted.ensures c.in-CollisionTx.is next c.tick_collision_tx-next.ensures in
    record { station_after = ap (λ r. r.station) p; value = ap (λ r. r.driven_high) p }
