-- Any two results that meet a public promise of this crate are equal. `Post` is the promise itself, as the check reads it from the source.
-- Assumes nothing.
use Rattle.laws.proofs.Only.{Only, named, named_and}
use Rattle.fsm.proofs.settle_ticks_on_wire.Reads as settle_ticks_on_wire
use Rattle.fsm.proofs.restart_gate_for.Reads as restart_gate_for
use Rattle.fsm.proofs.sample.Reads as sample
use Rattle.fsm.proofs.fill.Reads as fill
use Rattle.fsm.proofs.with_end.Reads as with_end
use Rattle.fsm.proofs.end_rx.Reads as end_rx
use Rattle.fsm.proofs.DaliBitbangPhy.new.Reads as new_station
use Rattle.fsm.proofs.DaliBitbangPhy.set_collision_policy.Reads as set_collision_policy
use Rattle.fsm.proofs.DaliBitbangPhy.finish_rx_and_notify.Reads as finish_rx_and_notify
use Rattle.fsm.proofs.DaliBitbangPhy.tick.Reads as tick
use Rattle.fsm.proofs.DaliBitbangPhy.start_tx.Reads as start_tx
use Rattle.fsm.proofs.DaliBitbangPhy.start_answer.Reads as start_answer
use Rattle.fsm.proofs.DaliBitbangPhy.bus_state.Reads as bus_state
use Rattle.fsm.proofs.DaliBitbangPhy.line_debouncing.Reads as line_debouncing
use Rattle.fsm.proofs.DaliBitbangPhy.poll_tx_state.Reads as poll_tx_state
use Rattle.fsm.proofs.DaliBitbangPhy.take_idle_after_break.Reads as take_idle_after_break
use Rattle.fsm.proofs.DaliBitbangPhy.rx_state.Reads as rx_state
use Rattle.fsm.proofs.DaliBitbangPhy.idle_tick_count.Reads as idle_tick_count
use Rattle.fsm.proofs.DaliBitbangPhy.bus_low_run_ticks.Reads as bus_low_run_ticks
use Rattle.fsm.proofs.DaliBitbangPhy.tx_pre_idle_ticks.Reads as tx_pre_idle_ticks
use Rattle.fsm.proofs.DaliBitbangPhy.rx_pre_idle_ticks.Reads as rx_pre_idle_ticks
use Rattle.fsm.proofs.DaliBitbangPhy.tx_busy.Reads as tx_busy
use Rattle.fsm.proofs.DaliBitbangPhy.driven_high.Reads as driven_high
use Rattle.fsm.proofs.DaliBitbangPhy.last_rx_event.Reads as last_rx_event
use Rattle.fsm.proofs.DaliBitbangPhy.acknowledge_rx_frame.Reads as acknowledge_rx_frame
use Rattle.fsm.proofs.DaliBitbangPhy.take_completed_rx_event.Reads as take_completed_rx_event

pub settle_ticks_on_wire_sole : (κs : _) (a : _) (x : _) → Only (λ r. settle_ticks_on_wire.Post κs a r x)
settle_ticks_on_wire_sole κs a x = named _

pub restart_gate_for_sole : (κs : _) (a : _) (x : _) → Only (λ r. restart_gate_for.Post κs a r x)
restart_gate_for_sole κs a x = named _

pub sample_sole : (κs : _) (a : _) (x : _) → Only (λ r. sample.Post κs a r x)
sample_sole κs a x = named _

pub fill_sole : (κs : _) (a : _) (x : _) → Only (λ r. fill.Post κs a r x)
fill_sole κs a x = named _

pub with_end_sole : (κs : _) (a : _) (x : _) → Only (λ r. with_end.Post κs a r x)
with_end_sole κs a x = named _

pub end_rx_sole : (κs : _) (a : _) (x : _) → Only (λ r. end_rx.Post κs a r x)
end_rx_sole κs a x = named _

pub new_station_sole : (κs : _) (a : _) (x : _) → Only (λ r. new_station.Post κs a r x)
new_station_sole κs a x = named _

pub set_collision_policy_sole : (κs : _) (a : _) (x : _) → Only (λ r. set_collision_policy.Post κs a r x)
set_collision_policy_sole κs a x = named _

pub finish_rx_and_notify_sole : (κs : _) (a : _) (x : _) → Only (λ r. finish_rx_and_notify.Post κs a r x)
finish_rx_and_notify_sole κs a x = named _

pub tick_sole : (κs : _) (a : _) (x : _) → Only (λ r. tick.Post κs a r x)
tick_sole κs a x = named _

pub start_tx_sole : (κs : _) (a : _) (x : _) → Only (λ r. start_tx.Post κs a r x)
start_tx_sole κs a x = named_and _ _

pub start_answer_sole : (κs : _) (a : _) (x : _) → Only (λ r. start_answer.Post κs a r x)
start_answer_sole κs a x = named_and _ _

pub bus_state_sole : (κs : _) (a : _) (x : _) → Only (λ r. bus_state.Post κs a r x)
bus_state_sole κs a x = named _

pub line_debouncing_sole : (κs : _) (a : _) (x : _) → Only (λ r. line_debouncing.Post κs a r x)
line_debouncing_sole κs a x = named _

pub poll_tx_state_sole : (κs : _) (a : _) (x : _) → Only (λ r. poll_tx_state.Post κs a r x)
poll_tx_state_sole κs a x = named_and _ _

pub take_idle_after_break_sole : (κs : _) (a : _) (x : _) → Only (λ r. take_idle_after_break.Post κs a r x)
take_idle_after_break_sole κs a x = named _

pub rx_state_sole : (κs : _) (a : _) (x : _) → Only (λ r. rx_state.Post κs a r x)
rx_state_sole κs a x = named _

pub idle_tick_count_sole : (κs : _) (a : _) (x : _) → Only (λ r. idle_tick_count.Post κs a r x)
idle_tick_count_sole κs a x = named _

pub bus_low_run_ticks_sole : (κs : _) (a : _) (x : _) → Only (λ r. bus_low_run_ticks.Post κs a r x)
bus_low_run_ticks_sole κs a x = named _

pub tx_pre_idle_ticks_sole : (κs : _) (a : _) (x : _) → Only (λ r. tx_pre_idle_ticks.Post κs a r x)
tx_pre_idle_ticks_sole κs a x = named _

pub rx_pre_idle_ticks_sole : (κs : _) (a : _) (x : _) → Only (λ r. rx_pre_idle_ticks.Post κs a r x)
rx_pre_idle_ticks_sole κs a x = named _

pub tx_busy_sole : (κs : _) (a : _) (x : _) → Only (λ r. tx_busy.Post κs a r x)
tx_busy_sole κs a x = named _

pub driven_high_sole : (κs : _) (a : _) (x : _) → Only (λ r. driven_high.Post κs a r x)
driven_high_sole κs a x = named _

pub last_rx_event_sole : (κs : _) (a : _) (x : _) → Only (λ r. last_rx_event.Post κs a r x)
last_rx_event_sole κs a x = named _

pub acknowledge_rx_frame_sole : (κs : _) (a : _) (x : _) → Only (λ r. acknowledge_rx_frame.Post κs a r x)
acknowledge_rx_frame_sole κs a x = named _

pub take_completed_rx_event_sole : (κs : _) (a : _) (x : _) → Only (λ r. take_completed_rx_event.Post κs a r x)
take_completed_rx_event_sole κs a x = named _
