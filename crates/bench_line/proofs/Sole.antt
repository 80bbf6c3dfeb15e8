-- Any two results that meet a public promise of this crate are equal. `Post` is the promise itself, as the check reads it from the source.
-- Assumes nothing.
use Rattle.laws.proofs.Only.{Only, named, named_and}
use Rattle.bench_line.proofs.BenchLine.new.Reads as new_line
use Rattle.bench_line.proofs.BenchLine.level.Reads as level
use Rattle.bench_line.proofs.BenchLine.tick.Reads as tick
use Rattle.bench_line.proofs.BenchLine.station.Reads as station
use Rattle.bench_line.proofs.BenchLine.set_collision_policy.Reads as set_collision_policy
use Rattle.bench_line.proofs.BenchLine.start_tx.Reads as start_tx
use Rattle.bench_line.proofs.BenchLine.start_answer.Reads as start_answer
use Rattle.bench_line.proofs.BenchLine.poll_tx_state.Reads as poll_tx_state
use Rattle.bench_line.proofs.BenchLine.take_idle_after_break.Reads as take_idle_after_break
use Rattle.bench_line.proofs.BenchLine.acknowledge_rx_frame.Reads as acknowledge_rx_frame
use Rattle.bench_line.proofs.BenchLine.take_completed_rx_event.Reads as take_completed_rx_event

pub new_line_sole : (κs : _) (a : _) (x : _) → Only (λ r. new_line.Post κs a r x)
new_line_sole κs a x = named_and _ _

pub level_sole : (κs : _) (a : _) (x : _) → Only (λ r. level.Post κs a r x)
level_sole κs a x = named _

pub tick_sole : (κs : _) (a : _) (x : _) → Only (λ r. tick.Post κs a r x)
tick_sole κs a x = named _

pub station_sole : (κs : _) (a : _) (x : _) → Only (λ r. station.Post κs a r x)
station_sole κs a x = named_and _ _

pub set_collision_policy_sole : (κs : _) (a : _) (x : _) → Only (λ r. set_collision_policy.Post κs a r x)
set_collision_policy_sole κs a x = named_and _ _

pub start_tx_sole : (κs : _) (a : _) (x : _) → Only (λ r. start_tx.Post κs a r x)
start_tx_sole κs a x = named_and _ _

pub start_answer_sole : (κs : _) (a : _) (x : _) → Only (λ r. start_answer.Post κs a r x)
start_answer_sole κs a x = named_and _ _

pub poll_tx_state_sole : (κs : _) (a : _) (x : _) → Only (λ r. poll_tx_state.Post κs a r x)
poll_tx_state_sole κs a x = named_and _ _

pub take_idle_after_break_sole : (κs : _) (a : _) (x : _) → Only (λ r. take_idle_after_break.Post κs a r x)
take_idle_after_break_sole κs a x = named_and _ _

pub acknowledge_rx_frame_sole : (κs : _) (a : _) (x : _) → Only (λ r. acknowledge_rx_frame.Post κs a r x)
acknowledge_rx_frame_sole κs a x = named_and _ _

pub take_completed_rx_event_sole : (κs : _) (a : _) (x : _) → Only (λ r. take_completed_rx_event.Post κs a r x)
take_completed_rx_event_sole κs a x = named_and _ _
