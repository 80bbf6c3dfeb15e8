-- Any two results that meet a public promise of this crate are equal. `Post` is the promise itself, as the check reads it from the source.
-- Assumes nothing.
use Rattle.laws.proofs.Only.{Only, named}
use Rattle.machine.proofs.saturating_inc16.Reads as saturating_inc16
use Rattle.machine.proofs.saturating_inc8.Reads as saturating_inc8
use Rattle.machine.proofs.TxHb.of.Reads as of
use Rattle.machine.proofs.Core.count_runs.Reads as count_runs
use Rattle.machine.proofs.Core.set_bus_idle.Reads as set_bus_idle
use Rattle.machine.proofs.Core.tick_idle.Reads as tick_idle
use Rattle.machine.proofs.Core.count_idle.Reads as count_idle
use Rattle.machine.proofs.Core.holds.Reads as holds
use Rattle.machine.proofs.Core.hold_half_bit.Reads as hold_half_bit
use Rattle.machine.proofs.Core.tick_tx.Reads as tick_tx
use Rattle.machine.proofs.Core.tick_collision_tx.Reads as tick_collision_tx
use Rattle.machine.proofs.Core.load_tx.Reads as load_tx

pub saturating_inc16_sole : (κs : _) (a : _) (x : _) → Only (λ r. saturating_inc16.Post κs a r x)
saturating_inc16_sole κs a x = named _

pub saturating_inc8_sole : (κs : _) (a : _) (x : _) → Only (λ r. saturating_inc8.Post κs a r x)
saturating_inc8_sole κs a x = named _

pub of_sole : (κs : _) (a : _) (x : _) → Only (λ r. of.Post κs a r x)
of_sole κs a x = named _

pub count_runs_sole : (κs : _) (a : _) (x : _) → Only (λ r. count_runs.Post κs a r x)
count_runs_sole κs a x = named _

pub set_bus_idle_sole : (κs : _) (a : _) (x : _) → Only (λ r. set_bus_idle.Post κs a r x)
set_bus_idle_sole κs a x = named _

pub tick_idle_sole : (κs : _) (a : _) (x : _) → Only (λ r. tick_idle.Post κs a r x)
tick_idle_sole κs a x = named _

pub count_idle_sole : (κs : _) (a : _) (x : _) → Only (λ r. count_idle.Post κs a r x)
count_idle_sole κs a x = named _

pub holds_sole : (κs : _) (a : _) (x : _) → Only (λ r. holds.Post κs a r x)
holds_sole κs a x = named _

pub hold_half_bit_sole : (κs : _) (a : _) (x : _) → Only (λ r. hold_half_bit.Post κs a r x)
hold_half_bit_sole κs a x = named _

pub tick_tx_sole : (κs : _) (a : _) (x : _) → Only (λ r. tick_tx.Post κs a r x)
tick_tx_sole κs a x = named _

pub tick_collision_tx_sole : (κs : _) (a : _) (x : _) → Only (λ r. tick_collision_tx.Post κs a r x)
tick_collision_tx_sole κs a x = named _

pub load_tx_sole : (κs : _) (a : _) (x : _) → Only (λ r. load_tx.Post κs a r x)
load_tx_sole κs a x = named _
