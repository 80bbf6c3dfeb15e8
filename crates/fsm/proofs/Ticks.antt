-- A tick is what its parts come to. Assumes nothing.
use mathlib.Core.Bool.{Bool}
use mathlib.Core.Path.{◌≡◌, refl}
use Rattle.machine.specs.Runs.{runs_counted}
use Rattle.machine.specs.declared.Core.{Core}
use Rattle.fsm.specs.Ticking.{tick_in, tick_of, ticked}
use Rattle.fsm.specs.declared.DaliBitbangPhy.{DaliBitbangPhy}
use Rattle.fsm.specs.declared.Ticked.{Ticked}

pub acted : (s : DaliBitbangPhy) (high : Bool) (c : Core) (next : DaliBitbangPhy) → c ≡ runs_counted s.core high → next ≡ tick_in c.bus.bus_state s c high
    → ◌≡◌ {A = Ticked} (record { station = next; driven_high = next.core.bus.driven_high }) (ticked s high)
unfolding ticked tick_of runs_counted
acted s high c next is_c is-next = rw (is-next, is_c) refl
