-- Two low samples are what Idle starts Rx with. Assumes nothing.
use mathlib.Core.Path.{refl}
use Rattle.laws.specs.Pick.{pick}
use Rattle.machine.specs.Idle.{entered}
use Rattle.fsm.specs.Rx.{ReplaysTwoLows, sampled, high_run}

pub replays_two_lows : ReplaysTwoLows
unfolding entered sampled high_run pick
replays_two_lows c = refl
