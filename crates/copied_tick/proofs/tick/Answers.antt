-- `copied_tick::tick` meets its contract: both parts are those of the by-value tick. The check would find that alone; said here, a wrong promise is
-- refused for the part that it gets wrong.
use mathlib.Core.Path.{ap}
use Rattle.fsm.specs.declared.Ticked.{Ticked}
use Rattle.copied_tick.proofs.tick.Goals as goal

pub returns : goal.returns
returns c =
    record {
      station_after = ap (λ (t : Ticked). t.station) c.tick-next.ensures;
      value = ap (λ (t : Ticked). t.driven_high) c.tick-next.ensures;
    }
