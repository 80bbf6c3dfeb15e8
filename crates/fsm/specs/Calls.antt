-- Source document 000's other calls that change a station: a new policy, the after-break mark, and the take of a capture. Assumes nothing.
use Rattle.std.specs.Prelude.{Bool, false, Option, Some, None}
use Rattle.laws.specs.Pick.{pick}
use Rattle.event.specs.declared.RxCompletedEvent.{RxCompletedEvent}
use Rattle.machine.specs.Fields as core
use Rattle.machine.specs.States.{is_completed}
use Rattle.machine.specs.declared.RxState.TheVariants.{Empty}
use Rattle.machine.specs.declared.CollisionPolicy.{CollisionPolicy}
use Rattle.fsm.specs.Station.{last_event, with_core}
use Rattle.fsm.specs.declared.DaliBitbangPhy.{DaliBitbangPhy}
use Rattle.fsm.specs.declared.Answered.{Answered}

-- The station has another policy, and nothing else changes.
unfoldable pub with_policy : DaliBitbangPhy → CollisionPolicy → DaliBitbangPhy
with_policy s p = with_core s (core.with_policy s.core p)

-- The call reports the after-break mark and clears it.
unfoldable pub took_idle : DaliBitbangPhy → Answered Bool
took_idle s = record {
  station = with_core s (core.with_tx_idle_after_break s.core false);
  answer = s.core.told.tx_idle_after_break;
}

-- A capture is complete, and nobody has taken it.
abbrev pub has_event : DaliBitbangPhy → Bool
has_event s = is_completed s.core.told.rx_state

-- The call clears the mark of that capture and leaves its bytes. If there is no such capture, nothing changes.
unfoldable pub acknowledged : DaliBitbangPhy → DaliBitbangPhy
acknowledged s = pick (has_event s) (with_core s (core.with_rx_state s.core Empty)) s

-- A take hands out the last event and acknowledges it, if there is one to take.
unfoldable pub took_rx : DaliBitbangPhy → Answered (Option RxCompletedEvent)
took_rx s = record {
  station = acknowledged s;
  answer = pick (has_event s) (Some (last_event s)) None;
}
