-- Document 01, "Machine", Poll: what a poll answers, and what it clears. Assumes nothing.
use Rattle.std.specs.Prelude.{ℕ, true, false, not, ◌≡◌, eqb}
use Rattle.laws.specs.Pick.{pick}
use Rattle.machine.specs.Fields.{with_tx_collision, with_tx_yielded}
use Rattle.machine.specs.States.{is_tx}
use Rattle.fsm.specs.Station.{with_core}
use Rattle.fsm.specs.declared.DaliBitbangPhy.{DaliBitbangPhy}
use Rattle.fsm.specs.declared.TxPollResult.{TxPollResult}
use Rattle.fsm.specs.declared.TxPollResult.TheVariants.{Ok, Collision, Transmitting, Yielded}
use Rattle.fsm.specs.declared.Answered.{Answered}

-- the number of each answer, which is source document 000's (fsm.rs)
abbrev pub poll_result_number : TxPollResult → ℕ
poll_result_number Ok = 0
poll_result_number Collision = 3
poll_result_number Transmitting = 4
poll_result_number Yielded = 5

-- Each answer says that its own condition holds of the station, and that those before it in the order do not.
unfoldable pub SaysPoll : TxPollResult → DaliBitbangPhy → Type 0
SaysPoll Yielded s = s.core.told.tx_yielded ≡ true
SaysPoll Collision s = (s.core.told.tx_yielded ≡ false) × (s.core.told.tx_collision ≡ 0 → ⊥)
SaysPoll Transmitting s = (s.core.told.tx_yielded ≡ false) × (s.core.told.tx_collision ≡ 0) × (is_tx s.core.bus.bus_state ≡ true)
SaysPoll Ok s = (s.core.told.tx_yielded ≡ false) × (s.core.told.tx_collision ≡ 0) × (is_tx s.core.bus.bus_state ≡ false)

-- a station beside its answer
abbrev pub polled_with : DaliBitbangPhy → TxPollResult → Answered TxPollResult
polled_with s answer = record { station = s; answer = answer }

-- A poll reports a yield first, then a collision, and clears the one that it reports. Without either it answers Transmitting in Tx and Ok in every
-- other state, in a break too.
unfoldable pub polled : DaliBitbangPhy → Answered TxPollResult
polled s =
    pick s.core.told.tx_yielded
    (polled_with (with_core s (with_tx_yielded s.core false)) Yielded)
    (pick (not (eqb s.core.told.tx_collision 0))
    (polled_with (with_core s (with_tx_collision s.core 0)) Collision)
    (pick (is_tx s.core.bus.bus_state) (polled_with s Transmitting) (polled_with s Ok)))
