-- Document 01, "Machine": the start calls, with "Refusal numbers" 7 and 8. Assumes nothing.
use Rattle.std.specs.Prelude.{ℕ, Bool, true, false, not, ◌&&◌, eqb, leb, Result, Ok, Err, ⊤}
use Rattle.laws.specs.Pick.{pick}
use Rattle.halfbits.specs.declared.HalfBitBuffer.{HalfBitBuffer}
use Rattle.machine.specs.Sending.{tx_hb_of}
use Rattle.machine.specs.Starting.{loaded}
use Rattle.machine.specs.States.{is_idle, hears}
use Rattle.fsm.specs.Station.{with_core, with_tx_hb}
use Rattle.fsm.specs.declared.DaliBitbangPhy.{DaliBitbangPhy}
use Rattle.fsm.specs.declared.StartError.{StartError}
use Rattle.fsm.specs.declared.StartError.TheVariants.{Busy, BadLength}
use Rattle.fsm.specs.declared.Answered.{Answered}

-- A start takes a length of 1 to 54.
unfoldable pub length_fits : ℕ → Bool
length_fits n = not (eqb n 0) && leb n 54

-- a station beside its answer
abbrev pub started_with : DaliBitbangPhy → Result ⊤ StartError → Answered (Result ⊤ StartError)
started_with s answer = record { station = s; answer = answer }

-- The station loads the half-bits. The bytes of its captures stay.
unfoldable pub loaded_with : DaliBitbangPhy → HalfBitBuffer → Bool → DaliBitbangPhy
loaded_with s hb answer = with_tx_hb (with_core s (loaded s.core answer)) (tx_hb_of hb)

-- If the length doesn't fit, the station refuses the start by 8 and stays as it was.
unfoldable pub started : DaliBitbangPhy → HalfBitBuffer → Bool → Answered (Result ⊤ StartError)
started s hb answer = pick (length_fits hb.length) (started_with (loaded_with s hb answer) (Ok tt)) (started_with s (Err BadLength))

-- Outside Idle the station refuses `start_tx` by 7, whatever the length, and stays as it was.
unfoldable pub start_tx_of : DaliBitbangPhy → HalfBitBuffer → Answered (Result ⊤ StartError)
start_tx_of s hb = pick (is_idle s.core.bus.bus_state) (started s hb false) (started_with s (Err Busy))

-- Outside Idle and Rx the station refuses `start_answer` by 7 in the same way.
unfoldable pub start_answer_of : DaliBitbangPhy → HalfBitBuffer → Answered (Result ⊤ StartError)
start_answer_of s hb = pick (hears s.core.bus.bus_state) (started s hb true) (started_with s (Err Busy))
