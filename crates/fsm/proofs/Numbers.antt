-- The answers of starts have document 01's numbers. Assumes nothing.
use Rattle.std.specs.Prelude.{Result, Ok, Err, ⊤}
use mathlib.Core.Bool.{Bool, true, false}
use mathlib.Core.Path.{◌≡◌, refl}
use Rattle.laws.specs.Pick.{pick}
use Rattle.halfbits.specs.declared.HalfBitBuffer.{HalfBitBuffer}
use Rattle.machine.specs.States.{is_idle, hears}
use Rattle.fsm.specs.declared.DaliBitbangPhy.{DaliBitbangPhy}
use Rattle.fsm.specs.declared.StartError.{StartError}
use Rattle.fsm.specs.declared.StartError.TheVariants.{Busy, BadLength}
use Rattle.fsm.specs.declared.Answered.{Answered}
use Rattle.fsm.specs.Refusals.{start_answer_number, start_number}
use Rattle.fsm.specs.Starting.{length_fits, started_with, loaded_with, started, start_tx_of, start_answer_of}

fitted : (fits : Bool) (s t : DaliBitbangPhy)
    → start_answer_number (pick {A = Answered (Result ⊤ StartError)} fits (started_with t (Ok tt)) (started_with s (Err BadLength))).answer ≡ pick fits 0 8
unfolding pick
fitted true s t = refl
fitted false s t = refl

numbered : (allowed : Bool) (s : DaliBitbangPhy) (hb : HalfBitBuffer) (answer : Bool)
    → start_answer_number (pick {A = Answered (Result ⊤ StartError)} allowed (started s hb answer) (started_with s (Err Busy))).answer
    ≡ start_number allowed (length_fits hb.length)
unfolding pick start_number started
numbered true s hb answer = fitted (length_fits hb.length) s (loaded_with s hb answer)
numbered false s hb answer = refl

module _ (s : DaliBitbangPhy) (hb : HalfBitBuffer) where
  pub tx_numbered : start_answer_number (start_tx_of s hb).answer ≡ start_number (is_idle s.core.bus.bus_state) (length_fits hb.length)
  unfolding start_tx_of
  tx_numbered = numbered (is_idle s.core.bus.bus_state) s hb false

  pub answer_numbered : start_answer_number (start_answer_of s hb).answer ≡ start_number (hears s.core.bus.bus_state) (length_fits hb.length)
  unfolding start_answer_of
  answer_numbered = numbered (hears s.core.bus.bus_state) s hb true
