-- A tick's answer as a value that a walk handles (walk's Data), and that a good answer is a good station and a level. Assumes what the kit's walks assume.
use mathlib.Core.Path.{refl}
use seplogic.Ra.Ura.{Ura}
use types.Logic.{Logic}
use denote.Struct.Laws.{owes, owed}
use Rattle.walk.proofs.Data.{Data, Good, struct}
use Rattle.fsm.specs.declared.Ticked.{Ticked}
use Rattle.fsm.specs.contracts.Ticked as answer
use Rattle.fsm.proofs.Ticked.TheLaws as answer_laws
use Rattle.in_place.proofs.Values.{Station}

module _ {M : Type 1} {𝓤 : Ura M} (𝓛 : Logic 𝓤) where
  abbrev pub Answer : Data 𝓛
  Answer = struct 𝓛 answer.the_type answer_laws.the_laws answer_laws.the_plain

  pub station_in : (r : Ticked) → Good Answer r → Good (Station 𝓛) r.station
  station_in r good = (owed answer.the_type answer_laws.the_laws r _ good).0

  pub answer_of : (r : Ticked) → Good (Station 𝓛) r.station → Good Answer r
  answer_of r good = owes answer.the_type answer_laws.the_laws r (good, (refl, tt))
