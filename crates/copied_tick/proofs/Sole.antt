-- Any two answers that meet a public promise of this crate are equal, and so are the stations that `tick` leaves behind its reference. `Post` and
-- `Promised` are the promises themselves, as the check reads them from the source: that of `tick_lent` as a plain fact, those of `tick` as propositions
-- of the logic, so its law is an entailment. Assumes nothing.
use mathlib.Core.Path.{◌≡◌}
use mathlib.Core.Bool.{Bool}
use seplogic.Ra.Ura.{Ura}
use base.Logic.{SProp, ent}
use prog.Memory.{Memory}
use prog.Routine.{Routine}
use types.Logic.{Logic}
use contract.Lifetimes.{Lfts}
use contract.Monad.{Fun, conj, fact}
use denote.Triple.Clauses.{AtExit}
use denote.Triple.Entry.{Args}
use Rattle.laws.proofs.Only.{Only, named}
use Rattle.walk.proofs.Facts.{told_twice}
use Rattle.copied_tick.specs.contracts.tick as lent
use Rattle.copied_tick.proofs.tick_lent.Reads as tick_lent

pub tick_lent_sole : (κs : _) (a : _) (x : _) → Only (λ r. tick_lent.Post κs a r x)
tick_lent_sole κs a x = named _

module _ {M : Type 1} {𝓤 : Ura M} (𝓛 : Logic 𝓤) (at_mem : Memory → SProp 𝓤) (run : Routine → Fun 𝓤) (κs : Lfts 1) (a : Args lent.signature κs) where
  abbrev pub Promised : Bool → AtExit lent.ended κs → SProp 𝓤
  Promised r x = (lent.clauses 𝓛 at_mem run κs a).ensures tt r x

  pub tick_sole : (r s : Bool) (x y : AtExit lent.ended κs) → ent 𝓤 (conj 𝓤 (Promised r x) (Promised s y)) (fact 𝓤 ((r ≡ s) × (x.0.now ≡ y.0.now)))
  tick_sole r s x y = told_twice 𝓤
