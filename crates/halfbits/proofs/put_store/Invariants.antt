-- `put_store` meets its contract. The loop's invariant: the first bytes are those of the store, and the others are as they were lent.
use mathlib.Core.Path.{◌≡◌}
use mathlib.Core.List.{◌++◌}
use lib.ListN.{drop}
use Rattle.laws.specs.Tabulate.{tabulate}
use Rattle.halfbits.specs.Code.{byte_in}
use Rattle.halfbits.proofs.put_store.Given as goal

abbrev pub invariant-loop-at : goal.invariant-loop-at
invariant-loop-at l = l.out ≡ tabulate l.at (byte_in l.all) ++ drop l.at l.initial.out
