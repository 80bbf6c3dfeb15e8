-- `text::fields::count` meets its contract. Assumes nothing.
use mathlib.Core.Path.{◌≡◌}
use Prim.Native.Nat.{◌+◌}
use lib.Dec.{eqb}
use lib.ListN.{take}
use Rattle.std.specs.Prelude.{count_by}
use Rattle.text.proofs.fields.count.Given as goal

abbrev pub invariant-loop-byte : goal.invariant-loop-byte
invariant-loop-byte l = l.fields ≡ count_by (λ byte. eqb byte l.mark) (take l.byte-index l.text) + 1
