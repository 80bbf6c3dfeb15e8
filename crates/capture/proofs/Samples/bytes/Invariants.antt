-- `Samples::bytes` meets its contract. The loop's invariant: the first bytes are handed out, and the others are zero. Assumes nothing.
use mathlib.Core.Path.{◌≡◌}
use mathlib.Core.List.{List, ◌++◌}
use Prim.Native.Nat.{ℕ}
use lib.ListN.{drop, replicate}
use Rattle.laws.specs.Tabulate.{tabulate}
use Rattle.capture.specs.Samples.{byte_in}
use Rattle.capture.proofs.Samples.bytes.Given as goal

abbrev pub handed : List ℕ → ℕ → List ℕ
handed words at = tabulate at (byte_in words) ++ drop at (replicate 64 0)

abbrev pub invariant-loop-at : goal.invariant-loop-at
invariant-loop-at l = l.all ≡ handed l.words l.at
