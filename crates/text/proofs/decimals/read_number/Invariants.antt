-- `text::decimals::read_number` meets its contract. Assumes nothing.
use Prim.Native.Nat.{◌≤◌}
use mathlib.Core.Path.{◌≡◌}
use lib.ListN.{drop}
use Rattle.text.specs.Decimals.{all_digits, value_from, value_of}
use Rattle.text.proofs.decimals.read_number.Given as goal

abbrev pub invariant-loop-byte : goal.invariant-loop-byte
invariant-loop-byte l =
    record {
      within : l.number ≤ l.most;
      value : value_from l.number (drop l.byte-index l.field) ≡ value_of l.field;
      digits : all_digits (drop l.byte-index l.field) ≡ all_digits l.field;
    }
