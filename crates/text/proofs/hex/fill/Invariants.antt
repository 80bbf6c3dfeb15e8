-- `text::hex::fill` meets its contract. Assumes nothing.
use mathlib.Core.Path.{◌≡◌}
use mathlib.Core.Bool.{true}
use mathlib.Core.List.{◌++◌}
use Prim.Native.Nat.{◌*◌}
use lib.ListN.{take, drop}
use Rattle.text.specs.Hex.{all_hex, bytes_of}
use Rattle.text.proofs.hex.fill.Given as goal

abbrev pub invariant-loop-i : goal.invariant-loop-i
invariant-loop-i l =
    record {
      filled : take l.i l.bytes ++ bytes_of (drop (2 * l.i) l.field) ≡ bytes_of l.field;
      hex : all_hex (drop (2 * l.i) l.field) ≡ true;
    }
