-- `text::hex::put_hex_digits` meets its contract. Assumes nothing.
use mathlib.Core.Path.{◌≡◌}
use Prim.Native.Nat.{◌+◌, ◌≤◌}
use lib.ListN.{length}
use lib.Seq.{sets}
use Rattle.text.specs.Hex.{hex_digits_of}
use Rattle.text.proofs.hex.put_hex_digits.Given as goal

abbrev pub invariant-loop-i : goal.invariant-loop-i
invariant-loop-i l =
    record {
      room : l.at + l.width ≤ length l.initial.out;
      left : sets l.out l.at (hex_digits_of l.i l.rest) ≡ sets l.initial.out l.at (hex_digits_of l.width l.number);
    }
