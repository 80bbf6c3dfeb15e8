-- `text::decimals::put_digits` meets its contract. Assumes nothing.
use mathlib.Core.Path.{◌≡◌}
use Prim.Native.Nat.{◌+◌, ◌≤◌}
use lib.ListN.{length}
use lib.Seq.{sets}
use Rattle.text.specs.Code.{digits}
use Rattle.text.proofs.decimals.put_digits.Given as goal

abbrev pub invariant-loop-i : goal.invariant-loop-i
invariant-loop-i l =
    record {
      room : l.at + l.count ≤ length l.initial.out;
      left : sets l.out l.at (digits l.i l.rest) ≡ sets l.initial.out l.at (digits l.count l.number);
    }
