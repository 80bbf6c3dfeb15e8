-- `text::hex::put_hex` meets its contract. Assumes nothing.
use mathlib.Core.Path.{◌≡◌}
use Prim.Native.Nat.{◌+◌, ◌*◌, ◌≤◌}
use lib.ListN.{length, drop}
use lib.Seq.{sets}
use Rattle.text.specs.Hex.{hexes_of}
use Rattle.text.proofs.hex.put_hex.Given as goal

abbrev pub invariant-loop-byte : goal.invariant-loop-byte
invariant-loop-byte l =
    record {
      room : l.at + 2 * length l.bytes ≤ length l.initial.out;
      place : l.end ≡ l.at + 2 * l.byte-index;
      left : sets l.out l.end (hexes_of (drop l.byte-index l.bytes)) ≡ sets l.initial.out l.at (hexes_of l.bytes);
    }
