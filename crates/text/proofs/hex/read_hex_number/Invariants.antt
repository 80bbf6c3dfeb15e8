-- `text::hex::read_hex_number` meets its contract. Assumes nothing.
use Prim.Native.Nat.{◌^◌, ◌<◌}
use mathlib.Core.Path.{◌≡◌}
use lib.ListN.{drop}
use Rattle.text.specs.Hex.{all_hex, hex_value_from}
use Rattle.text.proofs.hex.read_hex_number.Given as goal

abbrev pub invariant-loop-byte : goal.invariant-loop-byte
invariant-loop-byte l =
    record {
      small : l.number < 16 ^ l.byte-index;
      value : hex_value_from l.number (drop l.byte-index l.field) ≡ hex_value_from 0 l.field;
      hex : all_hex (drop l.byte-index l.field) ≡ all_hex l.field;
    }
