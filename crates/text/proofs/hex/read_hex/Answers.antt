-- `text::hex::read_hex` meets its contract. Assumes nothing.
use borrow.Author.Rules.{rules}
use Rattle.text.proofs.HexLaws.{is_filled}
use Rattle.text.proofs.hex.read_hex.Goals as goal

pub returns : goal.returns
returns c =
    let filled = is_filled _ _ c.is_hex.ensures (search rules) c.fill.ensures in
    record { value = filled.0; bytes_after = filled.1 }
