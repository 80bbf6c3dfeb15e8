-- `text::hex::all_hex` meets its contract. Assumes nothing.
use Rattle.std.proofs.Common.{◌∙◌, unwrap_or, rules, tests}
use lib.Dec.{ltb}
use Rattle.std.proofs.lemmas.Iterator.{YieldsList-from_slice}
use Rattle.std.proofs.lemmas.Iterator.Search.{all_from_yields_List}
use Rattle.text.specs.Code.{hex_digit_in}
use Rattle.text.proofs.HexLaws.{all_below}
use Rattle.text.proofs.hex.all_hex.Goals as goal

pub returns : goal.returns
returns c =
    all_from_yields_List (λ byte. ltb (unwrap_or (hex_digit_in byte) 16) 16) _ _ c.all.result c.all.ensures.ran
    (YieldsList-from_slice c.args.field.now c.iter.ensures.rest) (λ x b q k. search (rules, tests))
    ∙ all_below c.args.field.now
