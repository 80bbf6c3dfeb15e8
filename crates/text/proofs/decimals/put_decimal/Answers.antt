-- `text::decimals::put_decimal` meets its contract. Assumes nothing.
use native.Mathlib.Omega.{arith}
use Rattle.text.proofs.DecimalDigits.{decimal_put}
use Rattle.text.proofs.decimals.put_decimal.Goals as goal

pub returns : goal.returns
returns c =
    let put = decimal_put _ (omega arith) c.places.ensures c.put_digits.ensures in
    record { value = put.past; out_after = put.left }
