-- `text::decimals::places` meets its contract. Assumes nothing.
use mathlib.Core.Path.{ap}
use native.Mathlib.Omega.{arith}
use lib.ListN.{length}
use Rattle.text.proofs.DecimalDigits.{decimal_one, places_more, length_decimal}
use Rattle.text.proofs.decimals.places.Goals as goal

pub overflow_add-count : goal.overflow_add-count
overflow_add-count c = omega (arith, length_decimal 10 9 c.args.number (omega arith))

pub loop-rest-preserved : goal.loop-rest-preserved
loop-rest-preserved c = (omega arith, omega (arith, places_more c.loop-rest.rest (omega arith) c.loop-rest-test.true))

pub returns : goal.returns
returns c = omega (arith, ap length (decimal_one c.loop-rest.rest (omega arith)))
