-- `text::decimals::read_byte` meets its contract. Assumes nothing.
use native.Mathlib.Omega.{arith}
use Rattle.text.proofs.DecimalLaws.{number_read}
use Rattle.text.proofs.decimals.read_byte.Goals as goal

pub overflow_cast-result : goal.overflow_cast-result
overflow_cast-result c = let h = (number_read _ _ c.read_number.ensures _ c.in_ok-number.was).2 in record { fits = omega arith }
