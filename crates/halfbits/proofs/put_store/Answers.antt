-- `put_store` meets its contract. Assumes nothing.
use mathlib.Core.Path.{◌≡◌, refl}
use native.Mathlib.Omega.{arith}
use native.Mathlib.Numerals.{add-one}
use Rattle.laws.specs.Tabulate.{tabulate}
use Rattle.laws.proofs.Tabulated.{set_next}
use Rattle.halfbits.specs.Code.{byte_in, bytes_in}
use Rattle.halfbits.proofs.put_store.Goals as goal

pub loop-at-init : goal.loop-at-init
unfolding tabulate
loop-at-init c = refl

pub loop-at-preserved : goal.loop-at-preserved
loop-at-preserved c = rw (c.loop-at.invariant, add-one c.loop-at.at) (set_next c.loop-at.at (byte_in c.args.all) _ (omega arith))

pub returns : goal.returns
unfolding bytes_in
returns c = let whole : c.loop-at.at ≡ 7 = omega arith in rw whole at c.loop-at.invariant
