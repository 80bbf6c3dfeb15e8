-- `machine::half_bits_in` meets its contract. Assumes nothing.
use borrow.Author.Rules.{rules}
use mathlib.Core.Path.{◌≡◌, refl}
use lib.ListN.{length}
use native.Mathlib.Omega.{arith}
use Rattle.laws.specs.Packed.{packed}
use Rattle.machine.proofs.Store.{few, more, ended}
use Rattle.machine.proofs.half_bits_in.Goals as goal

pub loop-byte-init : goal.loop-byte-init
unfolding packed
loop-byte-init c = refl

pub overflow_mul-bits : goal.overflow_mul-bits
overflow_mul-bits c = let h = few c.args.«data» c.loop-byte.byte-index 6 (omega arith) in record { fits = omega (arith, h, c.loop-byte.invariant) }

pub overflow_add-bits : goal.overflow_add-bits
overflow_add-bits c = let h = few c.args.«data» c.loop-byte.byte-index 6 (omega arith) in record { fits = omega (arith, h, c.loop-byte.invariant) }

pub loop-byte-preserved : goal.loop-byte-preserved
loop-byte-preserved c = rw c.from.ensures (more c.args.«data» c.loop-byte.bits c.loop-byte.byte-index c.loop-byte-test.element_fits.fits c.loop-byte.invariant)

pub overflow_mul-result : goal.overflow_mul-result
overflow_mul-result c = let h = few c.args.«data» c.loop-byte.byte-index 7 (omega arith) in record { fits = omega (arith, h, c.loop-byte.invariant) }

pub returns : goal.returns
returns c =
    let whole : length c.args.«data» ≡ 7 = search rules in
    ended _ _ _ whole c.loop-byte.auto.byte-index-end c.loop-byte-test.false c.loop-byte.invariant
