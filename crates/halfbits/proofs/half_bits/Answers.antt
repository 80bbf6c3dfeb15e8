-- `half_bits` meets its contract. Assumes nothing.
use native.Mathlib.Omega.{arith}
use Rattle.halfbits.proofs.Halves.{start, turn, small, ended}
use Rattle.halfbits.proofs.half_bits.Goals as goal

pub loop-at-init : goal.loop-at-init
loop-at-init c = start _ _

pub overflow_mul-all : goal.overflow_mul-all
overflow_mul-all c = let h = small _ _ _ _ (omega arith) c.loop-at.invariant in record { fits = omega arith }

pub overflow_add-all : goal.overflow_add-all
overflow_add-all c = let h = small _ _ _ _ (omega arith) c.loop-at.invariant in record { fits = omega arith }

pub overflow_add-all-in-loop-at : goal.overflow_add-all-in-loop-at
overflow_add-all-in-loop-at c = let h = small _ _ _ _ (omega arith) c.loop-at.invariant in record { fits = omega arith }

pub loop-at-preserved : goal.loop-at-preserved
loop-at-preserved c = turn _ _ _ _ _ c.loop-at-test.true c.loop-at.invariant c.from.ensures

pub returns : goal.returns
returns c = ended _ _ _ _ c.requires c.loop-at.auto.at-end c.loop-at-test.false c.loop-at.invariant
