-- `weight::half_weight` meets its contract: each goal is a test of a number below 16, which antt computes at each. Assumes nothing.
use Prim.Native.Nat.{ℕ}
use lib.IntN.{ℤ, pos, ◌+ℤ◌}
use lib.Dec.{leb, leb→le}
use lib.Signed.{mag}
use mir.Syntax.{w16}
use mir.Val.{to_z, of_z}
use Rattle.laws.specs.Pick.{pick}
use Rattle.laws.proofs.Below.{below, fits_below, same_z, same→eq}
use Rattle.weight.specs.Weight.{bit_weight, half_weight}
use Rattle.weight.proofs.half_weight.Goals as goal

-- a signed value as it is read back from its bits
abbrev back : ℤ → ℤ
back z = to_z w16 (of_z w16 z)

-- the sum of the four ticks
abbrev four : ℕ → ℤ
four n =
    back (back (back (bit_weight n 3 (pos 1)) +ℤ back (bit_weight n 2 (pos 2))) +ℤ back (bit_weight n 1 (pos 2)))
    +ℤ back (bit_weight n 0 (pos 1))

pub overflow_add-result-3 : goal.overflow_add-result-3
unfolding bit_weight pick
overflow_add-result-3 c =
    rw
    (c.bit_weight.ensures, c.bit_weight-2.ensures, c.bit_weight-3.ensures, c.bit_weight-4.ensures)
    (fits_below w16 four 16 tt c.args.half c.requires)

pub returns-clause-value : goal.returns-clause-value
unfolding bit_weight half_weight pick
returns-clause-value c =
    rw
    (c.bit_weight.ensures, c.bit_weight-2.ensures, c.bit_weight-3.ensures, c.bit_weight-4.ensures)
    (same→eq (back (four c.args.half)) (half_weight c.args.half) (below (λ n. same_z (back (four n)) (half_weight n)) 16 tt c.args.half c.requires))

pub returns-clause-bounds : goal.returns-clause-bounds
unfolding bit_weight pick
returns-clause-bounds c =
    rw
    (c.bit_weight.ensures, c.bit_weight-2.ensures, c.bit_weight-3.ensures, c.bit_weight-4.ensures)
    (leb→le _ _ (below (λ n. leb (mag (back (four n))) 6) 16 tt c.args.half c.requires))
