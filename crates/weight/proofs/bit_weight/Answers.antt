-- `weight::bit_weight` meets its contract. Assumes nothing.
use mathlib.Core.Bool.{Bool, true, false}
use mathlib.Core.Path.{◌≡◌}
use Prim.Native.Nat.{ℕ, zero, suc, ◌<◌, ◌/◌, ◌%◌, ◌^◌}
use native.Mathlib.Omega.{arith}
use native.Mathlib.Nat.{one-mul}
use lib.Dec.{eqb}
use lib.IntN.{ℤ, pos, negsuc, neg_ℤ, ◌-ℤ◌, ◌*ℤ◌}
use lib.Signed.{mag}
use mir.Syntax.{w16}
use mir.Val.{SFits, to_z, of_z}
use mir.Facts.{to_z-of_z}
use Rattle.laws.specs.Pick.{pick}
use Rattle.weight.specs.Weight.{bit_weight}
use Rattle.weight.proofs.bit_weight.Goals as goal

-- what the code computes of a bit that is 0 or 1
abbrev twice : ℕ → ℤ
twice b = pos 2 *ℤ to_z w16 b

abbrev sign : ℕ → ℤ
sign b = to_z w16 (of_z w16 (twice b)) -ℤ pos 1

abbrev signed : ℕ → ℤ → ℤ
signed b z = to_z w16 (of_z w16 (sign b)) *ℤ z

minus : (z : ℤ) → negsuc 0 *ℤ z ≡ neg_ℤ z
minus (pos n) = rw one-mul
minus (negsuc n) = rw one-mul

plus : (z : ℤ) → pos 1 *ℤ z ≡ z
plus (pos n) = rw one-mul
plus (negsuc n) = rw one-mul

signed_is : (b : ℕ) (z : ℤ) → b < 2 → signed b z ≡ pick (eqb b 1) z (neg_ℤ z)
unfolding pick
signed_is zero z h = minus z
signed_is (suc zero) z h = plus z
signed_is (suc (suc b)) z h = absurd (omega arith)

-- only the least number of the width has no negative there
signed_fits : (b : ℕ) (z : ℤ) → mag z < 32767 → SFits w16 (pick (eqb b 1) z (neg_ℤ z))
unfolding pick
signed_fits b z h = go (eqb b 1) z h
  where
    go : (t : Bool) (z : ℤ) → mag z < 32767 → SFits w16 (pick t z (neg_ℤ z))
    go true z h = record { sfits = omega arith }
    go false (pos zero) h = record { sfits = omega arith }
    go false (pos (suc n)) h = record { sfits = omega arith }
    go false (negsuc n) h = record { sfits = omega arith }

pub overflow_mul-result : goal.overflow_mul-result
overflow_mul-result c =
    let b = c.args.sample / 2 ^ c.args.bit % 2 in
    rw (to_z-of_z c.ranges.weight, signed_is b c.args.weight (omega arith)) (signed_fits b c.args.weight c.requires.1)

pub returns : goal.returns
unfolding bit_weight
returns c =
    let b = c.args.sample / 2 ^ c.args.bit % 2 in
    rw (to_z-of_z c.ranges.weight, signed_is b c.args.weight (omega arith)) (to_z-of_z (signed_fits b c.args.weight c.requires.1))
