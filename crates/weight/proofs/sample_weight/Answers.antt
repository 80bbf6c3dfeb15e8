-- `weight::sample_weight` meets its contract: each goal is a test of the one byte, which antt computes at all 256. Assumes nothing.
use mathlib.Core.Path.{◌≡◌}
use mathlib.Core.Bool.{true, false}
use Prim.Native.Nat.{ℕ, ◌/◌, ◌%◌, ◌<◌}
use lib.IntN.{ℤ, pos, nat_abs, ◌-ℤ◌, ◌*ℤ◌}
use lib.Signed.{lt_z}
use lib.Dec.{eqb, eqb→eq}
use native.Mathlib.Omega.{arith}
use mir.Syntax.{w16}
use mir.Val.{to_z, of_z}
use Rattle.laws.specs.Pick.{pick}
use Rattle.laws.proofs.Below.{below_on}
use Rattle.weight.specs.Weight.{weight_of, folded, half_weight, bit_weight}
use Rattle.weight.proofs.sample_weight.Goals as goal

-- a signed value as it is read back from its bits
abbrev back : ℤ → ℤ
back z = to_z w16 (of_z w16 z)

-- the doubled difference of two halves
abbrev doubled : ℤ → ℤ → ℤ
doubled a b = back (pos 2 *ℤ back (back a -ℤ back b))

abbrev raised : ℤ → ℤ
raised z = back (pos 1 -ℤ z)

-- that of a byte's halves
abbrev twice : ℕ → ℤ
twice n = doubled (half_weight (n / 16)) (half_weight (n % 16))

module _ (n : ℕ) (small : n < 256) (a b : ℤ) (first : a ≡ half_weight (n / 16)) (second : b ≡ half_weight (n % 16)) where
  rising : lt_z (doubled a b) (pos 0) ≡ true → nat_abs (raised (doubled a b)) ≡ weight_of n
  unfolding weight_of folded half_weight bit_weight pick
  rising e =
      let d = rw (first, second) at e in
      rw (first, second)
      (eqb→eq _ (weight_of n) (below_on true (λ n. lt_z (twice n) (pos 0)) (λ n. eqb (nat_abs (raised (twice n))) (weight_of n)) 256 tt n small d))

  other : lt_z (doubled a b) (pos 0) ≡ false → nat_abs (doubled a b) ≡ weight_of n
  unfolding weight_of folded half_weight bit_weight pick
  other e =
      let d = rw (first, second) at e in
      rw (first, second)
      (eqb→eq _ (weight_of n) (below_on false (λ n. lt_z (twice n) (pos 0)) (λ n. eqb (nat_abs (twice n)) (weight_of n)) 256 tt n small d))

pub returns-then-w-lt0 : goal.returns-then-w-lt0
returns-then-w-lt0 c = rising c.args.sample (omega arith) _ _ c.half_weight-first.ensures.value c.half_weight-second.ensures.value c.if-w-lt0.true

pub returns-else-w-lt0 : goal.returns-else-w-lt0
returns-else-w-lt0 c = other c.args.sample (omega arith) _ _ c.half_weight-first.ensures.value c.half_weight-second.ensures.value c.if-w-lt0.false
