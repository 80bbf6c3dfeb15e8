-- A rising bit weighs odd, and any other even: a test that antt computes at all 256 bytes. Assumes nothing.
use mathlib.Core.Bool.{true, false}
use mathlib.Core.Path.{◌≡◌, refl}
use Prim.Native.Nat.{◌%◌}
use lib.Dec.{eqb, eqb→eq}
use Rattle.laws.specs.Bit.{bit}
use Rattle.laws.specs.Pick.{pick}
use Rattle.laws.proofs.Below.{below}
use Rattle.weight.specs.Weight.{weight_of, folded, half_weight, bit_weight}
use Rattle.weight.specs.Rising.{rises, RisingIsOdd}

pub rising_is_odd : RisingIsOdd
unfolding weight_of folded half_weight bit_weight pick
rising_is_odd byte h = eqb→eq (weight_of byte % 2) (bit (rises byte)) (below (λ n. eqb (weight_of n % 2) (bit (rises n))) 256 tt byte h)

-- four low ticks and four high rise; turned round they fall, and eight high ones are flat
pub low_then_high : rises 0x0F ≡ true
unfolding half_weight bit_weight pick
low_then_high = refl

pub high_then_low : rises 0xF0 ≡ false
unfolding half_weight bit_weight pick
high_then_low = refl

pub flat : rises 0xFF ≡ false
unfolding half_weight bit_weight pick
flat = refl
