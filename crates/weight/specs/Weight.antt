-- Document 01, "Weights and phases": the weight of a byte. Assumes nothing.
use Rattle.std.specs.Prelude.{ℕ, suc, ◌+◌, ◌/◌, ◌%◌, ◌^◌, ℤ, pos, negsuc, neg_ℤ, ◌+ℤ◌, ◌-ℤ◌, ◌*ℤ◌, eqb}
use Rattle.laws.specs.Pick.{pick}

-- A high tick counts plus its weight, a low tick minus its weight. Bit 0 is the last tick.
unfoldable pub bit_weight : ℕ → ℕ → ℤ → ℤ
bit_weight byte bit weight = pick (eqb (byte / 2 ^ bit % 2) 1) weight (neg_ℤ weight)

-- A half is the sum of its four ticks. The two in the middle weigh double.
unfoldable pub half_weight : ℕ → ℤ
half_weight half = bit_weight half 3 (pos 1) +ℤ bit_weight half 2 (pos 2) +ℤ bit_weight half 1 (pos 2) +ℤ bit_weight half 0 (pos 1)

-- The magnitude of a number, plus one if the number is negative. That makes a negative even number odd.
unfoldable pub folded : ℤ → ℕ
folded (pos n) = n
folded (negsuc n) = suc n + 1

-- A byte weighs twice the difference between its first half and its second. The result is odd for a rising bit, even for a falling or flat one.
unfoldable pub weight_of : ℕ → ℕ
weight_of byte = folded (pos 2 *ℤ (half_weight (byte / 16) -ℤ half_weight (byte % 16)))
