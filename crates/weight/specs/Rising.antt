-- Document 01, "Weights and phases", as a statement: which weights are odd. Assumes nothing.
use Rattle.std.specs.Prelude.{ℕ, ◌/◌, ◌%◌, ◌<◌, Bool, ◌≡◌}
use Rattle.std.specs.Int.Signed.{lt_z}
use Rattle.laws.specs.Bit.{bit}
use Rattle.weight.specs.Weight.{half_weight, weight_of}

-- A bit rises if its second half weighs more than its first. It falls if the second half weighs less, and is flat if both weigh the same.
abbrev pub rises : ℕ → Bool
rises byte = lt_z (half_weight (byte / 16)) (half_weight (byte % 16))

-- Every rising bit weighs odd. Every falling or flat bit weighs even.
abbrev pub RisingIsOdd : Type 0
RisingIsOdd = (byte : ℕ) → byte < 256 → weight_of byte % 2 ≡ bit (rises byte)
