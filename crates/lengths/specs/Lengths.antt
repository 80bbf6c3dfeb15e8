-- Document 01, "Weights and phases": sets of preferred lengths. Assumes nothing.
use Rattle.std.specs.Prelude.{ℕ, ◌/◌, ◌%◌, ◌^◌, Bool, false, ◌≡◌, List, [], ◌∷◌, ltb, eqb}
use Rattle.std.specs.Int.Bits.{bit_or}
use Rattle.laws.specs.Pick.{pick}
use Rattle.lengths.specs.declared.BitLengths.{BitLengths}

-- A set is one number. Its bit n stands for the length n.
abbrev pub mask : ℕ → BitLengths
mask m = record { 0 = m }

-- The set holds the length n. No set holds a length of 32 or more.
unfoldable pub holds : BitLengths → ℕ → Bool
holds set n = pick (ltb n 32) (eqb (set.0 / 2 ^ n % 2) 1) false

-- The set with the length n added. A length of 32 or more adds nothing.
unfoldable pub with_length : BitLengths → ℕ → BitLengths
with_length set n = pick (ltb n 32) (mask (bit_or set.0 (2 ^ n))) set

-- the set with every length of a list added
unfoldable pub with_lengths : BitLengths → List ℕ → BitLengths
with_lengths set [] = set
with_lengths set (n ∷ ns) = with_lengths (with_length set n) ns

-- the set of the lengths in a list
unfoldable pub set_of : List ℕ → BitLengths
set_of ns = with_lengths (mask 0) ns

-- The sniffed reading prefers the lengths of the three frames.
unfoldable pub sniffed_lengths : BitLengths
sniffed_lengths = set_of (8 ∷ 16 ∷ 24 ∷ [])

-- The backward byte's search prefers 8 alone.
unfoldable pub backward_lengths : BitLengths
backward_lengths = set_of (8 ∷ [])

-- the length n is in the list, and is below 32
unfoldable pub listed : ℕ → List ℕ → Bool
listed n [] = false
listed n (k ∷ ks) = pick (eqb n k) (ltb n 32) (listed n ks)

-- The set holds the lengths of the list that are below 32, and no others.
abbrev pub HoldsJust : BitLengths → List ℕ → Type 0
HoldsJust set ns = (n : ℕ) → holds set n ≡ listed n ns
