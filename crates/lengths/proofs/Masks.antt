-- The constants are the sets that they name. Assumes nothing.
use mathlib.Core.Path.{◌≡◌, refl}
use mathlib.Core.List.{[], ◌∷◌}
use Rattle.laws.specs.Pick.{pick}
use Rattle.lengths.specs.Lengths.{mask, set_of, with_lengths, with_length, sniffed_lengths, backward_lengths, HoldsJust}
use Rattle.lengths.proofs.Member.{member}

pub sniffed_mask : mask 0x01010100 ≡ sniffed_lengths
unfolding sniffed_lengths set_of with_lengths with_length pick
sniffed_mask = refl

pub backward_mask : mask 0x00000100 ≡ backward_lengths
unfolding backward_lengths set_of with_lengths with_length pick
backward_mask = refl

pub sniffed_just : HoldsJust (mask 0x01010100) (8 ∷ 16 ∷ 24 ∷ [])
unfolding sniffed_lengths
sniffed_just = rw sniffed_mask (member (8 ∷ 16 ∷ 24 ∷ []))

pub backward_just : HoldsJust (mask 0x00000100) (8 ∷ [])
unfolding backward_lengths
backward_just = rw backward_mask (member (8 ∷ []))
