-- Fields, words and writing at work on short texts, by computing; and fields read back there, by the law. Assumes nothing.
use Prim.Native.Nat.{ℕ, zero, suc}
use native.Mathlib.Omega.{arith}
use mathlib.Core.List.{[], ◌∷◌}
use mathlib.Core.Path.{◌≡◌, refl}
use lib.ListN.{get_or}
use Rattle.laws.specs.Pick.{pick}
use Rattle.text.specs.Letters.{word, lf, space}
use Rattle.text.specs.Fields.{grow, parted_at, fields_at, count_at, field_at, bytes_before, joined_by}
use Rattle.text.specs.Words.{words_of, place_among}
use Rattle.text.specs.Writing.{place_after, buffer_after, place_past, buffer_with}
use Rattle.text.specs.ReadBack.{Without}
use Rattle.text.proofs.FieldLaws.{fields_back}

-- ---- fields
pub third : field_at space 2 (word "lpolicy 2 off") ≡ word "off"
unfolding parted_at grow pick
third = refl

pub no_fourth : field_at space 3 (word "lpolicy 2 off") ≡ []
unfolding parted_at grow pick
no_fourth = refl

-- a mark at the end has an empty field behind it, and two side by side have one between them
pub empty_fields : fields_at space (word "a  b ") ≡ word "a" ∷ [] ∷ word "b" ∷ [] ∷ []
unfolding parted_at grow pick
empty_fields = refl

pub one_field : count_at space [] ≡ 1
unfolding parted_at
one_field = refl

-- as lines, a last LF has nothing behind it
pub no_empty_line : parted_at lf [] (word "a\n\nb\n") ≡ word "a" ∷ [] ∷ word "b" ∷ []
unfolding parted_at grow pick
no_empty_line = refl

pub no_mark : bytes_before space (word "off") ≡ 3
unfolding bytes_before pick
no_mark = refl

pub joined : joined_by space (word "a" ∷ [] ∷ word "b" ∷ []) ≡ word "a  b"
unfolding joined_by
joined = refl

-- what the law of reading back asks for can be met
no_space : (i : ℕ) → Without space (get_or (word "a" ∷ word "b" ∷ []) i [])
no_space zero zero h = refl
no_space zero (suc j) h = absurd (omega (arith, h))
no_space (suc zero) zero h = refl
no_space (suc zero) (suc j) h = absurd (omega (arith, h))
no_space (suc (suc i)) j h = absurd (omega (arith, h))

pub two_fields_back : fields_at space (joined_by space (word "a" ∷ word "b" ∷ [])) ≡ word "a" ∷ word "b" ∷ []
two_fields_back = fields_back space (word "a") (word "b" ∷ []) no_space

-- ---- words
pub second_word : place_among (word "off") (words_of (word "auto off on")) ≡ 1
unfolding place_among parted_at grow pick
second_word = refl

pub no_word : place_among (word "o") (words_of (word "auto off on")) ≡ 3
unfolding place_among parted_at grow pick
no_word = refl

-- ---- writing
pub just_fits : buffer_with (word "on") 1 (0 ∷ 0 ∷ 0 ∷ []) ≡ 0 ∷ word "on"
unfolding buffer_after pick
just_fits = refl

pub no_room : buffer_with (word "on") 2 (0 ∷ 0 ∷ 0 ∷ []) ≡ 0 ∷ 0 ∷ 0 ∷ []
unfolding buffer_after pick
no_room = refl

pub stays : place_past (word "on") 2 (0 ∷ 0 ∷ 0 ∷ []) ≡ 2
unfolding place_after pick
stays = refl
