-- Laws of texts that are the same, and of words. Assumes nothing.
use Prim.Native.Nat.{ℕ, suc, ◌+◌, ◌-◌, ◌≤◌, ◌<◌}
use mathlib.Core.Bool.{Bool, true, false}
use mathlib.Core.List.{List}
use mathlib.Core.Path.{◌≡◌, refl, sym, ap, ◌∙◌}
use lib.ListN.{length, take, drop, drop_of_length-le}
use Rattle.std.proofs.lemmas.Slice.Eq.{bytes_eq-Decides}
use Rattle.laws.specs.Pick.{pick}
use Rattle.laws.proofs.Picked.{on_true, on_false}
use Rattle.text.specs.Letters.{space}
use Rattle.text.specs.Fields.{parted_at, bytes_before}
use Rattle.text.specs.Words.{same_text, words_of, place_among}
use Rattle.text.specs.ReadBack.{WordsBack}
use Rattle.text.proofs.FieldLaws.{ended_at}

-- ---- the same text
pub same_itself : (word : List ℕ) → same_text word word ≡ true
same_itself word = (bytes_eq-Decides word word).1 refl

pub same_is : (field word : List ℕ) → same_text field word ≡ true → field ≡ word
same_is field word = (bytes_eq-Decides field word).0

pub words_back : WordsBack
words_back = (same_itself, same_is)

-- ---- the place of a word
-- a turn of the loop over the words: r is the next space, or the length
module _ (f l : List ℕ) (from r : ℕ) (h : from < length l) (e : r ≡ from + bytes_before space (drop from l)) {same : Bool} (s : same ≡ same_text f (take (r - from) (drop from l))) where
  among : place_among f (words_of (drop from l)) ≡ pick same 0 (suc (place_among f (words_of (drop (r + 1) l))))
  unfolding place_among
  among =
      ap (place_among f) (ended_at space l from r e h)
      ∙ ap (λ (t : Bool). pick t 0 (suc (place_among f (words_of (drop (r + 1) l))))) (sym s)

  pub place_here : same ≡ true → place_among f (words_of (drop from l)) ≡ 0
  place_here t = among ∙ on_true t _ _

  pub place_on : same ≡ false → place_among f (words_of (drop from l)) ≡ suc (place_among f (words_of (drop (r + 1) l)))
  place_on t = among ∙ on_false t _ _

pub place_end : (f l : List ℕ) (from : ℕ) → length l ≤ from → place_among f (words_of (drop from l)) ≡ 0
unfolding place_among parted_at
place_end f l from h = rw drop_of_length-le
