-- Laws of the parts of a text, for any mark. Assumes nothing.
use Prim.Native.Nat.{ℕ, suc, ◌+◌, ◌-◌, ◌≤◌, ◌<◌}
use native.Mathlib.Decide.{dec_lt}
use native.Mathlib.Numerals.{add-one}
use native.Mathlib.Omega.{arith}
use mathlib.Core.Bool.{Bool, true, false}
use mathlib.Core.List.{List, [], ◌∷◌, ◌++◌}
use mathlib.Core.Path.{◌≡◌, refl, sym, ap, ◌∙◌}
use lib.Dec.{eqb, ltb}
use Rattle.std.specs.Prelude.{min, position, Option, Some, None, cond, count_by, option_map, unwrap_or}
use Rattle.std.specs.List.{position_or_len, slice_get, slice_split, onto_first}
use Rattle.std.proofs.lemmas.List.Recursion.{is_position_or_len}
use Rattle.std.proofs.lemmas.List.Splits.{length-slice_split}
use Rattle.std.proofs.lemmas.Option.{unwrap_or-slice_get}
use lib.ListN.{length, take, drop, length-drop, drop_of_length-le}
use lib.Seq.{drop-drop, take_all}
use borrow.Author.Tests.{eq-eqb, ltb-false}
use Rattle.laws.specs.Pick.{pick}
use Rattle.text.specs.Fields.{grow, parted_at, fields_at, count_at, field_at, bytes_before, joined_by}
use Rattle.text.specs.ReadBack.{Without, FieldsBack}

-- all that is left of a text
pub rest : (l : List ℕ) (k : ℕ) → take (length l - k) (drop k l) ≡ drop k l
rest l k = take_all (length l - k) (drop k l) (simp length-drop (omega arith))

-- ---- the first mark
-- nothing is left behind the end
module _ (mark : ℕ) (l : List ℕ) (i : ℕ) where
  pub mark_end : length l ≤ i → bytes_before mark (drop i l) ≡ 0
  unfolding bytes_before
  mark_end h = rw drop_of_length-le

before_step : (t : Bool) (k n : ℕ) → k ≤ n → pick t 0 (suc k) ≤ suc n
unfolding pick
before_step true k n h = omega arith
before_step false k n h = omega arith

pub before-≤ : (mark : ℕ) (l : List ℕ) → bytes_before mark l ≤ length l
unfolding bytes_before
before-≤ mark [] = omega arith
before-≤ mark (x ∷ xs) = before_step (eqb x mark) (bytes_before mark xs) (length xs) (before-≤ mark xs)

-- the place that `position` finds, or the length
before_none : (mark : ℕ) → bytes_before mark [] ≡ 0
unfolding bytes_before
before_none mark = refl

pick_cond : {A : Type 0} (t : Bool) {x y u v : A} → x ≡ u → y ≡ v → pick t x y ≡ cond t u v
unfolding pick
pick_cond true e f = e
pick_cond false e f = f

before_next : (mark byte : ℕ) (bytes : List ℕ) → bytes_before mark (byte ∷ bytes) ≡ cond (eqb byte mark) 0 (1 + bytes_before mark bytes)
unfolding bytes_before
before_next mark byte bytes = pick_cond (eqb byte mark) refl (omega arith)

unwrapped : (t : Bool) (k n : ℕ) → ltb k n ≡ t → k ≤ n → unwrap_or (cond t (Some k) None) n ≡ k
unwrapped true k n e h = refl
unwrapped false k n e h = omega (arith, ltb-false k n e)

module _ (mark : ℕ) (l : List ℕ) where
  before_is : bytes_before mark l ≡ position_or_len (λ byte. eqb byte mark) l
  before_is = is_position_or_len (bytes_before mark) (λ byte. eqb byte mark) (before_none mark) (before_next mark) l

  found : unwrap_or (position (λ byte. eqb byte mark) l) (length l) ≡ bytes_before mark l
  found =
      let k = position_or_len (λ byte. eqb byte mark) l in
      unwrapped (ltb k (length l)) k (length l) refl (omega (arith, before_is, before-≤ mark l)) ∙ sym before_is

-- all that is left from a place on, which may lie behind the end
left_from : (l : List ℕ) (from least : ℕ) → least ≡ min from (length l) → take (length l - least) (drop least l) ≡ drop from l
left_from l from least e = rest l least ∙ split (dec_lt from (length l))
  where
    split : Dec (from < length l) → drop least l ≡ drop from l
    split (yes within) = let k : least ≡ from = omega arith in rw k
    split (no behind) = drop_of_length-le l {i = least} (omega arith) ∙ sym (drop_of_length-le l {i = from} (omega arith))

pub first_mark : (mark : ℕ) (l : List ℕ) (from least : ℕ) → least ≡ min from (length l) → {place : Option ℕ} {bytes : ℕ}
    → place ≡ position (λ byte. eqb byte mark) (take (length l - least) (drop least l)) → bytes ≡ unwrap_or place (length (take (length l - least) (drop least l)))
    → bytes ≡ bytes_before mark (drop from l)
first_mark mark l from least e p b = b ∙ rw (p, left_from l from least e) (found mark (drop from l))

-- ---- the fields are the parts that `split` gives
split_step : (t : Bool) (x : ℕ) {parts fields : List (List ℕ)} → parts ≡ fields → cond t ([] ∷ parts) (onto_first x parts) ≡ pick t ([] ∷ fields) (grow x fields)
unfolding pick grow
split_step true x e = rw e
split_step false x {fields = []} e = rw e
split_step false x {fields = field ∷ fields} e = rw e

split_fields : (mark : ℕ) (l : List ℕ) → slice_split (λ byte. eqb byte mark) l ≡ fields_at mark l
unfolding parted_at
split_fields mark [] = refl
split_fields mark (x ∷ xs) = split_step (eqb x mark) x (split_fields mark xs)

pub count_marks : (mark : ℕ) (l : List ℕ) → count_by (λ byte. eqb byte mark) l + 1 ≡ count_at mark l
count_marks mark l = sym (length-slice_split (λ byte. eqb byte mark) l) ∙ ap length (split_fields mark l)

or_none : {A B : Type 0} (v : A → B) (found : Option A) (none : A) → v (unwrap_or found none) ≡ unwrap_or (option_map v found) (v none)
or_none v None none = refl
or_none v (Some a) none = refl

-- a field that `nth` found or, if none is there, an empty one
pub nth_field : (mark n : ℕ) (l : List ℕ) {A : Type 0} (v : A → List ℕ) (found : Option A) {none r : A}
    → option_map v found ≡ slice_get (slice_split (λ byte. eqb byte mark) l) n → r ≡ unwrap_or found none → v none ≡ [] → v r ≡ field_at mark n l
nth_field mark n l v found {none} e f empty =
    ap v f ∙ or_none v found none ∙ rw (e, empty, split_fields mark l) (unwrap_or-slice_get (fields_at mark l) n [])

-- ---- the parts, whatever a text without a byte has of them
module _ (mark : ℕ) (none : List (List ℕ)) where
  cut_step : (x : ℕ) (xs : List ℕ) (t : Bool) → eqb x mark ≡ t
      → (bytes_before mark xs < length xs → parted_at mark none xs ≡ take (bytes_before mark xs) xs ∷ parted_at mark none (drop (suc (bytes_before mark xs)) xs))
      → bytes_before mark (x ∷ xs) < length (x ∷ xs)
      → parted_at mark none (x ∷ xs) ≡ take (bytes_before mark (x ∷ xs)) (x ∷ xs) ∷ parted_at mark none (drop (suc (bytes_before mark (x ∷ xs))) (x ∷ xs))
  unfolding bytes_before parted_at grow pick
  cut_step x xs true e ih h = rw e
  cut_step x xs false e ih h = let k : suc (bytes_before mark xs) < suc (length xs) = rw e at h in rw (e, ih (omega arith))

  cut : (l : List ℕ) → bytes_before mark l < length l → parted_at mark none l ≡ take (bytes_before mark l) l ∷ parted_at mark none (drop (suc (bytes_before mark l)) l)
  cut [] h = absurd (omega (arith, h))
  cut (x ∷ xs) h = cut_step x xs (eqb x mark) refl (cut xs) h

  -- where a mark stands behind k bytes, they are the first part, and the others are those of what stands behind it
  pub parts_cut : (l : List ℕ) {k : ℕ} → k ≡ bytes_before mark l → k < length l → parted_at mark none l ≡ take k l ∷ parted_at mark none (drop (k + 1) l)
  parts_cut l {k} e h = rw (e, add-one (bytes_before mark l)) (cut l (omega arith))

  all_step : (x : ℕ) (xs : List ℕ) (t : Bool) → eqb x mark ≡ t → length (x ∷ xs) ≤ bytes_before mark (x ∷ xs)
      → (parted_at mark none (x ∷ xs) ≡ grow x (parted_at mark none xs)) × (length xs ≤ bytes_before mark xs)
  unfolding bytes_before parted_at pick
  all_step x xs true e h = let k : suc (length xs) ≤ 0 = rw e at h in absurd (omega (arith, k))
  all_step x xs false e h = let k : suc (length xs) ≤ suc (bytes_before mark xs) = rw e at h in (rw e, omega arith)

  -- where no mark stands, a text with a byte is the one part
  module _ (lone : (x : ℕ) → grow x none ≡ (x ∷ []) ∷ []) where
    all : (x : ℕ) (xs : List ℕ) → length (x ∷ xs) ≤ bytes_before mark (x ∷ xs) → parted_at mark none (x ∷ xs) ≡ (x ∷ xs) ∷ []
    unfolding parted_at grow
    all x [] h = (all_step x [] (eqb x mark) refl h).0 ∙ lone x
    all x (y ∷ ys) h = let on = all_step x (y ∷ ys) (eqb x mark) refl h in on.0 ∙ ap (grow x) (all y ys on.1)

-- ---- fields
module _ (mark : ℕ) where
  -- a text without a mark is its only field
  pub fields_last : (l : List ℕ) → length l ≤ bytes_before mark l → fields_at mark l ≡ l ∷ []
  unfolding parted_at grow
  fields_last [] h = refl
  fields_last (x ∷ xs) h = all mark ([] ∷ []) (λ y. refl) x xs h

  pub fields_cut : (l : List ℕ) {k : ℕ} → k ≡ bytes_before mark l → k < length l → fields_at mark l ≡ take k l ∷ fields_at mark (drop (k + 1) l)
  fields_cut l e h = parts_cut mark ([] ∷ []) l e h

  some_step : (t : Bool) (x : ℕ) (fs : List (List ℕ)) → 0 < length (pick t ([] ∷ fs) (grow x fs))
  unfolding grow pick
  some_step true x fs = omega arith
  some_step false x [] = omega arith
  some_step false x (f ∷ fs) = omega arith

  -- every text has a field
  pub fields_some : (l : List ℕ) → 0 < count_at mark l
  unfolding parted_at
  fields_some [] = omega arith
  fields_some (x ∷ xs) = some_step (eqb x mark) x (fields_at mark xs)

  -- what is left of a text from a place on: r is the next mark, or the length
  module _ (l : List ℕ) (from r : ℕ) (e : r ≡ from + bytes_before mark (drop from l)) where
    pub found-≤ : from ≤ length l → r ≤ length l
    found-≤ h = omega (arith, e, before-≤ mark (drop from l), length-drop from l)

    count_before : r - from ≡ bytes_before mark (drop from l)
    count_before = omega arith

    pub cut_at : (none : List (List ℕ)) → r < length l → parted_at mark none (drop from l) ≡ take (r - from) (drop from l) ∷ parted_at mark none (drop (r + 1) l)
    cut_at none h =
        let past : from + (r - from + 1) ≡ r + 1 = omega arith in
        parts_cut mark none (drop from l) count_before (simp length-drop (omega arith))
        ∙ ap (λ (rest : List ℕ). take (r - from) (drop from l) ∷ parted_at mark none rest) (drop-drop (r - from + 1) from l ∙ ap (λ (j : ℕ). drop j l) past)

    pub last_at : length l ≤ r → fields_at mark (drop from l) ≡ drop from l ∷ []
    last_at h = fields_last (drop from l) (simp length-drop (omega arith))

-- ---- parts that end with their marks: a text without a byte has none
module _ (mark : ℕ) where
  pub ended_last : (l : List ℕ) → 0 < length l → length l ≤ bytes_before mark l → parted_at mark [] l ≡ l ∷ []
  unfolding grow
  ended_last [] some h = absurd (omega (arith, some))
  ended_last (x ∷ xs) some h = all mark [] (λ y. refl) x xs h

  pub ended_none : (l : List ℕ) → length l ≡ 0 → parted_at mark [] l ≡ []
  unfolding parted_at
  ended_none [] h = refl
  ended_none (x ∷ xs) h = absurd (omega (arith, h))

  -- the first part and the others, whether a mark ends it or not
  pub ended_at : (l : List ℕ) (from r : ℕ) → r ≡ from + bytes_before mark (drop from l) → from < length l
      → parted_at mark [] (drop from l) ≡ take (r - from) (drop from l) ∷ parted_at mark [] (drop (r + 1) l)
  ended_at l from r e h = split (dec_lt r (length l))
    where
      split : Dec (r < length l) → parted_at mark [] (drop from l) ≡ take (r - from) (drop from l) ∷ parted_at mark [] (drop (r + 1) l)
      split (yes cut_off) = cut_at mark l from r e [] cut_off
      split (no all_left) =
          let none : length (drop (r + 1) l) ≡ 0 = simp length-drop (omega arith) in
          ended_last (drop from l) (simp length-drop (omega arith)) (simp length-drop (omega arith))
          ∙ rw (take_all (r - from) (drop from l) (simp length-drop (omega arith)), ended_none (drop (r + 1) l) none)

-- ---- fields that were joined
without_tail : (mark x : ℕ) (xs : List ℕ) → Without mark (x ∷ xs) → Without mark xs
without_tail mark x xs w i h = w (suc i) (omega arith)

module _ (mark : ℕ) where
  joined_one : (f : List ℕ) → Without mark f → bytes_before mark f ≡ length f
  unfolding bytes_before pick
  joined_one [] w = refl
  joined_one (x ∷ xs) w = rw (w 0 (omega arith)) (ap suc (joined_one xs (without_tail mark x xs w)))

  joined_more : (f more : List ℕ) → Without mark f → fields_at mark (f ++ (mark ∷ more)) ≡ f ∷ fields_at mark more
  unfolding parted_at pick grow
  joined_more [] more w = rw (eq-eqb mark mark refl)
  joined_more (x ∷ xs) more w = rw (w 0 (omega arith), joined_more xs more (without_tail mark x xs w))

pub fields_back : FieldsBack
unfolding joined_by
fields_back mark f [] w = fields_last mark f (omega (arith, joined_one mark f (w 0)))
fields_back mark f (g ∷ gs) w = joined_more mark f (joined_by mark (g ∷ gs)) (w 0) ∙ ap (λ (fs : List (List ℕ)). f ∷ fs) (fields_back mark g gs (λ i. w (suc i)))
