-- A chunk, one line at a time: what a loop over `take` needs. Assumes nothing.
use Prim.Native.Nat.{ℕ, ◌+◌, ◌-◌, ◌≤◌, ◌<◌}
use native.Mathlib.Omega.{arith}
use mathlib.Core.Bool.{Bool, true, false}
use mathlib.Core.List.{List, [], ◌∷◌}
use mathlib.Core.Path.{◌≡◌, refl, ap, ◌∙◌}
use lib.ListN.{length, drop, length-drop}
use lib.Seq.{take_all}
use borrow.Author.Tests.{ltb-true, ltb-false}
use Rattle.laws.specs.Bit.{bit}
use Rattle.text.specs.Letters.{lf}
use Rattle.text.specs.Fields.{bytes_before, parted_at, fields_at}
use Rattle.text.proofs.FieldLaws.{before-≤, cut_at, fields_last, fields_some}
use Rattle.lines.specs.declared.Lines.{Lines}
use Rattle.lines.specs.Lines.{waiting, extended, emptied, part_from, ends_from, taken}
use Rattle.lines.specs.Chunk.{ended_parts, after_parts, ended, after}
use Rattle.lines.proofs.Kept.{kept_none}

-- ---- a part that an LF ends, and one that waits
module _ (lines : Lines) (part : List ℕ) where
  pub part_ends : (rest : List (List ℕ)) → 0 < length rest
      → ended_parts lines (part ∷ rest) ≡ waiting (extended lines part) ∷ ended_parts (emptied (extended lines part)) rest
  unfolding ended_parts
  part_ends [] h = absurd (omega (arith, h))
  part_ends (next ∷ rest) h = refl

  pub part_passes : (rest : List (List ℕ)) → 0 < length rest → after_parts lines (part ∷ rest) ≡ after_parts (emptied (extended lines part)) rest
  unfolding after_parts
  part_passes [] h = absurd (omega (arith, h))
  part_passes (next ∷ rest) h = refl

-- ---- nothing is left of the chunk
pub none_ends : (lines : Lines) → ended lines [] ≡ []
unfolding ended_parts parted_at
none_ends lines = refl

pub none_kept : (lines : Lines) → after lines [] ≡ lines
unfolding after_parts parted_at
none_kept lines = kept_none lines

-- ---- the place
module _ (chunk : List ℕ) (from : ℕ) where
  next_of : {t : Bool} → ends_from chunk from ≡ t → (taken chunk from).next ≡ from + bytes_before lf (drop from chunk) + bit t
  unfolding taken
  next_of e = rw e

  pub place_is_end : ends_from chunk from ≡ false → from ≤ length chunk → (taken chunk from).next ≡ length chunk
  place_is_end e h =
      let over = ltb-false (bytes_before lf (drop from chunk)) (length (drop from chunk)) e in
      omega (arith, next_of e, before-≤ lf (drop from chunk), length-drop from chunk)

  pub place_grows : from < length chunk → from < (taken chunk from).next
  place_grows h = split (ends_from chunk from) refl
    where
      split : (t : Bool) → ends_from chunk from ≡ t → from < (taken chunk from).next
      split true e = omega (arith, next_of e)
      split false e = omega (arith, place_is_end e (omega arith))

  pub place_within : from ≤ length chunk → (taken chunk from).next ≤ length chunk
  place_within h = split (ends_from chunk from) refl
    where
      split : (t : Bool) → ends_from chunk from ≡ t → (taken chunk from).next ≤ length chunk
      split true e =
          let within = ltb-true (bytes_before lf (drop from chunk)) (length (drop from chunk)) e in
          omega (arith, next_of e, length-drop from chunk)
      split false e = omega (arith, place_is_end e h)

module _ (lines : Lines) (chunk : List ℕ) (from : ℕ) where
  -- ---- a line ends
  cut : ends_from chunk from ≡ true → fields_at lf (drop from chunk) ≡ part_from chunk from ∷ fields_at lf (drop (taken chunk from).next chunk)
  cut e =
      let h = ltb-true (bytes_before lf (drop from chunk)) (length (drop from chunk)) e in
      let within : from + bytes_before lf (drop from chunk) < length chunk = omega (arith, length-drop from chunk) in
      let count : from + bytes_before lf (drop from chunk) - from ≡ bytes_before lf (drop from chunk) = omega arith in
      rw (next_of chunk from e) (rw count at (cut_at lf chunk from (from + bytes_before lf (drop from chunk)) refl ([] ∷ []) within))

  pub line_ends : ends_from chunk from ≡ true
      → ended lines (drop from chunk)
      ≡ waiting (extended lines (part_from chunk from)) ∷ ended (emptied (extended lines (part_from chunk from))) (drop (taken chunk from).next chunk)
  line_ends e = ap (ended_parts lines) (cut e) ∙ part_ends lines (part_from chunk from) _ (fields_some lf _)

  pub goes_on : ends_from chunk from ≡ true
      → after lines (drop from chunk) ≡ after (emptied (extended lines (part_from chunk from))) (drop (taken chunk from).next chunk)
  goes_on e = ap (after_parts lines) (cut e) ∙ part_passes lines (part_from chunk from) _ (fields_some lf _)

  -- ---- the chunk ends
  pub no_line_ends : ends_from chunk from ≡ false → ended lines (drop from chunk) ≡ []
  unfolding ended_parts
  no_line_ends e = ap (ended_parts lines) (fields_last lf (drop from chunk) (ltb-false (bytes_before lf (drop from chunk)) (length (drop from chunk)) e))

  pub rest_waits : ends_from chunk from ≡ false → after lines (drop from chunk) ≡ extended lines (part_from chunk from)
  unfolding after_parts
  rest_waits e =
      let h = ltb-false (bytes_before lf (drop from chunk)) (length (drop from chunk)) e in
      ap (after_parts lines) (fields_last lf (drop from chunk) h) ∙ rw (take_all (bytes_before lf (drop from chunk)) (drop from chunk) h)
