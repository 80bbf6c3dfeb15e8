-- No line is longer than its room, and what waits stays within it. Assumes nothing.
use Prim.Native.Nat.{ℕ, zero, suc, ◌-◌, ◌≤◌}
use native.Mathlib.Omega.{arith}
use mathlib.Core.List.{List, [], ◌∷◌}
use mathlib.Core.Path.{◌≡◌, refl, ◌∙◌}
use lib.Dec.{eqb}
use lib.ListN.{length, get_or, take, length-take}
use lib.Seq.{length-sets}
use Rattle.laws.proofs.Picked.{cases}
use Rattle.text.specs.Letters.{lf}
use Rattle.text.specs.Fields.{fields_at}
use Rattle.lines.specs.declared.Lines.{Lines}
use Rattle.lines.specs.Lines.{line_room, waiting, extended, emptied}
use Rattle.lines.specs.Chunk.{ended_parts, after_parts, ended, after}
use Rattle.lines.specs.AnyChunks.{last_of}

-- ---- one line
pub kept_within : (lines : Lines) (bytes : List ℕ) → lines.len ≤ line_room → (extended lines bytes).len ≤ line_room
unfolding extended
kept_within lines bytes h = omega arith

pub kept_held : (lines : Lines) (bytes : List ℕ) → length (extended lines bytes).held ≡ length lines.held
unfolding extended
kept_held lines bytes = length-sets lines.held lines.len (take (line_room - lines.len) bytes)

pub waiting_within : (lines : Lines) → lines.len ≤ line_room → length (waiting lines) ≤ line_room
waiting_within lines h = omega (arith, length-take lines.len lines.held)

-- ---- the lines of a chunk
-- each of these lines has room
abbrev pub Short : List (List ℕ) → Type 0
Short lines = (i : ℕ) → length (get_or lines i []) ≤ line_room

none_short : Short []
none_short i = omega arith

one_short : (line : List ℕ) (lines : List (List ℕ)) → length line ≤ line_room → Short lines → Short (line ∷ lines)
one_short line lines h s zero = h
one_short line lines h s (suc i) = s i

parts_short : (parts : List (List ℕ)) (lines : Lines) → lines.len ≤ line_room → Short (ended_parts lines parts)
unfolding ended_parts
parts_short [] lines h = none_short
parts_short (part ∷ []) lines h = none_short
parts_short (part ∷ next ∷ rest) lines h =
    one_short (waiting (extended lines part)) (ended_parts (emptied (extended lines part)) (next ∷ rest)) (waiting_within (extended lines part) (kept_within lines part h)) (parts_short (next ∷ rest) (emptied (extended lines part)) (omega arith))

parts_within : (parts : List (List ℕ)) (lines : Lines) → lines.len ≤ line_room → (after_parts lines parts).len ≤ line_room
unfolding after_parts
parts_within [] lines h = h
parts_within (part ∷ []) lines h = kept_within lines part h
parts_within (part ∷ next ∷ rest) lines h = parts_within (next ∷ rest) (emptied (extended lines part)) (omega arith)

parts_held : (parts : List (List ℕ)) (lines : Lines) → length (after_parts lines parts).held ≡ length lines.held
unfolding after_parts
parts_held [] lines = refl
parts_held (part ∷ []) lines = kept_held lines part
parts_held (part ∷ next ∷ rest) lines = parts_held (next ∷ rest) (emptied (extended lines part)) ∙ kept_held lines part

module _ (lines : Lines) where
  pub ended_short : lines.len ≤ line_room → (chunk : List ℕ) → Short (ended lines chunk)
  ended_short h chunk = parts_short (fields_at lf chunk) lines h

  pub last_short : lines.len ≤ line_room → Short (last_of lines)
  unfolding last_of
  last_short h = cases Short (eqb lines.len 0) (λ e. none_short) (λ e. one_short (waiting lines) [] (waiting_within lines h) none_short)

  pub after_within : lines.len ≤ line_room → (chunk : List ℕ) → (after lines chunk).len ≤ line_room
  after_within h chunk = parts_within (fields_at lf chunk) lines h

  pub after_held : (chunk : List ℕ) → length (after lines chunk).held ≡ length lines.held
  after_held chunk = parts_held (fields_at lf chunk) lines
