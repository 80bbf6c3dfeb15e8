-- Laws of what waits: bytes that are added to it, and what `take` leaves. Assumes nothing.
use Prim.Native.Nat.{ℕ, suc, ◌+◌, ◌-◌, ◌≤◌, ◌<◌, min}
use native.Mathlib.Decide.{dec_lt}
use native.Mathlib.Numerals.{add-one}
use native.Mathlib.Omega.{arith}
use mathlib.Core.Bool.{Bool, false}
use mathlib.Core.List.{List, [], ◌∷◌}
use mathlib.Core.Path.{◌≡◌, sym, ap, ◌∙◌}
use lib.ListN.{length, take, drop, set, length-drop, length-take}
use lib.Seq.{sets, take-nil}
use borrow.Author.Tests.{le-ltb, lt-leb}
use Rattle.laws.specs.Bit.{bit}
use Rattle.text.specs.Letters.{lf}
use Rattle.text.specs.Fields.{bytes_before}
use Rattle.text.specs.Writing.{place_past, buffer_with}
use Rattle.text.proofs.FieldLaws.{mark_end}
use Rattle.text.proofs.WritingLaws.{place_stays, buffer_stays, stored}
use Rattle.lines.specs.declared.Lines.{Lines}
use Rattle.lines.specs.Lines.{line_room, held_by, extended, part_from, ends_from, taken}

pub same : {held other : List ℕ} {len count : ℕ} → held ≡ other → len ≡ count → held_by held len ≡ held_by other count
same e f = rw (e, f)

-- ---- bytes that are added
pub kept_none : (lines : Lines) → extended lines [] ≡ lines
unfolding extended
kept_none lines = same (rw take-nil) (omega arith)

pub kept_full : (lines : Lines) (bytes : List ℕ) → line_room ≤ lines.len → extended lines bytes ≡ lines
unfolding extended
kept_full lines bytes h =
    let none : line_room - lines.len ≡ 0 = omega arith in
    same (rw none) (omega arith)

-- one byte, where there is room
pub kept_one : (lines : Lines) (byte : ℕ) → lines.len < line_room → extended lines (byte ∷ []) ≡ held_by (set lines.held lines.len byte) (lines.len + 1)
unfolding extended
kept_one lines byte h =
    let some : line_room - lines.len ≡ suc (line_room - lines.len - 1) = omega arith in
    same (rw some (ap (λ (l : List ℕ). sets lines.held lines.len (byte ∷ l)) (take-nil (line_room - lines.len - 1)))) (omega arith)

-- one byte, and then the others
pub kept_byte : (lines : Lines) (byte : ℕ) (bytes : List ℕ) → extended (extended lines (byte ∷ [])) bytes ≡ extended lines (byte ∷ bytes)
unfolding extended
kept_byte lines byte bytes = split (dec_lt lines.len line_room)
  where
    split : Dec (lines.len < line_room) → extended (extended lines (byte ∷ [])) bytes ≡ extended lines (byte ∷ bytes)
    split (yes h) =
        let some : line_room - lines.len ≡ suc (line_room - (lines.len + 1)) = omega arith in
        ap (λ (l : Lines). extended l bytes) (kept_one lines byte h) ∙ same (rw (some, add-one lines.len)) (omega arith)
    split (no h) = ap (λ (l : Lines). extended l bytes) (kept_full lines (byte ∷ []) (omega arith)) ∙ kept_full lines bytes (omega arith) ∙ sym (kept_full lines (byte ∷ bytes) (omega arith))

-- as many bytes as there is room for have room
pub kept_put : (lines : Lines) (bytes : List ℕ) → length lines.held ≡ line_room → {text : List ℕ} → text ≡ take (line_room - lines.len) bytes
    → {count : ℕ} {after : List ℕ} → count ≡ place_past text lines.len lines.held → after ≡ buffer_with text lines.len lines.held
    → held_by after count ≡ extended lines bytes
unfolding extended
kept_put lines bytes whole {text} t {count} {after} p b = split (dec_lt line_room lines.len)
  where
    size : length text ≡ min (line_room - lines.len) (length bytes)
    size = ap length t ∙ length-take (line_room - lines.len) bytes

    split : Dec (line_room < lines.len) → held_by after count ≡ extended lines bytes
    split (yes over) =
        let none = lt-leb (lines.len + length text) (length lines.held) (omega arith) in
        same (b ∙ buffer_stays _ text lines.len lines.held none) (p ∙ place_stays _ text lines.len lines.held none)
        ∙ sym (kept_full lines bytes (omega arith))
    split (no within) =
        let put = stored (length text) text lines.len lines.held (omega (arith, size)) (p, b) in
        same (put.1 ∙ ap (sets lines.held lines.len) t) (omega (arith, put.0, size))

-- ---- what `take` leaves
module _ (chunk : List ℕ) (from : ℕ) where
  -- a part was kept; t tells whether an LF stood behind it
  pub part_taken : {end next : ℕ} (t : Bool) → ends_from chunk from ≡ t → end ≡ from + bytes_before lf (drop from chunk) → next ≡ end + bit t
      → (record { next = next; ended = t } ≡ taken chunk from) × (take (end - from) (drop from chunk) ≡ part_from chunk from)
  unfolding taken
  part_taken {end} t e f n = let size : end - from ≡ bytes_before lf (drop from chunk) = omega arith in (rw (e, n, f), rw size)

  -- nothing was left of the chunk
  pub none_taken : length chunk ≤ from → (record { next = from; ended = false } ≡ taken chunk from) × ((lines : Lines) → lines ≡ extended lines (part_from chunk from))
  none_taken h =
      let before = mark_end lf chunk from h in
      let over = le-ltb (bytes_before lf (drop from chunk)) (length (drop from chunk)) (simp length-drop (omega arith)) in
      ((part_taken {end = from} false over (omega arith) (omega arith)).0, λ lines. rw before (sym (kept_none lines)))
