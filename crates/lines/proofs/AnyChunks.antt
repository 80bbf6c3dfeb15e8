-- The lines over any chunks are those of the whole input: a byte at a time. Assumes nothing.
use Prim.Native.Nat.{ℕ, ◌+◌, ◌<◌, ◌≤◌}
use native.Mathlib.Decide.{dec_lt}
use native.Mathlib.Numerals.{add-one}
use native.Mathlib.Omega.{arith}
use mathlib.Core.Bool.{Bool, true, false}
use mathlib.Core.List.{List, [], ◌∷◌, ◌++◌, append_assoc, append-nil}
use mathlib.Core.Path.{◌≡◌, refl, sym, ap, ◌∙◌}
use lib.Dec.{eqb}
use lib.ListN.{length, take, length-append, length-set, length-take, length-replicate}
use lib.Seq.{take_all, take-append-le, take-suc-set, append_snoc}
use borrow.Author.Tests.{eq-eqb, ne_eqb, eqb-true, eqb-false}
use Rattle.laws.proofs.Picked.{on_true, on_false}
use Rattle.text.specs.Letters.{lf}
use Rattle.text.specs.Fields.{grow, parted_at, fields_at}
use Rattle.text.proofs.FieldLaws.{fields_some}
use Rattle.lines.specs.declared.Lines.{Lines}
use Rattle.lines.specs.Lines.{lines_of, line_room, new_lines, waiting, extended, emptied}
use Rattle.lines.specs.Chunk.{ended_parts, after_parts, ended, after}
use Rattle.lines.specs.AnyChunks.{last_of, ended_over, joined, shortened, LinesOfAnyChunks}
use Rattle.lines.proofs.Kept.{kept_none, kept_full, kept_one, kept_byte}
use Rattle.lines.proofs.Steps.{part_ends, part_passes, none_ends, none_kept}

-- ---- a byte of a chunk
parted_end : (none : List (List ℕ)) (byte : ℕ) (bytes : List ℕ) → byte ≡ lf → parted_at lf none (byte ∷ bytes) ≡ [] ∷ parted_at lf none bytes
unfolding parted_at
parted_end none byte bytes e = on_true (eq-eqb byte lf e) _ _

parted_on : (none : List (List ℕ)) (byte : ℕ) (bytes : List ℕ) → (byte ≡ lf → ⊥) → parted_at lf none (byte ∷ bytes) ≡ grow byte (parted_at lf none bytes)
unfolding parted_at
parted_on none byte bytes n = on_false (ne_eqb byte lf n) _ _

module _ (lines : Lines) (byte : ℕ) where
  -- a byte in front of the first part
  ended_grown : (parts : List (List ℕ)) → ended_parts lines (grow byte parts) ≡ ended_parts (extended lines (byte ∷ [])) parts
  unfolding ended_parts grow
  ended_grown [] = refl
  ended_grown (part ∷ []) = refl
  ended_grown (part ∷ next ∷ rest) = ap (λ (l : Lines). waiting l ∷ ended_parts (emptied l) (next ∷ rest)) (sym (kept_byte lines byte part))

  after_grown : (parts : List (List ℕ)) → after_parts lines (grow byte parts) ≡ after_parts (extended lines (byte ∷ [])) parts
  unfolding after_parts grow
  after_grown [] = refl
  after_grown (part ∷ []) = sym (kept_byte lines byte part)
  after_grown (part ∷ next ∷ rest) = ap (λ (l : Lines). after_parts (emptied l) (next ∷ rest)) (sym (kept_byte lines byte part))

  module _ (bytes : List ℕ) where
    ended_on : (byte ≡ lf → ⊥) → ended lines (byte ∷ bytes) ≡ ended (extended lines (byte ∷ [])) bytes
    ended_on n = ap (ended_parts lines) (parted_on ([] ∷ []) byte bytes n) ∙ ended_grown (fields_at lf bytes)

    after_on : (byte ≡ lf → ⊥) → after lines (byte ∷ bytes) ≡ after (extended lines (byte ∷ [])) bytes
    after_on n = ap (after_parts lines) (parted_on ([] ∷ []) byte bytes n) ∙ after_grown (fields_at lf bytes)

    ended_end : byte ≡ lf → ended lines (byte ∷ bytes) ≡ waiting lines ∷ ended (emptied lines) bytes
    ended_end e =
        ap (ended_parts lines) (parted_end ([] ∷ []) byte bytes e)
        ∙ part_ends lines [] (fields_at lf bytes) (fields_some lf bytes)
        ∙ ap (λ (l : Lines). waiting l ∷ ended (emptied l) bytes) (kept_none lines)

    after_end : byte ≡ lf → after lines (byte ∷ bytes) ≡ after (emptied lines) bytes
    after_end e =
        ap (after_parts lines) (parted_end ([] ∷ []) byte bytes e)
        ∙ part_passes lines [] (fields_at lf bytes) (fields_some lf bytes)
        ∙ ap (λ (l : Lines). after (emptied l) bytes) (kept_none lines)

-- what holds of no byte, and of a byte more, whether it is an LF or not, holds of all bytes
module _
    (P : Lines → List ℕ → Type 0)
    (none : (lines : Lines) → P lines [])
    (end : (lines : Lines) (byte : ℕ) (bytes : List ℕ) → byte ≡ lf → P (emptied lines) bytes → P lines (byte ∷ bytes))
    (on : (lines : Lines) (byte : ℕ) (bytes : List ℕ) → (byte ≡ lf → ⊥) → P (extended lines (byte ∷ [])) bytes → P lines (byte ∷ bytes))
  where
    bytewise : (bytes : List ℕ) (lines : Lines) → P lines bytes
    bytewise [] lines = none lines
    bytewise (byte ∷ bytes) lines = split (eqb byte lf) refl (bytewise bytes)
      where
        split : (t : Bool) → eqb byte lf ≡ t → ((l : Lines) → P l bytes) → P lines (byte ∷ bytes)
        split true e h = end lines byte bytes (eqb-true byte lf e) (h (emptied lines))
        split false e h = on lines byte bytes (eqb-false byte lf e) (h (extended lines (byte ∷ [])))

-- ---- chunks
module _ (more : List ℕ) where
  Joins : Lines → List ℕ → Type 0
  Joins lines bytes = (ended lines (bytes ++ more) ≡ ended lines bytes ++ ended (after lines bytes) more) × (after lines (bytes ++ more) ≡ after (after lines bytes) more)

  joins : (bytes : List ℕ) (lines : Lines) → Joins lines bytes
  unfolding Joins
  joins =
      bytewise Joins
      (λ lines. (rw (none_ends, none_kept), rw none_kept))
      (λ lines byte bytes e h. (
        ended_end lines byte (bytes ++ more) e ∙ rw (ended_end lines byte bytes e, after_end lines byte bytes e) (ap (λ (l : List (List ℕ)). waiting lines ∷ l) h.0),
        after_end lines byte (bytes ++ more) e ∙ rw (after_end lines byte bytes e) h.1,
      ))
      (λ lines byte bytes n h. (
        ended_on lines byte (bytes ++ more) n ∙ rw (ended_on lines byte bytes n, after_on lines byte bytes n) h.0,
        after_on lines byte (bytes ++ more) n ∙ rw (after_on lines byte bytes n) h.1,
      ))

-- all lines that end in the bytes that follow, the end of the input included
all : Lines → List ℕ → List (List ℕ)
all lines bytes = ended lines bytes ++ last_of (after lines bytes)

of_chunks : (chunks : List (List ℕ)) (lines : Lines) → ended_over lines chunks ≡ all lines (joined chunks)
unfolding all ended_over joined Joins
of_chunks [] lines = rw (none_ends, none_kept)
of_chunks (chunk ∷ chunks) lines =
    ap (λ (l : List (List ℕ)). ended lines chunk ++ l) (of_chunks chunks (after lines chunk))
    ∙ sym (append_assoc (ended lines chunk) (ended (after lines chunk) (joined chunks)) (last_of (after (after lines chunk) (joined chunks))))
    ∙ rw ((joins (joined chunks) chunk lines).0, (joins (joined chunks) chunk lines).1)

-- ---- the lines that are left
glue : List ℕ → List (List ℕ) → List (List ℕ)
glue read [] = read ∷ []
glue read (line ∷ lines) = (read ++ line) ∷ lines

-- the lines that are left where this much of the first was read
left : List ℕ → List ℕ → List (List ℕ)
left [] bytes = lines_of bytes
left (first ∷ read) bytes = glue (first ∷ read) (lines_of bytes)

left_end : (read : List ℕ) (byte : ℕ) (bytes : List ℕ) → byte ≡ lf → left read (byte ∷ bytes) ≡ read ∷ lines_of bytes
unfolding left glue
left_end [] byte bytes e = parted_end [] byte bytes e
left_end (first ∷ read) byte bytes e = ap (glue (first ∷ read)) (parted_end [] byte bytes e) ∙ ap (λ (line : List ℕ). line ∷ lines_of bytes) (append-nil (first ∷ read))

grow_glue : (byte : ℕ) (lines : List (List ℕ)) → grow byte lines ≡ glue (byte ∷ []) lines
unfolding grow glue
grow_glue byte [] = refl
grow_glue byte (line ∷ lines) = refl

glue_grow : (read : List ℕ) (byte : ℕ) (lines : List (List ℕ)) → glue read (grow byte lines) ≡ glue (read ++ (byte ∷ [])) lines
unfolding grow glue
glue_grow read byte [] = refl
glue_grow read byte (line ∷ lines) = ap (λ (l : List ℕ). l ∷ lines) (sym (append_snoc read byte line))

left_on : (read : List ℕ) (byte : ℕ) (bytes : List ℕ) → (byte ≡ lf → ⊥) → left read (byte ∷ bytes) ≡ left (read ++ (byte ∷ [])) bytes
unfolding left
left_on [] byte bytes n = parted_on [] byte bytes n ∙ grow_glue byte (lines_of bytes)
left_on (first ∷ read) byte bytes n = ap (glue (first ∷ read)) (parted_on [] byte bytes n) ∙ glue_grow (first ∷ read) byte (lines_of bytes)

-- ---- what waits of a line
record Waits (lines : Lines) (read : List ℕ) : Type 0 where
  pub size : lines.len ≡ length (take line_room read)
  pub held : waiting lines ≡ take line_room read
  pub room : length lines.held ≡ line_room

waits_none : (lines : Lines) → length lines.held ≡ line_room → Waits (emptied lines) []
waits_none lines e = record { size = refl; held = refl; room = e }

waits_more : (lines : Lines) (read : List ℕ) (byte : ℕ) → Waits lines read → Waits (extended lines (byte ∷ [])) (read ++ (byte ∷ []))
waits_more lines read byte w = split (dec_lt lines.len line_room)
  where
    split : Dec (lines.len < line_room) → Waits (extended lines (byte ∷ [])) (read ++ (byte ∷ []))
    split (yes h) =
        let few : length read < line_room = omega (arith, w.size, length-take line_room read) in
        let whole : take line_room read ≡ read = take_all line_room read (omega arith) in
        let count : lines.len ≡ length read = w.size ∙ ap length whole in
        let more : length (read ++ (byte ∷ [])) ≡ length read + 1 = length-append read (byte ∷ []) in
        let fits : take line_room (read ++ (byte ∷ [])) ≡ read ++ (byte ∷ []) = take_all line_room (read ++ (byte ∷ [])) (omega arith) in
        rw (kept_one lines byte h)
        (record {
          size = rw fits (omega arith);
          held =
              rw (add-one lines.len, take-suc-set lines.held lines.len byte (omega (arith, w.room)), fits)
              (ap (λ (l : List ℕ). l ++ (byte ∷ [])) (w.held ∙ whole));
          room = length-set lines.held lines.len byte ∙ w.room;
        })
    split (no h) =
        let many : line_room ≤ length read = omega (arith, w.size, length-take line_room read) in
        let cut : take line_room (read ++ (byte ∷ [])) ≡ take line_room read = take-append-le line_room read (byte ∷ []) many in
        rw (kept_full lines (byte ∷ []) (omega arith)) (record { size = w.size ∙ ap length (sym cut); held = w.held ∙ sym cut; room = w.room })

-- ---- the end of the input
none_waits : (lines : Lines) (read : List ℕ) → Waits lines read → lines.len ≡ 0 → left read [] ≡ []
unfolding left parted_at
none_waits lines [] w e = refl
none_waits lines (first ∷ read) w e = absurd (omega (arith, w.size, e))

one_waits : (lines : Lines) (read : List ℕ) → Waits lines read → (lines.len ≡ 0 → ⊥) → left read [] ≡ read ∷ []
unfolding left glue parted_at
one_waits lines [] w n = absurd (n w.size)
one_waits lines (first ∷ read) w n = refl

last : (lines : Lines) (read : List ℕ) → Waits lines read → last_of lines ≡ shortened (left read [])
unfolding last_of shortened
last lines read w = split (eqb lines.len 0) refl
  where
    split : (t : Bool) → eqb lines.len 0 ≡ t → last_of lines ≡ shortened (left read [])
    split true e = on_true e _ _ ∙ sym (ap shortened (none_waits lines read w (eqb-true lines.len 0 e)))
    split false e = on_false e _ _ ∙ ap (λ (l : List ℕ). l ∷ []) w.held ∙ sym (ap shortened (one_waits lines read w (eqb-false lines.len 0 e)))

-- ---- the whole input
Told : Lines → List ℕ → Type 0
Told lines bytes = (read : List ℕ) → Waits lines read → all lines bytes ≡ shortened (left read bytes)

told : (bytes : List ℕ) (lines : Lines) → Told lines bytes
unfolding Told all shortened left
told =
    bytewise Told
    (λ lines read w. rw (none_ends, none_kept) (last lines read w))
    (λ lines byte bytes e h read w.
    rw (ended_end lines byte bytes e, after_end lines byte bytes e, left_end read byte bytes e, w.held)
    (ap (λ (l : List (List ℕ)). take line_room read ∷ l) (h [] (waits_none lines w.room))))
    (λ lines byte bytes n h read w.
    rw (ended_on lines byte bytes n, after_on lines byte bytes n, left_on read byte bytes n)
    (h (read ++ (byte ∷ [])) (waits_more lines read byte w)))

new_waits : Waits new_lines []
unfolding new_lines
new_waits = record { size = refl; held = refl; room = length-replicate {A = ℕ} line_room 0 }

pub lines_of_any_chunks : LinesOfAnyChunks
unfolding Told left
lines_of_any_chunks chunks = of_chunks chunks new_lines ∙ told (joined chunks) new_lines [] new_waits
