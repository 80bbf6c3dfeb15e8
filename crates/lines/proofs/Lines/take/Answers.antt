-- `lines::Lines::take` meets its contract. Assumes nothing.
use Prim.Native.Nat.{ℕ, ◌+◌, ◌-◌, ◌≤◌, ◌<◌}
use native.Mathlib.Omega.{arith}
use mathlib.Core.Bool.{true, false}
use mathlib.Core.List.{List}
use mathlib.Core.Path.{◌≡◌, ◌∙◌, ap}
use lib.ListN.{length, drop, length-drop}
use borrow.Author.Tests.{lt-ltb, le-ltb}
use Rattle.text.specs.Letters.{lf}
use Rattle.text.specs.Fields.{bytes_before}
use Rattle.text.proofs.FieldLaws.{found-≤}
use Rattle.lines.specs.Lines.{extended}
use Rattle.lines.proofs.Kept.{part_taken, none_taken}
use Rattle.lines.proofs.Lines.take.Goals as goal

-- the end of a line is within the chunk, and how much of the chunk is left
within : (chunk : List ℕ) (from : ℕ) {end : ℕ} → end ≡ from + bytes_before lf (drop from chunk) → from < length chunk
    → (length (drop from chunk) ≡ length chunk - from) × (end ≤ length chunk)
within chunk from found h = (length-drop from chunk, found-≤ lf chunk from _ found (omega arith))

pub returns-then-chunk-from : goal.returns-then-chunk-from
returns-then-chunk-from c =
    let none = none_taken c.args.chunk.now c.args.from c.if-chunk-from.true in
    record { value = none.0; lines_after = none.1 c.args.self.now }

pub slice_bounds-keep-end : goal.slice_bounds-keep-end
slice_bounds-keep-end c = (within _ _ c.find-end.ensures (omega arith)).1

pub returns-then-end-chunk : goal.returns-then-end-chunk
returns-then-end-chunk c =
    let chunk = c.args.chunk.now in
    let from = c.args.from in
    let ends = within chunk from c.find-end.ensures (omega arith) in
    let over : length (drop from chunk) ≤ bytes_before lf (drop from chunk) = omega (arith, ends) in
    let part = part_taken chunk from false (le-ltb _ _ over) c.find-end.ensures (omega arith) in
    record { value = part.0; lines_after = c.keep.ensures ∙ ap (extended c.args.self.now) part.1 }

pub returns : goal.returns
returns c =
    let chunk = c.args.chunk.now in
    let from = c.args.from in
    let within_chunk = within chunk from c.find-end.ensures (omega arith) in
    let ends : bytes_before lf (drop from chunk) < length (drop from chunk) = omega (arith, within_chunk, c.if-end-chunk.false) in
    let part = part_taken chunk from true (lt-ltb _ _ ends) c.find-end.ensures (omega arith) in
    record { value = part.0; lines_after = c.keep.ensures ∙ ap (extended c.args.self.now) part.1 }
