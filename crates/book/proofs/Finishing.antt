-- The end of the input: what the code writes is what is promised. Assumes nothing.
use Prim.Native.Nat.{ℕ, suc, ◌+◌, ◌-◌, ◌<◌, ◌≤◌}
use native.Mathlib.Omega.{arith}
use mathlib.Core.Bool.{true, false}
use mathlib.Core.List.{List, [], ◌++◌, append-nil}
use mathlib.Core.Path.{◌≡◌, sym, ap, ◌∙◌}
use lib.ListN.{length, length-append}
use lib.Seq.{sets, take-nil, length-sets}
use borrow.Author.Tests.{eq-eqb, ne_eqb, le-leb, lt-leb, leb-true, leb-false}
use Rattle.laws.proofs.Picked.{on_true, on_false}
use Rattle.text.specs.Writing.{place_after, buffer_after}
use Rattle.text.proofs.WritingLaws.{sets_append, stored}
use Rattle.lines.specs.Lines.{waiting}
use Rattle.lines.specs.AnyChunks.{last_of}
use Rattle.bench_answers.specs.declared.Counts.{Counts}
use Rattle.bench_answers.specs.Answer.{end_max, end_text}
use Rattle.book.specs.declared.BookReader.{BookReader}
use Rattle.book.specs.declared.Ended.{Ended}
use Rattle.std.specs.Prelude.{Ok, Err}
use Rattle.book.specs.Report.{lines_max, answer_text, answers_from}
use Rattle.book.specs.Reader.{is_full, counted, counted_over, read_of, bytes_in, no_room, last_words, finish_max, finished, buffer_finished}
use Rattle.book.specs.Code.{AnsweredLine}
use Rattle.book.proofs.Steps.{none_more, one_more}

pub not_full : (r : BookReader) → is_full r ≡ false → r.counts.lines < lines_max
unfolding is_full
not_full r f = leb-false lines_max r.counts.lines f

pub full : (r : BookReader) → is_full r ≡ true → lines_max ≤ r.counts.lines
unfolding is_full
full r f = leb-true lines_max r.counts.lines f

-- ---- the last line
module _ (r : BookReader) where
  no_words : read_of r (last_of r.lines) ≡ [] → last_words r ≡ end_text r.counts
  unfolding last_words answers_from counted_over
  no_words e = rw e

  pub full_words : is_full r ≡ true → last_words r ≡ end_text r.counts
  full_words f = no_words (rw (none_more r.counts.lines (full r f)))

  pub none_words : r.lines.len ≡ 0 → last_words r ≡ end_text r.counts
  unfolding last_of
  none_words e = no_words (rw (on_true (eq-eqb r.lines.len 0 e)) (take-nil (lines_max - r.counts.lines)))

  some_words : is_full r ≡ false → (r.lines.len ≡ 0 → ⊥)
      → last_words r ≡ answer_text (suc r.counts.lines) (waiting r.lines) ++ end_text (counted r.counts (waiting r.lines))
  unfolding last_words last_of answers_from counted_over
  some_words f n =
      rw (on_false (ne_eqb r.lines.len 0 n), one_more r.counts.lines (not_full r f), take-nil (lines_max - (r.counts.lines + 1)), append-nil)

-- ---- what is written
module _ (r : BookReader) (buffer : List ℕ) where
  pub too_short : length buffer < finish_max → (Err no_room ≡ finished r (length buffer)) × (buffer ≡ buffer_finished r buffer) × (bytes_in (Err no_room) ≤ length buffer)
  unfolding finished buffer_finished
  too_short h = let short = lt-leb finish_max (length buffer) h in (sym (on_false short _ _), sym (on_false short _ _), omega arith)

  module _ (h : finish_max ≤ length buffer) (n : ℕ) (buffer' : List ℕ) where
    abbrev pub Finished : Type 0
    Finished = (Ok n ≡ finished r (length buffer)) × (buffer' ≡ buffer_finished r buffer) × (bytes_in (Ok n) ≤ length buffer)

    says : (text : List ℕ) → last_words r ≡ text → n ≡ 0 + length text → buffer' ≡ sets buffer 0 text → n ≤ finish_max → Finished
    unfolding finished buffer_finished
    says text e past left most =
        let room = le-leb finish_max (length buffer) h in
        let all : n ≡ length (last_words r) = past ∙ omega arith ∙ ap length (sym e) in
        (ap Ok all ∙ sym (on_true room _ _), left ∙ ap (sets buffer 0) (sym e) ∙ sym (on_true room _ _), omega arith)

    -- the counts alone
    pub when_none : n ≡ place_after end_max (end_text r.counts) 0 buffer → buffer' ≡ buffer_after end_max (end_text r.counts) 0 buffer
        → n ≤ 0 + end_max → last_words r ≡ end_text r.counts → Finished
    when_none past left most e = let wrote = stored end_max (end_text r.counts) 0 buffer (omega arith) (past, left) in says _ e wrote.0 wrote.1 (omega arith)

    -- the answer to a last line, and the counts behind it
    pub when_some : is_full r ≡ false → (r.lines.len ≡ 0 → ⊥) → (middle : List ℕ) (a : Ended) → AnsweredLine r.counts (waiting r.lines) 0 buffer middle a
        → n ≡ place_after end_max (end_text a.counts) a.at middle → buffer' ≡ buffer_after end_max (end_text a.counts) a.at middle → n ≤ a.at + end_max → Finished
    when_some f some middle a answered past left most =
        let text = answer_text (suc r.counts.lines) (waiting r.lines) in
        let last = end_text a.counts in
        let same : length middle ≡ length buffer = ap length answered.left ∙ length-sets buffer 0 text in
        let wrote = stored end_max last a.at middle (omega (arith, answered.within)) (past, left) in
        let words : last_words r ≡ text ++ last = some_words r f some ∙ ap (λ (c : Counts). text ++ end_text c) (sym answered.counts) in
        says (text ++ last) words (omega (arith, wrote.0, answered.past, length-append text last))
        (wrote.1 ∙ rw (answered.left, answered.past) (sym (sets_append buffer 0 text last))) (omega (arith, answered.within))
