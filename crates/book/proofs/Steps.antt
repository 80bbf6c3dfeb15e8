-- A chunk, one line at a time: what a reader says of it, and where that leads. Assumes nothing.
use Prim.Native.Nat.{ℕ, suc, ◌+◌, ◌-◌, ◌≤◌, ◌<◌}
use native.Mathlib.Decide.{dec_lt}
use native.Mathlib.Numerals.{add-one}
use native.Mathlib.Omega.{arith}
use mathlib.Core.Bool.{Bool, true, or-true, or-false}
use mathlib.Core.List.{List, [], ◌∷◌, ◌++◌}
use mathlib.Core.Path.{◌≡◌, sym, ◌∙◌}
use lib.Dec.{ltb}
use lib.ListN.{length}
use lib.Seq.{take-nil}
use borrow.Author.Tests.{lt-ltb, le-ltb}
use Rattle.lines.specs.declared.Lines.{Lines}
use Rattle.lines.specs.Chunk.{ended, after as lines_after}
use Rattle.lines.proofs.Steps.{none_ends, none_kept}
use Rattle.bench_answers.specs.declared.Counts.{Counts}
use Rattle.book.specs.declared.BookReader.{BookReader}
use Rattle.book.specs.Report.{lines_max, answer_text, answers_from}
use Rattle.book.specs.Reader.{counted_as, counted, counted_over, after, said}

abbrev pub reader : Lines → Counts → Bool → BookReader
reader lines counts over = record { lines = lines; counts = counts; over = over }

-- two tests of the same fact
pub same_test : (a b m n : ℕ) → (a < b → m < n) → (b ≤ a → n ≤ m) → ltb a b ≡ ltb m n
same_test a b m n over within = split (dec_lt a b)
  where
    split : Dec (a < b) → ltb a b ≡ ltb m n
    split (yes h) = lt-ltb a b h ∙ sym (lt-ltb m n (over h))
    split (no h) = let k : b ≤ a = omega arith in le-ltb a b k ∙ sym (le-ltb m n (within k))

-- ---- as many lines as a book may still have
module _ (n : ℕ) where
  pub none_more : lines_max ≤ n → lines_max - n ≡ 0
  none_more h = omega arith

  pub one_more : n < lines_max → lines_max - n ≡ suc (lines_max - (n + 1))
  one_more h = omega arith

-- ---- a line ends
module _ (r : BookReader) (chunk rest line : List ℕ) (next : Lines) (ends : ended r.lines chunk ≡ line ∷ ended next rest)
    (goes : lines_after r.lines chunk ≡ lines_after next rest) where
  module _ (h : r.counts.lines < lines_max) where
    pub read_said : said r chunk ≡ answer_text (suc r.counts.lines) line ++ said (reader next (counted r.counts line) r.over) rest
    unfolding said answers_from counted_as
    read_said = rw (ends, one_more r.counts.lines h, add-one r.counts.lines)

    pub read_after : after r chunk ≡ after (reader next (counted r.counts line) r.over) rest
    unfolding after counted_over counted_as
    read_after =
        let n = r.counts.lines in
        let m = length (ended next rest) in
        let test : ltb (lines_max - n) (suc m) ≡ ltb (lines_max - (n + 1)) m = same_test (lines_max - n) (suc m) (lines_max - (n + 1)) m (λ k. omega arith) (λ k. omega arith) in
        rw (ends, goes, test, one_more n h)

  -- no line is read any more
  module _ (h : lines_max ≤ r.counts.lines) where
    pub passed_said : said r chunk ≡ said (reader next r.counts true) rest
    unfolding said
    passed_said = rw (none_more r.counts.lines h)

    pub passed_after : after r chunk ≡ after (reader next r.counts true) rest
    unfolding after
    passed_after = rw (ends, goes, none_more r.counts.lines h, lt-ltb 0 (suc (length (ended next rest))) (omega arith), or-true r.over)

-- ---- no line ends, and all the chunk waits
module _ (r : BookReader) (chunk : List ℕ) (next : Lines) (none : ended r.lines chunk ≡ []) (waits : lines_after r.lines chunk ≡ next) where
  pub waits_said : said r chunk ≡ said (reader next r.counts r.over) []
  unfolding said
  waits_said = rw (none, none_ends next)

  pub waits_after : after r chunk ≡ after (reader next r.counts r.over) []
  unfolding after
  waits_after = rw (none, waits, none_ends next, none_kept next)

-- ---- nothing is left
module _ (r : BookReader) where
  pub none_said : said r [] ≡ []
  unfolding said answers_from
  none_said = rw (none_ends r.lines, take-nil (lines_max - r.counts.lines))

  pub none_after : after r [] ≡ r
  unfolding after counted_over
  none_after =
      rw (none_ends r.lines, none_kept r.lines, take-nil (lines_max - r.counts.lines), le-ltb (lines_max - r.counts.lines) 0 (omega arith), or-false r.over)
