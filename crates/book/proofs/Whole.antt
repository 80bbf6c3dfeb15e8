-- What a reader says of a book is the book's report, however it is cut, and it tells where there is more than it reads. Assumes nothing.
use Prim.Native.Nat.{ℕ, zero, suc, ◌+◌, ◌-◌, ◌<◌, ◌≤◌}
use native.Mathlib.Decide.{dec_lt}
use native.Mathlib.Nat.{pos_of_ne-zero}
use native.Mathlib.Omega.{arith}
use mathlib.Core.Bool.{Bool, true, false, ◌||◌, ◌&&◌, and-true, and-false, or_assoc}
use mathlib.Core.List.{List, [], ◌∷◌, ◌++◌, append_assoc}
use mathlib.Core.Path.{◌≡◌, refl, sym, ap, ◌∙◌}
use lib.Dec.{eqb, ltb, leb}
use lib.ListN.{length, take, length-append, length-take}
use lib.Seq.{take_all, length-take-le}
use borrow.Author.Tests.{eqb-true, eqb-false, ltb-true, ltb-false, lt-ltb, le-ltb, le-leb, lt-leb}
use Rattle.laws.specs.Bit.{bit}
use Rattle.laws.specs.Pick.{pick}
use Rattle.laws.proofs.Picked.{on_true, on_false}
use Rattle.lines.specs.declared.Lines.{Lines}
use Rattle.lines.specs.Lines.{lines_of, line_room, waiting}
use Rattle.lines.specs.Chunk.{ended, after as lines_after}
use Rattle.lines.specs.AnyChunks.{last_of, ended_over, joined, shortened}
use Rattle.lines.proofs.AnyChunks.{lines_of_any_chunks}
use Rattle.std.specs.Prelude.{Result, Err}
use Rattle.bench_text.specs.declared.Capture.{Capture}
use Rattle.bench_text.specs.declared.Refusal.{Refusal}
use Rattle.bench_text.specs.declared.Refusal.TheVariants.{TooLong}
use Rattle.bench_text.specs.Rules.{line_max, is_short, judged_by}
use Rattle.bench_text.specs.Line.{book_line_as, book_line_of}
use Rattle.bench_answers.specs.declared.Counts.{Counts}
use Rattle.bench_answers.specs.Answer.{end_text}
use Rattle.book.specs.declared.BookReader.{BookReader}
use Rattle.book.specs.Report.{is_decoded_line, is_refused_line, count_of, answer_text, answers_from, report_of, lines_max, report}
use Rattle.book.specs.Reader.{no_counts, new_reader, is_full, is_over, one_more, counted_as, counted, counted_over, read_of, after, said, last_words}
use Rattle.book.proofs.Steps.{same_test}
use Rattle.book.specs.Whole.{said_of, Reports, after_all, TellsMore}

-- ---- lines one after the other
take_append : {A : Type 0} (n : ℕ) (xs ys : List A) → take n (xs ++ ys) ≡ take n xs ++ take (n - length xs) ys
take_append zero xs ys = let z : 0 - length xs ≡ 0 = omega arith in rw z
take_append (suc n) [] ys = let z : suc n - 0 ≡ suc n = omega arith in rw z
take_append (suc n) (x ∷ xs) ys = let z : suc n - suc (length xs) ≡ n - length xs = omega arith in rw z (ap (λ (l : List _). x ∷ l) (take_append n xs ys))

take_within : {A : Type 0} (n : ℕ) (xs : List A) → length (take n xs) ≤ n
take_within n xs = omega (arith, length-take n xs)

answers_append : (n : ℕ) (xs ys : List (List ℕ)) → answers_from n (xs ++ ys) ≡ answers_from n xs ++ answers_from (n + length xs) ys
unfolding answers_from
answers_append n [] ys = let z : n + 0 ≡ n = omega arith in rw z
answers_append n (x ∷ xs) ys =
    let k : n + suc (length xs) ≡ suc n + length xs = omega arith in
    rw k (ap (λ (t : List ℕ). answer_text n x ++ t) (answers_append (suc n) xs ys) ∙ sym (append_assoc (answer_text n x) (answers_from (suc n) xs) (answers_from (suc n + length xs) ys)))

counted_append : (c : Counts) (xs ys : List (List ℕ)) → counted_over c (xs ++ ys) ≡ counted_over (counted_over c xs) ys
unfolding counted_over
counted_append c [] ys = refl
counted_append c (x ∷ xs) ys = counted_append (counted c x) xs ys

-- every line is counted
counted_lines : (c : Counts) (ls : List (List ℕ)) → (counted_over c ls).lines ≡ c.lines + length ls
unfolding counted_over counted_as
counted_lines c [] = omega arith
counted_lines c (l ∷ ls) = counted_lines (counted c l) ls ∙ omega arith

-- ---- chunk after chunk
-- what is said of lines that follow those counted, the end included
rest : Counts → List (List ℕ) → List ℕ
rest c lines = answers_from (suc c.lines) lines ++ end_text (counted_over c lines)

rest_append : (c : Counts) (xs ys : List (List ℕ)) → rest c (xs ++ ys) ≡ answers_from (suc c.lines) xs ++ rest (counted_over c xs) ys
unfolding rest
rest_append c xs ys =
    let first = answers_from (suc c.lines) xs in
    let last = end_text (counted_over (counted_over c xs) ys) in
    let n : suc c.lines + length xs ≡ suc (counted_over c xs).lines = omega (arith, counted_lines c xs) in
    rw (answers_append (suc c.lines) xs ys, counted_append c xs ys)
    (append_assoc first (answers_from (suc c.lines + length xs) ys) last ∙ ap (λ (k : ℕ). first ++ (answers_from k ys ++ last)) n)

-- as many lines as a book may still have after others
left_after : (c : Counts) (ls : List (List ℕ)) → lines_max - (counted_over c (take (lines_max - c.lines) ls)).lines ≡ lines_max - c.lines - length ls
left_after c ls = let n = counted_lines c (take (lines_max - c.lines) ls) in let k = length-take (lines_max - c.lines) ls in omega (arith, n, k)

of_chunks : (r : BookReader) (chunks : List (List ℕ)) → said_of r chunks ≡ rest r.counts (read_of r (ended_over r.lines chunks))
unfolding said_of ended_over rest last_words said after
of_chunks r [] = refl
of_chunks r (chunk ∷ chunks) =
    let now = ended r.lines chunk in
    let later = ended_over (lines_after r.lines chunk) chunks in
    let left = lines_max - r.counts.lines in
    ap (λ (t : List ℕ). answers_from (suc r.counts.lines) (take left now) ++ t) (of_chunks (after r chunk) chunks ∙ ap (λ (k : ℕ). rest (counted_over r.counts (take left now)) (take k later)) (left_after r.counts now))
    ∙ sym (rest_append r.counts (take left now) (take (left - length now) later))
    ∙ ap (rest r.counts) (sym (take_append left now later))

-- ---- a line is known by the bytes that are kept of it
line_long : (l : List ℕ) → line_max < length l → book_line_of l ≡ Err TooLong
unfolding judged_by is_short book_line_as
line_long l h = rw (on_false (lt-leb (length l) line_max h))

known : (l : List ℕ) (t : Bool) → ltb line_room (length l) ≡ t → book_line_of (take line_room l) ≡ book_line_of l
known l true e =
    let h : line_room < length l = ltb-true line_room (length l) e in
    let k : length (take line_room l) ≡ line_room = length-take-le line_room l (omega arith) in
    line_long (take line_room l) (omega arith) ∙ sym (line_long l (omega arith))
known l false e = ap book_line_of (take_all line_room l (ltb-false line_room (length l) e))

short_take : (n : ℕ) (ls : List (List ℕ)) → take n (shortened ls) ≡ shortened (take n ls)
unfolding shortened
short_take zero ls = refl
short_take (suc n) [] = refl
short_take (suc n) (l ∷ ls) = ap (λ (x : List (List ℕ)). take line_room l ∷ x) (short_take n ls)

short_length : (ls : List (List ℕ)) → length (shortened ls) ≡ length ls
unfolding shortened
short_length [] = refl
short_length (l ∷ ls) = ap suc (short_length ls)

short_answers : (n : ℕ) (ls : List (List ℕ)) → answers_from n (shortened ls) ≡ answers_from n ls
unfolding answers_from shortened
short_answers n [] = refl
short_answers n (l ∷ ls) = rw (known l (ltb line_room (length l)) refl, short_answers (suc n) ls)

short_counted : (c : Counts) (ls : List (List ℕ)) → counted_over c (shortened ls) ≡ counted_over c ls
unfolding counted_over shortened
short_counted c [] = refl
short_counted c (l ∷ ls) =
    ap (λ (b : Result Capture Refusal). counted_over (counted_as c b) (shortened ls)) (known l (ltb line_room (length l)) refl)
    ∙ short_counted (counted c l) ls

short_rest : (c : Counts) (ls : List (List ℕ)) → rest c (shortened ls) ≡ rest c ls
unfolding rest
short_rest c ls = rw (short_answers (suc c.lines) ls, short_counted c ls)

-- ---- counts
count_more : (t : Bool) (n : ℕ) → n < lines_max → pick t (one_more n) n ≡ n + bit t
unfolding pick
count_more true n h = omega arith
count_more false n h = omega arith

pick_le : (t : Bool) (n m : ℕ) → n ≤ m → m < lines_max → pick t (one_more n) n ≤ m + 1
unfolding pick
pick_le true n m h k = omega arith
pick_le false n m h k = omega arith

counts_same : {a b c x y z : ℕ} → a ≡ x → b ≡ y → c ≡ z
    → ◌≡◌ {A = Counts} (record { lines = a; decoded = b; refused = c }) (record { lines = x; decoded = y; refused = z })
counts_same e f g = rw (e, f, g)

-- no count reaches its limit before the lines do
counts_add : (ls : List (List ℕ)) (c : Counts) → c.decoded ≤ c.lines → c.refused ≤ c.lines → c.lines + length ls ≤ lines_max
    → counted_over c ls
    ≡ record { lines = c.lines + length ls; decoded = c.decoded + count_of is_decoded_line ls; refused = c.refused + count_of is_refused_line ls }
unfolding counted_over count_of counted_as
counts_add [] c d k h = counts_same (omega arith) (omega arith) (omega arith)
counts_add (l ∷ ls) c d k h =
    let lt : c.lines < lines_max = omega arith in
    let de : (counted c l).decoded ≡ c.decoded + bit (is_decoded_line l) = count_more (is_decoded_line l) c.decoded (omega arith) in
    let re : (counted c l).refused ≡ c.refused + bit (is_refused_line l) = count_more (is_refused_line l) c.refused (omega arith) in
    counts_add ls (counted c l) (pick_le (is_decoded_line l) c.decoded c.lines d lt) (pick_le (is_refused_line l) c.refused c.lines k lt) (omega arith)
    ∙ counts_same (omega arith) (omega arith) (omega arith)

-- ---- the report
from_start : (ls : List (List ℕ)) → length ls ≤ lines_max → rest no_counts ls ≡ report_of ls
unfolding rest report_of
from_start ls h = ap (λ (c : Counts). answers_from 1 ls ++ end_text c) (counts_add ls no_counts (omega arith) (omega arith) (omega arith) ∙ counts_same (omega arith) (omega arith) (omega arith))

pub reports : Reports
unfolding report new_reader
reports chunks =
    let lines = lines_of (joined chunks) in
    of_chunks new_reader chunks
    ∙ ap (λ (ls : List (List ℕ)). rest no_counts (take lines_max ls)) (lines_of_any_chunks chunks)
    ∙ ap (rest no_counts) (short_take lines_max lines)
    ∙ short_rest no_counts (take lines_max lines)
    ∙ from_start (take lines_max lines) (take_within lines_max lines)

-- ---- more than is read
or_test : (k m n : ℕ) (t : Bool) → ltb k m ≡ t → ltb k m || ltb (k - m) n ≡ ltb k (m + n)
or_test k m n true e = rw e (sym (lt-ltb k (m + n) (omega (arith, ltb-true k m e))))
or_test k m n false e =
    let within = ltb-false k m e in
    rw e (same_test (k - m) n k (m + n) (λ h. omega arith) (λ h. omega arith))

one_over : (n : ℕ) → leb lines_max n ≡ ltb (lines_max - n) 1
one_over n = split (dec_lt n lines_max)
  where
    split : Dec (n < lines_max) → leb lines_max n ≡ ltb (lines_max - n) 1
    split (yes h) = lt-leb lines_max n h ∙ sym (le-ltb (lines_max - n) 1 (omega arith))
    split (no h) = le-leb lines_max n (omega arith) ∙ sym (lt-ltb (lines_max - n) 1 (omega arith))

-- the line that waits is one too many exactly where the reader is full and a byte waits
last_over : (n : ℕ) (lines : Lines) (u : Bool) → eqb lines.len 0 ≡ u → leb lines_max n && ltb 0 lines.len ≡ ltb (lines_max - n) (length (last_of lines))
unfolding last_of
last_over n lines true f =
    let none : lines.len ≤ 0 = omega (arith, eqb-true lines.len 0 f) in
    ap (λ (t : Bool). leb lines_max n && t) (le-ltb 0 lines.len none) ∙ and-false (leb lines_max n) ∙ sym (le-ltb (lines_max - n) 0 (omega arith))
    ∙ ap (λ (ls : List (List ℕ)). ltb (lines_max - n) (length ls)) (sym (on_true f [] (waiting lines ∷ [])))
last_over n lines false f =
    let some : 0 < lines.len = pos_of_ne-zero (eqb-false lines.len 0 f) in
    ap (λ (t : Bool). leb lines_max n && t) (lt-ltb 0 lines.len some) ∙ and-true (leb lines_max n) ∙ one_over n
    ∙ ap (λ (ls : List (List ℕ)). ltb (lines_max - n) (length ls)) (sym (on_false f [] (waiting lines ∷ [])))

over_all : (r : BookReader) (chunks : List (List ℕ)) → is_over (after_all r chunks) ≡ r.over || ltb (lines_max - r.counts.lines) (length (ended_over r.lines chunks))
unfolding is_over is_full after_all ended_over after
over_all r [] = ap (λ (t : Bool). r.over || t) (last_over r.counts.lines r.lines (eqb r.lines.len 0) refl)
over_all r (chunk ∷ chunks) =
    let now = ended r.lines chunk in
    let later = ended_over (lines_after r.lines chunk) chunks in
    let left = lines_max - r.counts.lines in
    over_all (after r chunk) chunks
    ∙ ap (λ (k : ℕ). r.over || ltb left (length now) || ltb k (length later)) (left_after r.counts now)
    ∙ or_assoc r.over (ltb left (length now)) (ltb (left - length now) (length later))
    ∙ ap (λ (t : Bool). r.over || t) (or_test left (length now) (length later) (ltb left (length now)) refl)
    ∙ ap (λ (k : ℕ). r.over || ltb left k) (sym (length-append now later))

pub tells_more : TellsMore
unfolding new_reader
tells_more chunks =
    over_all new_reader chunks
    ∙ ap (λ (ls : List (List ℕ)). ltb lines_max (length ls)) (lines_of_any_chunks chunks)
    ∙ ap (ltb lines_max) (short_length (lines_of (joined chunks)))
