-- A chunk on its way into a reader, line after line. Assumes nothing.
use Prim.Native.Nat.{ℕ, suc, ◌+◌, ◌*◌, ◌<◌, ◌≤◌}
use native.Mathlib.Omega.{arith}
use mathlib.Core.Bool.{true, false}
use mathlib.Core.List.{List, [], ◌∷◌, ◌++◌}
use mathlib.Core.Path.{◌≡◌, refl, sym, ap, ◌∙◌}
use lib.ListN.{length, drop, length-append, drop_of_length-le}
use lib.Seq.{sets, drop-length, length-sets}
use borrow.Author.Tests.{le-leb, lt-leb}
use Rattle.std.specs.Prelude.{Ok, Err}
use Rattle.laws.proofs.Picked.{on_true, on_false}
use Rattle.text.proofs.WritingLaws.{sets_append}
use Rattle.lines.specs.declared.Lines.{Lines}
use Rattle.lines.specs.declared.Taken.{Taken}
use Rattle.lines.specs.Lines.{waiting, extended, emptied, part_from, ends_from, taken}
use Rattle.lines.specs.Chunk.{ended, after as lines_after}
use Rattle.lines.proofs.Steps.{line_ends, goes_on, no_line_ends, rest_waits, place_grows, place_within, place_is_end}
use Rattle.bench_answers.specs.declared.Counts.{Counts}
use Rattle.bench_answers.specs.Answer.{row_max}
use Rattle.book.specs.declared.BookReader.{BookReader}
use Rattle.book.specs.declared.Ended.{Ended}
use Rattle.book.specs.Report.{lines_max, answer_text}
use Rattle.book.specs.Reader.{counted, after, said, bytes_in, no_room, feed_max, fed, buffer_fed}
use Rattle.book.specs.Code.{AnsweredLine}
use Rattle.book.proofs.Steps.{reader, read_said, read_after, passed_said, passed_after, waits_said, waits_after, none_said, none_after}

pub not_fed : (r : BookReader) (chunk buffer : List ℕ) → length buffer < feed_max chunk
    → (record { reader = r; said = Err no_room } ≡ fed r chunk (length buffer)) × ((buffer ≡ buffer_fed r chunk buffer) × (bytes_in (Err no_room) ≤ length buffer))
unfolding fed buffer_fed
not_fed r chunk buffer h = let short = lt-leb (feed_max chunk) (length buffer) h in (sym (on_false short _ _), (sym (on_false short _ _), omega arith))

-- With the chunk taken in up to a place, the reader r, the buffer and the place in it are on their way to where the whole chunk leads from r₀.
pub record Going (chunk before : List ℕ) (r₀ : BookReader) (buffer : List ℕ) (r : BookReader) (place from : ℕ) : Type 0 where
  pub within : from ≤ length chunk
  pub state : after r (drop from chunk) ≡ after r₀ chunk
  pub same : length buffer ≡ length before
  pub most : place ≤ row_max * from
  pub bytes : sets buffer place (said r (drop from chunk)) ≡ sets before 0 (said r₀ chunk)
  pub past : place + length (said r (drop from chunk)) ≡ length (said r₀ chunk)

pub starts : (chunk buffer : List ℕ) (r : BookReader) → Going chunk buffer r buffer r 0 0
starts chunk buffer r = record { within = omega arith; state = refl; same = refl; most = omega arith; bytes = refl; past = omega arith }

module _ {chunk before : List ℕ} {r₀ : BookReader} {buffer : List ℕ} {r : BookReader} {place from : ℕ} (g : Going chunk before r₀ buffer r place from) where
  -- a part of the chunk more, which led to r' and wrote a text
  turn : {r' : BookReader} (text : List ℕ) {buffer' : List ℕ} {place' from' : ℕ} → from < from' → from' ≤ length chunk
      → after r (drop from chunk) ≡ after r' (drop from' chunk) → said r (drop from chunk) ≡ text ++ said r' (drop from' chunk)
      → buffer' ≡ sets buffer place text → place' ≡ place + length text → place' ≤ place + row_max
      → Going chunk before r₀ buffer' r' place' from'
  turn {r'} text {buffer'} {place'} {from'} grows ≤chunk leads all wrote next most =
      let later = said r' (drop from' chunk) in
      record {
        within = ≤chunk;
        state = sym leads ∙ g.state;
        same = ap length wrote ∙ length-sets buffer place text ∙ g.same;
        most = omega (arith, g.most);
        bytes =
            ap (λ (o : List ℕ). sets o place' later) wrote ∙ ap (λ (k : ℕ). sets (sets buffer place text) k later) next
            ∙ sym (sets_append buffer place text later) ∙ ap (sets buffer place) (sym all) ∙ g.bytes;
        past = omega (arith, next, length-append text later, ap length all, g.past);
      }

  -- what `take` did
  module _ (h : from < length chunk) {t : Taken} {next : Lines} (took : t ≡ taken chunk from) (holds : next ≡ extended r.lines (part_from chunk from)) where
    ends_as : {e : _} → t.ended ≡ e → ends_from chunk from ≡ e
    unfolding taken
    ends_as e = sym (ap (λ (u : Taken). u.ended) took) ∙ e

    pub place_on : from < t.next
    place_on = rw took (place_grows chunk from h)

    place_in : t.next ≤ length chunk
    place_in = rw took (place_within chunk from (omega arith))

    module _ (e : t.ended ≡ true) where
      ends : ended r.lines (drop from chunk) ≡ waiting next ∷ ended (emptied next) (drop t.next chunk)
      ends = rw (holds, took) (line_ends r.lines chunk from (ends_as e))

      goes : lines_after r.lines (drop from chunk) ≡ lines_after (emptied next) (drop t.next chunk)
      goes = rw (holds, took) (goes_on r.lines chunk from (ends_as e))

      pub line_read : r.counts.lines < lines_max → {buffer' : List ℕ} {a : Ended} → AnsweredLine r.counts (waiting next) place buffer buffer' a
          → Going chunk before r₀ buffer' (reader (emptied next) a.counts r.over) a.at t.next
      line_read f {buffer'} {a} answered =
          let now_counted : counted r.counts (waiting next) ≡ a.counts = sym answered.counts in
          turn (answer_text (suc r.counts.lines) (waiting next)) place_on place_in
          (read_after r _ _ _ _ ends goes f ∙ ap (λ (c : Counts). after (reader (emptied next) c r.over) (drop t.next chunk)) now_counted)
          (read_said r _ _ _ _ ends goes f
          ∙ ap (λ (c : Counts). answer_text (suc r.counts.lines) (waiting next) ++ said (reader (emptied next) c r.over) (drop t.next chunk)) now_counted)
          answered.left answered.past answered.within

      pub line_passed : lines_max ≤ r.counts.lines → Going chunk before r₀ buffer (reader (emptied next) r.counts true) place t.next
      line_passed f = turn [] place_on place_in (passed_after r _ _ _ _ ends goes f) (passed_said r _ _ _ _ ends goes f) refl (omega arith) (omega arith)

    module _ (e : t.ended ≡ false) where
      none : drop t.next chunk ≡ []
      none = rw (took, place_is_end chunk from (ends_as e) (omega arith)) (drop-length chunk)

      pub chunk_ends : Going chunk before r₀ buffer (reader next r.counts r.over) place t.next
      chunk_ends =
          let quiet = no_line_ends r.lines chunk from (ends_as e) in
          let kept-all = rest_waits r.lines chunk from (ends_as e) ∙ sym holds in
          turn [] place_on place_in
          (waits_after r _ _ quiet kept-all ∙ ap (after (reader next r.counts r.over)) (sym none))
          (waits_said r _ _ quiet kept-all ∙ ap (said (reader next r.counts r.over)) (sym none))
          refl (omega arith) (omega arith)

  module _ (h : length chunk ≤ from) where
    gone : drop from chunk ≡ []
    gone = drop_of_length-le chunk {i = from} h

    led : r ≡ after r₀ chunk
    led = sym (none_after r) ∙ ap (after r) (sym gone) ∙ g.state

    nothing : said r (drop from chunk) ≡ []
    nothing = ap (said r) gone ∙ none_said r

    wrote : buffer ≡ sets before 0 (said r₀ chunk)
    wrote = rw nothing at g.bytes

    all_told : place ≡ length (said r₀ chunk)
    all_told = let e : place + 0 ≡ length (said r₀ chunk) = rw nothing at g.past in omega (arith, e)

    -- the whole chunk is taken in
    pub is_fed : feed_max chunk ≤ length before
        → (record { reader = r; said = Ok place } ≡ fed r₀ chunk (length before)) × ((buffer ≡ buffer_fed r₀ chunk before) × (bytes_in (Ok place) ≤ length before))
    unfolding fed buffer_fed
    is_fed room =
        let enough = le-leb (feed_max chunk) (length before) room in (
          rw (led, all_told) (sym (on_true enough _ _)),
          (wrote ∙ sym (on_true enough _ _), omega (arith, g.most, g.within)),
        )
