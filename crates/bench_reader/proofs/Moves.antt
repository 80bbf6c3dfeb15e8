-- What a turn adds to a run. Assumes nothing.
use Prim.Native.Nat.{ℕ, ◌+◌, ◌≤◌}
use native.Mathlib.Omega.{arith}
use native.Mathlib.Numerals.{add-one}
use mathlib.Core.Bool.{Bool, true, false}
use mathlib.Core.List.{List}
use mathlib.Core.Logic.{◌⊎◌, inl, inr}
use mathlib.Core.Path.{◌≡◌, ap, ◌∙◌}
use lib.ListN.{length, take, drop, length-take}
use lib.Seq.{sets, sets-eq, take_at}
use lib.Dec.{leb}
use borrow.Author.Tests.{le-leb}
use Rattle.std.specs.Prelude.{Result, Ok}
use Rattle.laws.proofs.Picked.{on_true}
use Rattle.stdio.specs.declared.Report.{Report}
use Rattle.stdio.specs.declared.Report.TheVariants.{Bytes as bytes_came, End as input_ended, Failed as read_failed}
use Rattle.stdio.specs.Marks.{Came, Went, Complained}
use Rattle.book.specs.declared.BookReader.{BookReader}
use Rattle.book.specs.declared.Fed.{Fed}
use Rattle.book.specs.declared.NoRoom.{NoRoom}
use Rattle.book.specs.Reader.{is_over, after, said, bytes_in, feed_max, fed, buffer_fed, last_words, finish_max, finished, buffer_finished}
use Rattle.bench_reader.specs.declared.Next.{Next}
use Rattle.bench_reader.specs.declared.Next.TheVariants.{More, Over, End, Failed}
use Rattle.bench_reader.specs.Run.{not_read, not_written, Ran, full, ended, unread, unwritten, fed as was_fed, Stops, Finished, Told, endless, broken_off}

-- ---- the text at a buffer's start
front : (text buffer : List ℕ) {buffer' : List ℕ} {n : ℕ} → buffer' ≡ sets buffer 0 text → n ≡ length text → n ≤ length buffer → take n buffer' ≡ text
front text buffer {buffer'} {n} e f h =
    let fits : 0 + length text ≤ length buffer = omega arith in
    ap (take n) (e ∙ sets-eq text buffer 0 fits) ∙ take_at text (drop (0 + length text) buffer) n (omega arith)

in_bytes : {s : Result ℕ NoRoom} {n m : ℕ} → s ≡ Ok m → n ≡ bytes_in s → n ≡ m
in_bytes e f = f ∙ ap bytes_in e

-- ---- a chunk is fed, and its answers are written
module _ (r : BookReader) (chunk out : List ℕ) (enough : leb (feed_max chunk) (length out) ≡ true) {f : Fed} (e : f ≡ fed r chunk (length out)) where
  is_fed : f ≡ record { reader = after r chunk; said = Ok (length (said r chunk)) }
  unfolding fed
  is_fed = e ∙ on_true enough _ _

  fed_text : {out' : List ℕ} {n : ℕ} → out' ≡ buffer_fed r chunk out → bytes_in f.said ≤ length out → n ≡ bytes_in f.said → take n out' ≡ said r chunk
  unfolding buffer_fed
  fed_text g h k = front (said r chunk) out (g ∙ on_true enough _ _) (in_bytes (ap (λ (x : Fed). x.said) is_fed) k) (omega (arith, h, k))

room : (n : ℕ) (chunk : List ℕ) {size : ℕ} → feed_max chunk ≤ size → leb (feed_max (take n chunk)) size ≡ true
room n chunk {size} h = le-leb (feed_max (take n chunk)) size (omega (arith, length-take n chunk))

module _ {reads : ℕ} {r : BookReader} (buffer : List ℕ) (count : ℕ) (run : Ran reads r More) (came : Came reads buffer (bytes_came count)) (out : List ℕ)
    (enough : feed_max buffer ≤ length out) {f : Fed} (e : f ≡ fed r (take count buffer) (length out)) {out' : List ℕ}
    (g : out' ≡ buffer_fed r (take count buffer) out) (h : bytes_in f.said ≤ length out) {n : ℕ} (k : n ≡ bytes_in f.said) where
  next_reader : f.reader ≡ after r (take count buffer)
  next_reader = ap (λ (x : Fed). x.reader) (is_fed r (take count buffer) out (room count buffer enough) e)

  answers : take n out' ≡ said r (take count buffer)
  answers = fed_text r (take count buffer) out (room count buffer enough) e g h k

  pub goes_on : {done : Bool} → Went (take n out') done → done ≡ true → is_over f.reader ≡ false → Ran (reads + 1) f.reader More
  goes_on w d o = rw (add-one reads, next_reader) (was_fed reads r buffer count run came (rw (answers, d) at w) (rw next_reader at o))

  pub is_over_lem : {done : Bool} → Went (take n out') done → done ≡ true → is_over f.reader ≡ true → Ran (reads + 1) f.reader Over
  is_over_lem w d o = rw (add-one reads, next_reader) (full reads r buffer count run came (rw (answers, d) at w) (rw next_reader at o))

  pub breaks_off : {done : Bool} → Went (take n out') done → done ≡ false → Complained not_written → Ran (reads + 1) f.reader Failed
  breaks_off w d told = rw (add-one reads, next_reader) (unwritten reads r buffer count run came (rw (answers, d) at w) told)

-- ---- the read brought nothing
module _ {reads : ℕ} {r : BookReader} (buffer : List ℕ) {report : Report} (run : Ran reads r More) (came : Came reads buffer report) where
  pub ends : report ≡ input_ended → Ran (reads + 1) r End
  ends e = rw (add-one reads) (ended reads r buffer run (rw e at came))

  pub fails : report ≡ read_failed → Complained not_read → Ran (reads + 1) r Failed
  fails e told = rw (add-one reads) (unread reads r buffer run (rw e at came) told)

-- ---- no read is left, or one failed
pub no_words : {reads : ℕ} {r : BookReader} {next : Next} → (next ≡ More) ⊎ (next ≡ Failed) → Ran reads r next → Stops reads next → Told
no_words {r = r} (inl e) run stops = endless r (rw (stops e, e) at run)
no_words {r = r} (inr e) run stops = broken_off _ r (rw e at run)

-- ---- the last words are written
module _ (r : BookReader) (out : List ℕ) (room : finish_max ≤ length out) {s : Result ℕ NoRoom} (e : s ≡ finished r (length out)) {out' : List ℕ}
    (g : out' ≡ buffer_finished r out) (h : bytes_in s ≤ length out) {n : ℕ} (k : n ≡ bytes_in s) where
  last_text : take n out' ≡ last_words r
  unfolding finished buffer_finished
  last_text =
      let enough = le-leb finish_max (length out) room in
      front (last_words r) out (g ∙ on_true enough _ _) (in_bytes (e ∙ on_true enough _ _) k) (omega (arith, h, k))

  pub said_last : {done : Bool} → Went (take n out') done → (done ≡ false → Complained not_written) → Finished r done
  said_last w told = record { went = rw last_text at w; or_said = told }
