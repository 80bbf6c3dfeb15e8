-- What a run has written, with the last words of its reader, is the report. Assumes nothing.
use Prim.Native.Nat.{ℕ, ◌<◌}
use mathlib.Core.Bool.{true}
use mathlib.Core.List.{List, [], ◌∷◌, ◌++◌, append_assoc, append-nil}
use mathlib.Core.Path.{◌≡◌, refl, sym, ap, ◌∙◌}
use lib.ListN.{length, take}
use borrow.Author.Tests.{ltb-true}
use Rattle.lines.specs.Lines.{lines_of}
use Rattle.lines.specs.AnyChunks.{joined}
use Rattle.lines.proofs.More.{lines_more}
use Rattle.book.specs.declared.BookReader.{BookReader}
use Rattle.book.specs.Report.{lines_max, report_of, report}
use Rattle.book.specs.Reader.{new_reader, is_over, after, said, last_words}
use Rattle.book.specs.Whole.{said_of, after_all}
use Rattle.book.proofs.Whole.{reports, tells_more}
use Rattle.bench_reader.specs.declared.Next.{Next}
use Rattle.bench_reader.specs.declared.Next.TheVariants.{More, Over}
use Rattle.bench_reader.specs.Run.{Ran, begun, fed, full, ended, unread, unwritten, came_in, wrote_in}
use Rattle.bench_reader.specs.Whole.{WritesTheReport, WritesTheFullReport}

-- ---- one chunk more
-- what a reader says of chunk after chunk, without last words
spoken : BookReader → List (List ℕ) → List ℕ
spoken r [] = []
spoken r (chunk ∷ chunks) = said r chunk ++ spoken (after r chunk) chunks

said_whole : (r : BookReader) (chunks : List (List ℕ)) → spoken r chunks ++ last_words (after_all r chunks) ≡ said_of r chunks
unfolding spoken said_of after_all
said_whole r [] = refl
said_whole r (chunk ∷ chunks) = append_assoc (said r chunk) _ _ ∙ ap (λ (text : List ℕ). said r chunk ++ text) (said_whole (after r chunk) chunks)

after_more : (r : BookReader) (chunks : List (List ℕ)) (last : List ℕ) → after_all r (chunks ++ (last ∷ [])) ≡ after (after_all r chunks) last
unfolding after_all
after_more r [] last = refl
after_more r (chunk ∷ chunks) last = after_more (after r chunk) chunks last

spoken_more : (r : BookReader) (chunks : List (List ℕ)) (last : List ℕ) → spoken r (chunks ++ (last ∷ [])) ≡ spoken r chunks ++ said (after_all r chunks) last
unfolding spoken after_all
spoken_more r [] last = append-nil _
spoken_more r (chunk ∷ chunks) last =
    ap (λ (text : List ℕ). said r chunk ++ text) (spoken_more (after r chunk) chunks last) ∙ sym (append_assoc (said r chunk) _ _)

leads_on : (chunks : List (List ℕ)) (last : List ℕ) {r : BookReader} → after_all new_reader chunks ≡ r → after_all new_reader (chunks ++ (last ∷ [])) ≡ after r last
leads_on chunks last e = after_more new_reader chunks last ∙ ap (λ (x : BookReader). after x last) e

-- ---- a run
-- Its reader is where the chunks that it was fed lead to,
leads : {reads : ℕ} {r : BookReader} {next : Next} (run : Ran reads r next) → after_all new_reader (came_in run) ≡ r
unfolding came_in after_all
leads begun = refl
leads (fed reads r buffer count run came went more) = leads_on (came_in run) (take count buffer) (leads run)
leads (full reads r buffer count run came went over) = leads_on (came_in run) (take count buffer) (leads run)
leads (ended reads r buffer run came) = leads run
leads (unread reads r buffer run came told) = leads run
leads (unwritten reads r buffer count run came went told) = leads_on (came_in run) (take count buffer) (leads run)

-- and what it wrote is what was said of them.
wrote_more : {reads : ℕ} {r : BookReader} (run : Ran reads r More) (chunk : List ℕ) → wrote_in run ≡ spoken new_reader (came_in run)
    → wrote_in run ++ said r chunk ≡ spoken new_reader (came_in run ++ (chunk ∷ []))
wrote_more run chunk e = rw (spoken_more new_reader (came_in run) chunk, leads run, e)

wrote : {reads : ℕ} {r : BookReader} (run : Ran reads r More) → wrote_in run ≡ spoken new_reader (came_in run)
unfolding wrote_in came_in spoken
wrote begun = refl
wrote (fed reads r buffer count run came went more) = wrote_more run (take count buffer) (wrote run)

reported : {reads : ℕ} {r : BookReader} {next : Next} (run : Ran reads r next) → wrote_in run ≡ spoken new_reader (came_in run)
    → wrote_in run ++ last_words r ≡ report (joined (came_in run))
reported {r = r} run e =
    ap (λ (text : List ℕ). text ++ last_words r) e
    ∙ ap (λ (x : BookReader). spoken new_reader (came_in run) ++ last_words x) (sym (leads run))
    ∙ said_whole new_reader (came_in run)
    ∙ reports (came_in run)

pub writes_the_report : WritesTheReport
unfolding wrote_in came_in
writes_the_report reads r (ended before r' buffer run came) = reported run (wrote run)

-- ---- what follows the last line that is read
report_more : (input rest : List ℕ) → lines_max < length (lines_of input) → report input ≡ report (input ++ rest)
unfolding report
report_more input rest h = ap report_of (sym (lines_more input rest lines_max h))

wrote_full : {reads : ℕ} {r : BookReader} (run : Ran reads r Over) → wrote_in run ≡ spoken new_reader (came_in run)
unfolding wrote_in came_in
wrote_full (full reads r buffer count run came went over) = wrote_more run (take count buffer) (wrote run)

over_full : {reads : ℕ} {r : BookReader} (run : Ran reads r Over) → is_over r ≡ true
over_full (full reads r buffer count run came went over) = over

pub writes_the_full_report : WritesTheFullReport
writes_the_full_report reads r run rest =
    let more = sym (tells_more (came_in run)) ∙ ap is_over (leads run) ∙ over_full run in
    reported run (wrote_full run) ∙ report_more (joined (came_in run)) rest (ltb-true _ _ more)
