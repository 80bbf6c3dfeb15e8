-- `bench_text::parse_line` meets its contract. Assumes nothing.
use mathlib.Core.Bool.{false}
use mathlib.Core.Path.{◌≡◌, sym, ◌∙◌}
use lib.Seq.{length-take-le}
use Rattle.std.proofs.lemmas.Result.{err_from_is_err_and}
use Rattle.bench_text.specs.Rules.{silence_max, count_max, has_fields}
use Rattle.bench_text.specs.Line.{book_line_of}
use Rattle.bench_text.proofs.LineLaws.{with_number, no_number, a_number, other_count, by_word, too_long, no_fields, no_silence, no_count, no_samples, good_line}
use Rattle.bench_text.proofs.parse_line.Goals as goal
use Rattle.bench_text.proofs.parse_line.Goals.{then-count-ne4-via-then-count-ne4, then-count-ne4-via-else-count-ne4+then-not-is}

pub returns-then-text-gt-LINE_MAX : goal.returns-then-text-gt-LINE_MAX
returns-then-text-gt-LINE_MAX c = let r = with_number _ (too_long _ c.if-text-gt-LINE_MAX.true) in record { value = r.0; answer_value = r.1 }

pub returns-then-count-ne4 : goal.returns-then-count-ne4
returns-then-count-ne4 c =
    let other : has_fields c.args.text.now ≡ false =
    elim c.then-count-ne4.branch [
      | then-count-ne4-via-then-count-ne4 w ↦ other_count _ c.count.ensures w.if-count-ne4.true
      | then-count-ne4-via-else-count-ne4+then-not-is w ↦ by_word _ c.count.ensures w.if-count-ne4.false w.field.ensures w.is.ensures ∙ w.if-not-is.true
    ] in
    let r = with_number _ (no_fields _ c.if-text-gt-LINE_MAX.false other) in
    record { value = r.0; answer_value = r.1 }

pub returns-in_err-silence : goal.returns-in_err-silence
returns-in_err-silence c =
    let fields = by_word _ c.count.ensures c.if-count-ne4.false c.field.ensures c.is.ensures ∙ c.if-not-is.false in
    let bad = no_number silence_max c.field-silence_field.ensures c.read_byte.ensures _ c.ok_or.ensures.value c.in_err-silence.was in
    let p = err_from_is_err_and c.from_residual.result c.from_residual.ensures.1 in
    let value : c.from_residual.result ≡ book_line_of c.args.text.now = rw (p.1, p.2, bad.1) (no_silence _ c.if-text-gt-LINE_MAX.false fields bad.0) in
    let r = with_number _ value in
    record { value = r.0; answer_value = r.1 }

pub returns-in_err-count : goal.returns-in_err-count
returns-in_err-count c =
    let fields = by_word _ c.count.ensures c.if-count-ne4.false c.field.ensures c.is.ensures ∙ c.if-not-is.false in
    let bad = no_number count_max c.field-count_field.ensures c.read_byte-2.ensures _ c.ok_or-2.ensures.value c.in_err-count.was in
    let exit = c.from_residual-in_err-count in
    let p = err_from_is_err_and exit.result exit.ensures.1 in
    let value : exit.result ≡ book_line_of c.args.text.now = rw (p.1, p.2, bad.1) (no_count _ c.if-text-gt-LINE_MAX.false fields bad.0) in
    let r = with_number _ value in
    record { value = r.0; answer_value = r.1 }

pub slice_bounds-samples-end : goal.slice_bounds-samples-end
slice_bounds-samples-end c = (a_number count_max c.field-count_field.ensures c.read_byte-2.ensures _ c.ok_or-2.ensures.value c.in_ok-count.was).2

pub slice_bounds-read_hex-end : goal.slice_bounds-read_hex-end
slice_bounds-read_hex-end c =
    sym (length-take-le _ _ (a_number count_max c.field-count_field.ensures c.read_byte-2.ensures _ c.ok_or-2.ensures.value c.in_ok-count.was).2)

pub returns-then-not-read_hex : goal.returns-then-not-read_hex
returns-then-not-read_hex c =
    let fields = by_word _ c.count.ensures c.if-count-ne4.false c.field.ensures c.is.ensures ∙ c.if-not-is.false in
    let silence = a_number silence_max c.field-silence_field.ensures c.read_byte.ensures _ c.ok_or.ensures.value c.in_ok-silence.was in
    let count = a_number count_max c.field-count_field.ensures c.read_byte-2.ensures _ c.ok_or-2.ensures.value c.in_ok-count.was in
    let r = with_number _
    (no_samples _ c.if-text-gt-LINE_MAX.false fields silence count c.field-samples_field.ensures c.read_hex.ensures.value c.if-not-read_hex.true) in
    record { value = r.0; answer_value = r.1 }

pub returns : goal.returns
returns c =
    let fields = by_word _ c.count.ensures c.if-count-ne4.false c.field.ensures c.is.ensures ∙ c.if-not-is.false in
    let silence = a_number silence_max c.field-silence_field.ensures c.read_byte.ensures _ c.ok_or.ensures.value c.in_ok-silence.was in
    let count = a_number count_max c.field-count_field.ensures c.read_byte-2.ensures _ c.ok_or-2.ensures.value c.in_ok-count.was in
    let hex = c.read_hex.ensures in
    let r = with_number _
    (good_line _ c.if-text-gt-LINE_MAX.false fields silence count c.field-samples_field.ensures hex.value c.if-not-read_hex.false hex.bytes_after) in
    record { value = r.0; answer_value = r.1 }
