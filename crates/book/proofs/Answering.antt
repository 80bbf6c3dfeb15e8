-- The answer to a line, where there is room for it. Assumes nothing.
use Prim.Native.Nat.{ℕ, suc, ◌+◌, ◌≤◌}
use native.Mathlib.Numerals.{add-one}
use native.Mathlib.Omega.{arith}
use mathlib.Core.List.{List}
use mathlib.Core.Path.{◌≡◌, ap}
use lib.ListN.{length}
use lib.Seq.{sets}
use mathlib.Core.Bool.{true, false}
use Rattle.std.specs.Prelude.{Ok, Err}
use Rattle.laws.specs.Pick.{pick}
use Rattle.text.specs.Writing.{place_after, buffer_after}
use Rattle.text.proofs.WritingLaws.{stored, place_fits, buffer_fits}
use Rattle.bench_text.specs.declared.Capture.{Capture}
use Rattle.bench_text.specs.declared.Refusal.{Refusal}
use Rattle.bench_reading.specs.declared.Reading.{Reading}
use Rattle.bench_reading.specs.Reading.{reading_of, is_decoded}
use Rattle.bench_answers.specs.declared.Counts.{Counts}
use Rattle.bench_answers.specs.Answer.{row_max, bad_max, row_text, bad_text}
use Rattle.book.specs.Report.{answer_as, is_decoded_as, is_refused_as}
use Rattle.book.specs.Reader.{one_more, counted_as}
use Rattle.book.specs.Code.{Answered}

module _ (c : Counts) (place next : ℕ) (before after : List ℕ) (h : place + row_max ≤ length before) where
  pub refused_line : (refusal : Refusal) (refused : ℕ) → next ≡ place_after bad_max (bad_text (c.lines + 1) refusal) place before
      → after ≡ buffer_after bad_max (bad_text (c.lines + 1) refusal) place before → next ≤ place + bad_max → refused ≡ one_more c.refused
      → Answered c (Err refusal) place before after
      (record { counts = record { lines = c.lines + 1; decoded = c.decoded; refused = refused }; at = next })
  unfolding counted_as is_decoded_as is_refused_as answer_as pick
  refused_line refusal refused past left within e =
      let wrote = stored bad_max (bad_text (c.lines + 1) refusal) place before (omega arith) (past, left) in
      record {
        counts = ap (λ (n : ℕ). record { lines = c.lines + 1; decoded = c.decoded; refused = n }) e;
        past = rw (← add-one c.lines) wrote.0;
        within = omega (arith, within);
        left = rw (← add-one c.lines) wrote.1;
      }

  module _ (capture : Capture) (reading : Reading) (decoded : ℕ) (is : reading ≡ reading_of capture) where
    pub capture_line : next ≡ place_after row_max (row_text (c.lines + 1) capture reading) place before
        → after ≡ buffer_after row_max (row_text (c.lines + 1) capture reading) place before → next ≤ place + row_max
        → decoded ≡ pick (is_decoded reading) (one_more c.decoded) c.decoded
        → Answered c (Ok capture) place before after
        (record { counts = record { lines = c.lines + 1; decoded = decoded; refused = c.refused }; at = next })
    unfolding counted_as is_decoded_as is_refused_as answer_as pick
    capture_line past left within e =
        let wrote = stored row_max (row_text (c.lines + 1) capture reading) place before h (past, left) in
        let counts : decoded ≡ pick (is_decoded (reading_of capture)) (one_more c.decoded) c.decoded = rw is at e in
        record {
          counts = ap (λ (n : ℕ). record { lines = c.lines + 1; decoded = n; refused = c.refused }) counts;
          past = rw (← add-one c.lines, ← is) wrote.0;
          within = within;
          left = rw (← add-one c.lines, ← is) wrote.1;
        }

-- the answer to a capture, part by part
module _ (c : Counts) (capture : Capture) where
  pub row_decoded : is_decoded (reading_of capture) ≡ true
      → counted_as c (Ok capture) ≡ record { lines = c.lines + 1; decoded = one_more c.decoded; refused = c.refused }
  unfolding counted_as is_decoded_as is_refused_as pick
  row_decoded e = rw e

  pub row_undecoded : is_decoded (reading_of capture) ≡ false
      → counted_as c (Ok capture) ≡ record { lines = c.lines + 1; decoded = c.decoded; refused = c.refused }
  unfolding counted_as is_decoded_as is_refused_as pick
  row_undecoded e = rw e

module _ (n : ℕ) (capture : Capture) (reading : Reading) (place : ℕ) (before : List ℕ) where
  pub row_past : reading ≡ reading_of capture → place + row_max ≤ length before
      → place_after row_max (row_text (n + 1) capture reading) place before ≡ place + length (answer_as (suc n) (Ok capture))
  unfolding answer_as
  row_past is h = rw (is, add-one n) (place_fits row_max (row_text (suc n) capture (reading_of capture)) place before h)

  pub row_left : reading ≡ reading_of capture → place + row_max ≤ length before
      → buffer_after row_max (row_text (n + 1) capture reading) place before ≡ sets before place (answer_as (suc n) (Ok capture))
  unfolding answer_as
  row_left is h = rw (is, add-one n) (buffer_fits row_max (row_text (suc n) capture (reading_of capture)) place before h)

pub ruleset row_laws = (row_decoded, row_undecoded, row_past, row_left)
