-- Each way in which a line is answered, by the tests of the code. Assumes nothing.
use Prim.Native.Nat.{ℕ, zero, suc, ◌-◌, ◌≤◌, ◌<◌}
use native.Mathlib.Omega.{arith}
use mathlib.Core.Bool.{Bool, true, false, and-false}
use mathlib.Core.List.{List, ◌++◌}
use mathlib.Core.Path.{◌≡◌, refl, sym, ap, ◌∙◌}
use lib.ListN.{length, take, drop, replicate}
use lib.Seq.{length-take-le}
use borrow.Author.Tests.{le-leb, lt-leb, eq-eqb, ne_eqb}
use Rattle.std.specs.Prelude.{Option, Some, None, Result, Ok, Err, ok_or}
use Rattle.laws.specs.Pick.{pick}
use Rattle.laws.proofs.Picked.{on_true, on_false}
use Rattle.text.specs.Letters.{word, tab}
use Rattle.text.specs.Fields.{count_at, field_at}
use Rattle.text.specs.Words.{same_text}
use Rattle.text.specs.Decimals.{value_of, is_up_to, byte_in}
use Rattle.text.specs.Hex.{is_hex, filled_by}
use Rattle.text.proofs.DecimalLaws.{no_number_read, number_read}
use Rattle.bench_text.specs.declared.Capture.{Capture}
use Rattle.bench_text.specs.declared.Refusal.{Refusal}
use Rattle.bench_text.specs.declared.Refusal.TheVariants.{TooLong, NotFourFields, BadNumber, BadSamples}
use Rattle.bench_text.specs.Rules.{silence_field, count_field, samples_field, line_max, silence_max, count_max, is_short, has_fields, has_numbers, has_samples, judged_by, judged, book_line_answer_number, refusal_in}
use Rattle.bench_text.specs.Line.{capture_with, book_line_as, book_line_of}

-- ---- the number of the answer
answer_number : (answer : Result (Unit {0}) Refusal) (l : List ℕ) → book_line_answer_number (book_line_as answer l) ≡ book_line_answer_number answer
unfolding book_line_as book_line_answer_number
answer_number (Ok good) l = refl
answer_number (Err refusal) l = refl

-- a result that keeps the first promise keeps the second
pub with_number : (l : List ℕ) {r : Result Capture Refusal} → r ≡ book_line_of l → (r ≡ book_line_of l) × (book_line_answer_number r ≡ refusal_in l)
with_number l e = (e, ap book_line_answer_number e ∙ answer_number (judged l) l)

-- ---- a field that is a number
abbrev pub Number : ℕ → List ℕ → ℕ → Type 0
Number most field n = (is_up_to most field ≡ true) × (value_of field ≡ n) × (n ≤ most)

-- what the code read of a field of its own, told of the line's
module _ (most : ℕ) {own field : List ℕ} (same : own ≡ field) where
  pub no_number : {read : Option ℕ} → read ≡ byte_in most own → {r : Result ℕ Refusal} (refusal : Refusal) → r ≡ ok_or read refusal → {other : Refusal}
      → r ≡ Err other → (is_up_to most field ≡ false) × (other ≡ refusal)
  no_number {read = None} e refusal o err = (no_number_read most field (e ∙ ap (byte_in most) same) refl, cc)
  no_number {read = Some m} e refusal o err = cc

  pub a_number : {read : Option ℕ} → read ≡ byte_in most own → {r : Result ℕ Refusal} (refusal : Refusal) → r ≡ ok_or read refusal → {n : ℕ}
      → r ≡ Ok n → Number most field n
  a_number {read = None} e refusal o ok = cc
  a_number {read = Some m} e refusal o {n} ok = number_read most field (e ∙ ap (byte_in most) same) n cc

-- ---- the samples
abbrev zeros : ℕ → List ℕ
zeros count = replicate count 0

zeros_behind : (most n : ℕ) → drop n (zeros most) ≡ zeros (most - n)
zeros_behind zero zero = refl
zeros_behind zero (suc n) = let e : 0 ≡ 0 - suc n = omega arith in ap zeros e
zeros_behind (suc most) zero = let e : suc most ≡ suc most - 0 = omega arith in ap zeros e
zeros_behind (suc most) (suc n) = let e : most - n ≡ suc most - suc n = omega arith in zeros_behind most n ∙ ap zeros e

-- ---- the fields
module _ (l : List ℕ) {n : ℕ} (counted : n ≡ count_at tab l) where
  pub other_count : (n ≡ 4 → ⊥) → has_fields l ≡ false
  unfolding has_fields
  other_count other = rw (ne_eqb (count_at tab l) 4 (λ e. other (counted ∙ e)))

  pub by_word : n ≡ 4 → {first : List ℕ} → first ≡ field_at tab 0 l → {is_c : Bool} → is_c ≡ same_text first (word "C") → has_fields l ≡ is_c
  unfolding has_fields
  by_word four same e = rw (eq-eqb (count_at tab l) 4 (sym counted ∙ four), sym same, sym e)

-- ---- the rules, one after the other
module _ (l : List ℕ) where
  pub too_long : line_max < length l → Err TooLong ≡ book_line_of l
  unfolding judged_by is_short book_line_as
  too_long h = rw (on_false (lt-leb (length l) line_max h))

  module _ (short : length l ≤ line_max) where
    pub no_fields : has_fields l ≡ false → Err NotFourFields ≡ book_line_of l
    unfolding judged_by is_short book_line_as
    no_fields e = rw (on_true (le-leb (length l) line_max short), on_false e)

    module _ (fields : has_fields l ≡ true) where
      no_numbers : has_numbers l ≡ false → Err BadNumber ≡ book_line_of l
      unfolding judged_by is_short book_line_as
      no_numbers e = rw (on_true (le-leb (length l) line_max short), on_true fields, on_false e)

      pub no_silence : is_up_to silence_max (silence_field l) ≡ false → Err BadNumber ≡ book_line_of l
      unfolding has_numbers
      no_silence e = no_numbers (rw e)

      pub no_count : is_up_to count_max (count_field l) ≡ false → Err BadNumber ≡ book_line_of l
      unfolding has_numbers
      no_count e = no_numbers (rw e (and-false (is_up_to silence_max (silence_field l))))

      module _ {s n : ℕ} (silence : Number silence_max (silence_field l) s) (count : Number count_max (count_field l) n) {own : List ℕ} (same : own ≡ samples_field l)
          {good : Bool} (e : good ≡ is_hex (length (take n (zeros count_max))) own) where
        by_samples : has_samples l ≡ good
        unfolding has_samples
        by_samples = rw (count.1, sym same, e, length-take-le n (zeros count_max) count.2)

        by_numbers : judged l ≡ pick good (Ok tt) (Err BadSamples)
        unfolding judged_by is_short has_numbers
        by_numbers = rw (on_true (le-leb (length l) line_max short), on_true fields, silence.0, count.0, by_samples) (on_true refl _ _)

        pub no_samples : good ≡ false → Err BadSamples ≡ book_line_of l
        unfolding book_line_as
        no_samples bad = rw (by_numbers, on_false bad)

        -- the bytes that were read, with zeros past them
        pub good_line : good ≡ true → {bytes : List ℕ} → bytes ≡ filled_by own (take n (zeros count_max))
            → Ok (record { silence = s; count = n; samples = bytes ++ drop n (zeros count_max) }) ≡ book_line_of l
        unfolding book_line_as capture_with filled_by
        good_line taken {bytes} filled =
            rw (
              filled,
              on_true (sym e ∙ taken),
              zeros_behind count_max n,
              same,
              by_numbers,
              on_true taken,
              silence.1,
              count.1,
            )
