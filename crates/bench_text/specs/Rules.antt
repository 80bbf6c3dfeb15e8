-- Document 01, "The bench reader" and "Refusal numbers": the rules of a line, in their order. A line is its bytes, without the LF. Assumes nothing.
use Rattle.std.specs.Prelude.{ℕ, Bool, ◌&&◌, List, [], ◌∷◌, Result, Ok, Err, eqb, leb, length}
use Rattle.laws.specs.Pick.{pick}
use Rattle.text.specs.Letters.{word, tab}
use Rattle.text.specs.Fields.{count_at, field_at}
use Rattle.text.specs.Words.{same_text}
use Rattle.text.specs.Decimals.{value_of, is_up_to}
use Rattle.text.specs.Hex.{is_hex}
use Rattle.bench_text.specs.declared.Refusal.{Refusal}
use Rattle.bench_text.specs.declared.Refusal.TheVariants.{TooLong, NotFourFields, BadNumber, BadSamples}

-- ---- the fields
-- A line has four fields with a tab between each two: C, the silence in ticks, the count, and the samples.
abbrev pub silence_field : List ℕ → List ℕ
silence_field text = field_at tab 1 text

abbrev pub count_field : List ℕ → List ℕ
count_field text = field_at tab 2 text

abbrev pub samples_field : List ℕ → List ℕ
samples_field text = field_at tab 3 text

-- ---- the limits
-- the most bytes that a line may have before its LF
abbrev pub line_max : ℕ
line_max = 140

-- the largest silence in ticks, and the largest count
abbrev pub silence_max : ℕ
silence_max = 255

abbrev pub count_max : ℕ
count_max = 64

-- ---- the rules
-- A line has at most 140 bytes.
unfoldable pub is_short : List ℕ → Bool
is_short text = leb (length text) line_max

-- A line has four fields, and the first is C.
unfoldable pub has_fields : List ℕ → Bool
has_fields text = eqb (count_at tab text) 4 && same_text (field_at tab 0 text) (word "C")

-- The silence and the count are decimals without leading zeros, and neither is above its limit.
unfoldable pub has_numbers : List ℕ → Bool
has_numbers text = is_up_to silence_max (silence_field text) && is_up_to count_max (count_field text)

-- There are two lower-case hex digits for each sample, and as many samples as the count says.
unfoldable pub has_samples : List ℕ → Bool
has_samples text = is_hex (value_of (count_field text)) (samples_field text)

-- a rule, and the refusal of a line that breaks it
pub record Rule : Type 0 where
  pub holds : List ℕ → Bool
  pub refusal : Refusal

-- the four rules of a line, in the order in which they are tried
abbrev pub rules : List Rule
rules =
    record { holds = is_short; refusal = TooLong }
    ∷ record { holds = has_fields; refusal = NotFourFields }
    ∷ record { holds = has_numbers; refusal = BadNumber }
    ∷ record { holds = has_samples; refusal = BadSamples }
    ∷ []

-- ---- the answer
-- A line is refused by the first rule that it breaks. A line that breaks none is good.
unfoldable pub judged_by : List Rule → List ℕ → Result (Unit {0}) Refusal
judged_by [] text = Ok tt
judged_by (rule ∷ rules) text = pick (rule.holds text) (judged_by rules text) (Err rule.refusal)

-- the answer to a line
abbrev pub judged : List ℕ → Result (Unit {0}) Refusal
judged text = judged_by rules text

-- ---- the numbers
-- the number of each refusal
abbrev pub refusal_number : Refusal → ℕ
refusal_number TooLong = 1
refusal_number NotFourFields = 2
refusal_number BadNumber = 3
refusal_number BadSamples = 4

-- each answer with its number; 0 is no refusal
unfoldable pub book_line_answer_number : {A : Type 0} → Result A Refusal → ℕ
book_line_answer_number (Ok good) = 0
book_line_answer_number (Err refusal) = refusal_number refusal

-- the refusal number of a line, and 0 for a good one
abbrev pub refusal_in : List ℕ → ℕ
refusal_in text = book_line_answer_number (judged text)
