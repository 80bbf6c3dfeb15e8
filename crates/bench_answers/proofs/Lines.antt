-- Laws of the answer lines: how they are written in parts, and how long they are at most. Assumes nothing.
use Prim.Native.Nat.{ℕ, suc, ◌+◌, ◌^◌, ◌≤◌, ◌<◌}
use native.Mathlib.Omega.{arith}
use mathlib.Core.Bool.{Bool, true}
use mathlib.Core.List.{List, [], ◌∷◌, ◌++◌, append_assoc}
use mathlib.Core.Path.{◌≡◌, ap, ◌∙◌}
use lib.ListN.{length, length-append}
use lib.Seq.{length-sets}
use denote.Shadow.{shadow}
use mir.Syntax.{w8}
use mir.Val.{Val, SFits}
use Rattle.text.specs.Letters.{word, tab, lf}
use Rattle.text.specs.Fields.{joined_by}
use Rattle.text.specs.Decimals.{decimal_of}
use Rattle.text.specs.Signed.{signed_of}
use Rattle.text.specs.Hex.{hex_of, hexes_of}
use Rattle.text.specs.Writing.{room_at, place_after, buffer_after}
use Rattle.text.proofs.DecimalDigits.{length_decimal}
use Rattle.text.proofs.SignedLaws.{length_signed}
use Rattle.text.proofs.WritingLaws.{Past, stored, written, enough, then as stored_then}
use Rattle.rx_decode.specs.declared.SniffedFrame.{SniffedFrame}
use Rattle.rx_decode.specs.declared.SniffedFrame.TheVariants.{Forward16, Backward8, Forward24, UnsupportedLength, DecodeFailed}
use Rattle.rx_decode.specs.contracts.SniffedFrame.{the_field}
use Rattle.bench_text.specs.declared.Capture.{Capture}
use Rattle.bench_text.specs.declared.Refusal.{Refusal}
use Rattle.bench_text.specs.declared.Refusal.TheVariants.{TooLong, NotFourFields, BadNumber, BadSamples}
use Rattle.bench_text.specs.Rules.{refusal_number}
use Rattle.bench_reading.specs.declared.Reading.{Reading}
use Rattle.bench_reading.specs.contracts.Reading.{the_row}
use Rattle.bench_answers.specs.declared.Counts.{Counts}
use Rattle.bench_answers.specs.Answer.{kind_text, data_text, microseconds, row_text, bad_text, end_text, row_max, bad_max, end_max}
use Rattle.bench_answers.specs.Code.{Wrote, field_text, frame_text}

-- ---- parts
pub put : (text : List ℕ) {place : ℕ} {before after : List ℕ} {next : ℕ} → Past text place before after next → Wrote text place before after next
put text {place} {before} w = record { whole = λ fits. stored (length text) text place before fits w }

-- one part behind another
pub then : {text more before middle after : List ℕ} {place next last : ℕ} → Wrote text place before middle next → Wrote more next middle after last
    → Wrote (text ++ more) place before after last
then {text} {more} {before} {middle} {after} {place} {next} {last} a b =
    record {
      whole =
          λ fits.
          let both = length-append text more in
          let first = a.whole (omega arith) in
          let n : next ≡ place + length text = first.0 in
          let same : length middle ≡ length before = ap length first.1 ∙ length-sets before place text in
          let room : next + length more ≤ length middle = omega arith in
          stored_then text more place before fits first (written (length more) more next middle room (b.whole room));
    }

-- ---- a line, after the test of the room for the longest
abbrev Line : ℕ → List ℕ → ℕ → List ℕ → List ℕ → ℕ → Type 0
Line most text place before after next =
    (next ≡ place_after most text place before) × ((after ≡ buffer_after most text place before) × (next ≤ place + most))

module _ (most : ℕ) (text : List ℕ) (place : ℕ) (before : List ℕ) {test : Bool} (e : test ≡ room_at most place before) where
  pub line : test ≡ true → length text ≤ most → {after : List ℕ} {next : ℕ} → Wrote text place before after next → Line most text place before after next
  line t short w =
      let room = enough most place before e t in
      let s = w.whole (omega arith) in
      let l = written most text place before room s in
      (l.0, (l.1, omega (arith, s.0)))

-- ---- the three lines in the parts in which they are written
pub row_parts : (number : ℕ) (capture : Capture) (reading : Reading)
    → row_text number capture reading
    ≡ field_text number tab
    ++ (frame_text reading.decode.frame
    ++ (word "\t"
    ++ (signed_of reading.decode.phase_ticks
    ++ (word "\t" ++ (field_text reading.decode.score tab ++ (field_text reading.low_run tab ++ field_text (microseconds capture.silence) lf))))))
unfolding row_text joined_by field_text frame_text
row_parts number capture reading = simp append_assoc

pub bad_parts : (number : ℕ) (refusal : Refusal) → bad_text number refusal ≡ field_text number tab ++ (word "BAD\t" ++ field_text (refusal_number refusal) lf)
unfolding bad_text joined_by field_text
bad_parts number refusal = simp append_assoc

pub end_parts : (counts : Counts)
    → end_text counts ≡ word "END\t" ++ (field_text counts.lines tab ++ (field_text counts.decoded tab ++ field_text counts.refused lf))
unfolding end_text joined_by field_text
end_parts counts = simp append_assoc

-- ---- how long they are at most
length_field : (k n mark : ℕ) → n < 10 ^ suc k → length (field_text n mark) ≤ suc k + 1
unfolding field_text
length_field k n mark h = omega (arith, length-append (decimal_of n) (mark ∷ []), length_decimal 10 k n h)

-- a frame whose parts fit their types, as the logic says it of one that a function is handed
length_frame : (frame : SniffedFrame) (values : List Val) → shadow (the_field.row.own_val (the_field.into frame) values) → length (frame_text frame) ≤ 10
unfolding frame_text kind_text data_text hexes_of hex_of
length_frame (Forward16 bits) values held = omega arith
length_frame (Backward8 byte) values held = omega arith
length_frame (Forward24 first second third) values held = omega arith
length_frame (UnsupportedLength bits) values held = let small : bits < 1000 = omega arith in omega (arith, length_decimal 10 2 bits small)
length_frame DecodeFailed values held = omega arith

-- the same of a reading
abbrev pub Held : Reading → List Val → Type 0
Held reading values = shadow (the_row.own_val reading values)

module _ (reading : Reading) (values : List Val) (held : Held reading values) where
  pub phase_fits : SFits w8 reading.decode.phase_ticks
  phase_fits = record { sfits = held.1.1.0.1.1.1.0.1 }

  pub row_short : (number : ℕ) (capture : Capture) → number < 10 ^ 10 → capture.silence < 2 ^ 8 → length (row_text number capture reading) ≤ row_max
  row_short number capture n s =
      let decode = reading.decode in
      let score : decode.score < 10 ^ 5 = omega arith in
      let run : reading.low_run < 10 ^ 5 = omega arith in
      let quiet : microseconds capture.silence < 10 ^ 5 = omega arith in
      rw (row_parts number capture reading)
      (simp length-append
      (omega (
        arith,
        length_field 9 number tab n,
        length_frame decode.frame held.1.1.0.0.0 held.1.1.0.1.1.0,
        length_signed decode.phase_ticks phase_fits.sfits,
        length_field 4 decode.score tab score,
        length_field 4 reading.low_run tab run,
        length_field 4 (microseconds capture.silence) lf quiet,
      )))

one_digit : (refusal : Refusal) → refusal_number refusal < 10
one_digit TooLong = omega arith
one_digit NotFourFields = omega arith
one_digit BadNumber = omega arith
one_digit BadSamples = omega arith

pub bad_short : (number : ℕ) (refusal : Refusal) → number < 10 ^ 10 → length (bad_text number refusal) ≤ bad_max
bad_short number refusal n =
    rw (bad_parts number refusal)
    (simp length-append (omega (arith, length_field 9 number tab n, length_field 0 (refusal_number refusal) lf (one_digit refusal))))

pub end_short : (counts : Counts) → counts.lines < 10 ^ 10 → counts.decoded < 10 ^ 10 → counts.refused < 10 ^ 10 → length (end_text counts) ≤ end_max
end_short counts l d r =
    rw (end_parts counts)
    (simp length-append
    (omega (arith, length_field 9 counts.lines tab l, length_field 9 counts.decoded tab d, length_field 9 counts.refused lf r)))
