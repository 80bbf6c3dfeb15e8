-- Document 01, "The bench reader": what an answer line says. Assumes nothing.
use Rattle.std.specs.Prelude.{ℕ, ◌*◌, ◌/◌, ◌%◌, List, [], ◌∷◌, ◌++◌}
use Rattle.text.specs.Letters.{word, tab, lf}
use Rattle.text.specs.Fields.{joined_by}
use Rattle.text.specs.Decimals.{decimal_of}
use Rattle.text.specs.Signed.{signed_of}
use Rattle.text.specs.Hex.{hexes_of}
use Rattle.event.specs.Constants.{tick_us}
use Rattle.rx_decode.specs.declared.SniffedFrame.{SniffedFrame}
use Rattle.rx_decode.specs.declared.SniffedFrame.TheVariants.{Forward16, Backward8, Forward24, UnsupportedLength, DecodeFailed}
use Rattle.bench_text.specs.declared.Capture.{Capture}
use Rattle.bench_text.specs.declared.Refusal.{Refusal}
use Rattle.bench_text.specs.Rules.{refusal_number}
use Rattle.bench_reading.specs.declared.Reading.{Reading}
use Rattle.bench_answers.specs.declared.Counts.{Counts}

-- ---- kind and data
-- the word for each kind
unfoldable pub kind_text : SniffedFrame → List ℕ
kind_text (Backward8 byte) = word "B8"
kind_text (Forward16 value) = word "F16"
kind_text (Forward24 first second third) = word "F24"
kind_text (UnsupportedLength bits) = word "LEN"
kind_text DecodeFailed = word "FAIL"

-- The data of a frame are its bytes in hex, the first byte first. The data of another length are the length in decimal, and of a failed reading a
-- minus.
unfoldable pub data_text : SniffedFrame → List ℕ
data_text (Backward8 byte) = hexes_of (byte ∷ [])
data_text (Forward16 value) = hexes_of (value / 256 ∷ value % 256 ∷ [])
data_text (Forward24 first second third) = hexes_of (first ∷ second ∷ third ∷ [])
data_text (UnsupportedLength bits) = decimal_of bits
data_text DecodeFailed = word "-"

-- ---- the three answer lines
-- A line has a tab between each two fields and ends with LF.
abbrev pub line_text : List (List ℕ) → List ℕ
line_text fields = joined_by tab fields ++ (lf ∷ [])

-- A tick is 104 microseconds.
abbrev pub microseconds : ℕ → ℕ
microseconds ticks = ticks * tick_us

-- number, kind, data, phase, score, longest low run in ticks, silence in microseconds
unfoldable pub row_text : ℕ → Capture → Reading → List ℕ
row_text number capture reading =
    line_text
    (decimal_of number
    ∷ kind_text reading.decode.frame
    ∷ data_text reading.decode.frame
    ∷ signed_of reading.decode.phase_ticks
    ∷ decimal_of reading.decode.score
    ∷ decimal_of reading.low_run
    ∷ decimal_of (microseconds capture.silence)
    ∷ [])

-- number, BAD, refusal
unfoldable pub bad_text : ℕ → Refusal → List ℕ
bad_text number refusal = line_text (decimal_of number ∷ word "BAD" ∷ decimal_of (refusal_number refusal) ∷ [])

-- END, lines, decoded, refused
unfoldable pub end_text : Counts → List ℕ
end_text counts = line_text (word "END" ∷ decimal_of counts.lines ∷ decimal_of counts.decoded ∷ decimal_of counts.refused ∷ [])

-- ---- the limits
-- No row, BAD line or END line has more bytes, even if each number of 32 bits has ten digits.
abbrev pub row_max : ℕ
row_max = 45

abbrev pub bad_max : ℕ
bad_max = 17

abbrev pub end_max : ℕ
end_max = 37
