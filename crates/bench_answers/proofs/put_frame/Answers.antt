-- `bench_answers::put_frame` meets its contract. Assumes nothing.
use Prim.Native.Nat.{◌/◌, ◌%◌}
use mathlib.Core.Path.{◌≡◌}
use native.Mathlib.Omega.{arith}
use mathlib.Core.List.{[], ◌∷◌}
use Rattle.text.specs.Letters.{word}
use Rattle.text.specs.Decimals.{decimal_of}
use Rattle.text.specs.Hex.{hexes_of}
use Rattle.bench_answers.specs.Answer.{kind_text, data_text}
use Rattle.bench_answers.specs.Code.{frame_text}
use Rattle.bench_answers.proofs.Lines.{put, then}
use Rattle.bench_answers.proofs.put_frame.Goals as goal

pub returns-in-Forward16 : goal.returns-in-Forward16
unfolding frame_text kind_text data_text
returns-in-Forward16 c =
    let kind = c.put_text-at.ensures in
    let top : c.in-Forward16.bits / 256 % 256 ≡ c.in-Forward16.bits / 256 = omega arith in
    let told = rw (c.to_be_bytes.ensures, top) at c.put_hex.ensures in
    rw c.in-Forward16.is (then (put (word "F16\t") (kind.value, kind.out_after)) (put (hexes_of (c.in-Forward16.bits / 256 ∷ c.in-Forward16.bits % 256 ∷ [])) (told.value, told.out_after)))

pub returns-in-Backward8 : goal.returns-in-Backward8
unfolding frame_text kind_text data_text
returns-in-Backward8 c =
    let kind = c.put_text-at-in-Backward8.ensures in
    let told = c.put_hex-in-Backward8.ensures in
    rw c.in-Backward8.is (then (put (word "B8\t") (kind.value, kind.out_after)) (put (hexes_of (c.in-Backward8.byte ∷ [])) (told.value, told.out_after)))

pub returns-in-Forward24 : goal.returns-in-Forward24
unfolding frame_text kind_text data_text
returns-in-Forward24 c =
    let kind = c.put_text-at-in-Forward24.ensures in
    let told = c.put_hex-in-Forward24.ensures in
    rw c.in-Forward24.is (then (put (word "F24\t") (kind.value, kind.out_after)) (put (hexes_of (c.in-Forward24.first ∷ c.in-Forward24.second ∷ c.in-Forward24.third ∷ [])) (told.value, told.out_after)))

pub returns-in-UnsupportedLength : goal.returns-in-UnsupportedLength
unfolding frame_text kind_text data_text
returns-in-UnsupportedLength c =
    let kind = c.put_text-at-in-UnsupportedLength.ensures in
    let told = c.put_decimal.ensures in
    rw c.in-UnsupportedLength.is (then (put (word "LEN\t") (kind.value, kind.out_after)) (put (decimal_of c.in-UnsupportedLength.bits) (told.value, told.out_after)))

pub returns-in-DecodeFailed : goal.returns-in-DecodeFailed
unfolding frame_text kind_text data_text
returns-in-DecodeFailed c =
    let both = c.put_text.ensures in
    rw c.in-DecodeFailed.is (put (word "FAIL\t-") (both.value, both.out_after))
