-- What each kind of answer says is so of the decode that it was read from. Assumes nothing.
use mathlib.Core.Path.{◌≡◌, refl, ◌∙◌, ap}
use mathlib.Core.List.{List, [], ◌∷◌}
use Prim.Native.Nat.{ℕ, ◌+◌, ◌*◌, ◌/◌, ◌%◌, ◌<◌}
use native.Mathlib.Omega.{arith}
use lib.Dec.{eqb}
use borrow.Author.Tests.{eqb-true, eqb-false}
use Rattle.laws.specs.Tabulate.{tabulate}
use Rattle.laws.proofs.Picked.{cases}
use Rattle.window.specs.declared.PhaseDecode.{PhaseDecode}
use Rattle.std.specs.Prelude.{Option, Some, None}
use Rattle.rx_decode.specs.declared.SniffedFrame.{SniffedFrame}
use Rattle.rx_decode.specs.declared.SniffedFrame.TheVariants.{DecodeFailed}
use Rattle.rx_decode.specs.Reading.{byte_of, frame_of, sniffed_of, byte_in}
use Rattle.rx_decode.specs.Kinds.{IsFrame, IsOther, SaysFrame, SaysByte}

-- a decode of 8, 16 or 24 bits begins with the bytes that its frame has
one_byte : (d : PhaseDecode) → d.bit_len ≡ 8 → IsFrame 8 (byte_of d.«data» 0 ∷ []) (Some d)
unfolding IsFrame tabulate
one_byte d e = (d, refl, e, refl)

parted : (a b : ℕ) → b < 256 → (a ∷ b ∷ []) ≡ ((a * 256 + b) / 256 ∷ (a * 256 + b) % 256 ∷ [])
parted a b h =
    let first : a ≡ (a * 256 + b) / 256 = omega arith in
    let second : b ≡ (a * 256 + b) % 256 = omega arith in
    rw (← first, ← second)

byte_lt : (bytes i : ℕ) → byte_of bytes i < 256
unfolding byte_of
byte_lt bytes i = omega arith

two_bytes : (d : PhaseDecode) → d.bit_len ≡ 16
    → IsFrame 16 ((byte_of d.«data» 0 * 256 + byte_of d.«data» 1) / 256 ∷ (byte_of d.«data» 0 * 256 + byte_of d.«data» 1) % 256 ∷ []) (Some d)
unfolding IsFrame tabulate
two_bytes d e = (d, refl, e, parted _ _ (byte_lt d.«data» 1))

three_bytes : (d : PhaseDecode) → d.bit_len ≡ 24 → IsFrame 24 (byte_of d.«data» 0 ∷ byte_of d.«data» 1 ∷ byte_of d.«data» 2 ∷ []) (Some d)
unfolding IsFrame tabulate
three_bytes d e = (d, refl, e, refl)

of_decode : (d : PhaseDecode) → SaysFrame (frame_of d.bit_len d.«data») (Some d)
unfolding frame_of SaysFrame IsOther
of_decode d =
    let P : SniffedFrame → Type 0 = λ frame. SaysFrame frame (Some d) in
    cases P (eqb d.bit_len 8) (λ e. one_byte d (eqb-true _ _ e)) (λ not_8.
    cases P (eqb d.bit_len 16) (λ e. two_bytes d (eqb-true _ _ e)) (λ not_16.
    cases P (eqb d.bit_len 24) (λ e. three_bytes d (eqb-true _ _ e)) (λ not-24.
    (d, refl, refl, eqb-false _ _ not_8, eqb-false _ _ not_16, eqb-false _ _ not-24))))

says : (found : Option PhaseDecode) → SaysFrame (sniffed_of found).frame found
unfolding sniffed_of SaysFrame
says None = refl
says (Some d) = of_decode d

-- ---- the promises of the readings, from the results that they name
pub tells_failed : (found : Option PhaseDecode) → found ≡ None → SaysFrame DecodeFailed found
unfolding SaysFrame
tells_failed found e = e

pub tells_frame : (found : Option PhaseDecode) (d : PhaseDecode) (frame : SniffedFrame) → found ≡ Some d → frame ≡ frame_of d.bit_len d.«data» → SaysFrame frame found
tells_frame found d frame is e = rw (is, e) (of_decode d)

-- ---- the backward byte
unfoldable length_in : Option PhaseDecode → ℕ
length_in None = 0
length_in (Some d) = d.bit_len

frame_length : (found : Option PhaseDecode) (bits : ℕ) (bytes : List ℕ) → IsFrame bits bytes found → length_in found ≡ bits
unfolding IsFrame length_in
frame_length found bits bytes (d, e, len, first) = ap length_in e ∙ len

none : length_in None ≡ 8 → ⊥
unfolding length_in
none e = omega (arith, e)

says_byte : (found : Option PhaseDecode) → SaysByte (byte_in found) found
unfolding byte_in SaysByte length_in
says_byte None = λ byte frame. none (frame_length None 8 (byte ∷ []) frame)
says_byte (Some d) =
    cases (λ r. SaysByte r (Some d)) (eqb d.bit_len 8) (λ e. one_byte d (eqb-true _ _ e))
    (λ not_8. λ byte frame. eqb-false _ _ not_8 (frame_length (Some d) 8 (byte ∷ []) frame))

pub tells_byte : (found : Option PhaseDecode) (r : Option ℕ) → r ≡ byte_in found → SaysByte r found
tells_byte found r e = rw e (says_byte found)
