-- The bytes of a frame are those of the decode of its bits, and its kind is read with them. Assumes nothing.
use Prim.Native.Nat.{ℕ, zero, suc, ◌+◌, ◌-◌, ◌*◌, ◌/◌, ◌%◌, ◌^◌, ◌<◌, ◌≤◌, min}
use native.Mathlib.Omega.{arith}
use native.Mathlib.Nat.{div-one, not-suc-le-zero, le_of_suc-le-suc}
use native.Mathlib.Numerals.{add-one}
use mathlib.Core.Bool.{Bool, true, false}
use mathlib.Core.List.{List, [], ◌∷◌}
use mathlib.Core.Path.{◌≡◌, refl, ◌∙◌, ap}
use lib.ListN.{length, get_or}
use lib.Pow.{pow_mono}
use Rattle.laws.specs.Bit.{bit}
use Rattle.laws.specs.Packed.{packed}
use Rattle.laws.specs.Pick.{pick}
use Rattle.laws.proofs.Digits.{packed_same, packed_lt, packed_bits, packed_digit, digit_is}
use Rattle.laws.proofs.Tabulated.{length_tabulate, get_d_tabulate}
use Rattle.window.specs.Phase.{data_bit, stored_bits, data_byte, data_of}
use Rattle.halfbits.specs.Frame.{Frame, bits_8, bits_16, bits_24, bytes_of, bit_at, bits_of, frame_bits, AreBytes}
use Rattle.rx_decode.specs.Reading.{byte_of, frame_of}
use Rattle.frames.specs.ReadAs.{clean_weight, clean_weights, frame_weights, kind_of}
use Rattle.frames.proofs.Reading.{length_weights}

-- ---- the bits that are stored
odd : (b : Bool) → clean_weight b % 2 ≡ bit b
odd true = refl
odd false = refl

weight_at : (bs : List Bool) (j : ℕ) → j < length bs → get_or (clean_weights bs) j 0 % 2 ≡ bit (get_or bs j false)
unfolding clean_weights
weight_at [] j h = absurd (not-suc-le-zero h)
weight_at (b ∷ bs) zero h = odd b
weight_at (b ∷ bs) (suc j) h = weight_at bs j (le_of_suc-le-suc h)

stored_bit : (frame : List Bool) (j : ℕ) → j < length frame → data_bit (frame_weights frame) j ≡ bit (get_or frame j false)
unfolding frame_weights clean_weights
stored_bit frame j h = ap (λ k. get_or (clean_weights (true ∷ frame)) k 0 % 2) (add-one j) ∙ weight_at frame j h

byte_lt : (weights : List ℕ) (i : ℕ) → data_byte weights i < 256
byte_lt weights i =
    let n : ℕ = min 8 (stored_bits weights - i * 8) in
    let below : data_byte weights i < 2 ^ n = packed_lt 2 n (λ j. data_bit weights (i * 8 + j)) (λ j h. omega arith) in
    let most : 2 ^ n ≤ 2 ^ 8 = pow_mono {i = n} {j = 8} (omega arith) in
    omega (arith, below, most)

-- ---- a byte of them
pub as_many : (bytes : List ℕ) → length (bits_of bytes) ≡ 8 * length bytes
unfolding bits_of
as_many bytes = length_tabulate (8 * length bytes) (bit_at bytes)

module _ (bytes : List ℕ) (are : AreBytes bytes) (few : length bytes ≤ 8) (i : ℕ) (within : i < length bytes) where
  byte_bit : (j : ℕ) → j < 8 → data_bit (frame_weights (bits_of bytes)) (i * 8 + j) ≡ get_or bytes i 0 / 2 ^ (0 + (8 - 1 - j)) % 2
  unfolding bits_of bit_at
  byte_bit j h =
      let here : i * 8 + j < 8 * length bytes = omega arith in
      let byte : (i * 8 + j) / 8 ≡ i = omega arith in
      let place : 7 - (i * 8 + j) % 8 ≡ 0 + (8 - 1 - j) = omega arith in
      stored_bit (bits_of bytes) (i * 8 + j) (omega (arith, as_many bytes))
      ∙ ap bit (get_d_tabulate (8 * length bytes) (i * 8 + j) (bit_at bytes) false here)
      ∙ digit_is (get_or bytes ((i * 8 + j) / 8) 0 / 2 ^ (7 - (i * 8 + j) % 8) % 2) (omega arith)
      ∙ rw (byte, place)

  pub byte_is : byte_of (data_of (frame_weights (bits_of bytes))) i ≡ get_or bytes i 0
  unfolding byte_of data_of frame_weights clean_weights
  byte_is =
      let weights : List ℕ = frame_weights (bits_of bytes) in
      let eight : min 8 (stored_bits weights - i * 8) ≡ 8 = omega (arith, length_weights (true ∷ bits_of bytes), as_many bytes) in
      packed_digit 256 8 i (7 - i) (data_byte weights) (omega arith) (byte_lt weights)
      ∙ ap (λ n. packed 2 n (λ j. data_bit weights (i * 8 + j))) eight
      ∙ packed_same 2 8 (λ j. data_bit weights (i * 8 + j)) (λ j. get_or bytes i 0 / 2 ^ (0 + (8 - 1 - j)) % 2) byte_bit
      ∙ packed_bits 8 0 (get_or bytes i 0)
      ∙ ap (λ x. x % 256) (div-one (get_or bytes i 0))
      ∙ (let small = are i in omega arith)

-- ---- the kind
pub kind_is : (frame : Frame) → AreBytes (bytes_of frame) → frame_of (length (frame_bits frame)) (data_of (frame_weights (frame_bits frame))) ≡ kind_of frame
unfolding frame_of kind_of bytes_of pick
kind_is (bits_8 a) are = let byte = byte_is (a ∷ []) are (omega arith) in rw (as_many (a ∷ []), byte 0 (omega arith))
kind_is (bits_16 a b) are =
    let byte = byte_is (a ∷ b ∷ []) are (omega arith) in rw (as_many (a ∷ b ∷ []), byte 0 (omega arith), byte 1 (omega arith))
kind_is (bits_24 a b c) are =
    let byte = byte_is (a ∷ b ∷ c ∷ []) are (omega arith) in rw (as_many (a ∷ b ∷ c ∷ []), byte 0 (omega arith), byte 1 (omega arith), byte 2 (omega arith))
