-- The half-bits of a buffer as one number: how the code makes it of the bytes, and each half-bit in it. Assumes nothing.
use mathlib.Core.Path.{◌≡◌, sym, ◌∙◌, ap}
use mathlib.Core.List.{List}
use Prim.Native.Nat.{ℕ, suc, ◌+◌, ◌-◌, ◌*◌, ◌/◌, ◌%◌, ◌^◌, ◌<◌, ◌≤◌}
use native.Mathlib.Omega.{arith}
use native.Mathlib.Nat.{mod-eq_of_lt, div-one, add-zero, zero-div, lt_of_lt_of_le}
use native.Mathlib.Numerals.{add-one}
use lib.Pow.{pow_mono}
use lib.Dec.{eqb}
use lib.ListN.{length, get_or, get_or-eq_default}
use Rattle.laws.specs.Packed.{packed}
use Rattle.laws.proofs.Digits.{packed_same, packed_add, packed_lt, packed_zero, packed_bits, packed_digit}
use Rattle.halfbits.specs.declared.HalfBitBuffer.{HalfBitBuffer}
use Rattle.machine.specs.Sending.{half_bit_in, half_bits_in, tx_hb_of, releases_at}

-- as many bytes as have been taken
abbrev pub taken : List ℕ → ℕ → ℕ
taken bytes n = packed 2 (n * 8) (half_bit_in bytes)

half_bit_lt : (bytes : List ℕ) (at : ℕ) → half_bit_in bytes at < 2
half_bit_lt bytes at = omega arith

-- the eight of one byte
byte_is : (bytes : List ℕ) (n : ℕ) → get_or bytes n 0 < 256 → packed 2 8 (λ j. half_bit_in bytes (n * 8 + j)) ≡ get_or bytes n 0
byte_is bytes n small =
    packed_same 2 8 (λ j. half_bit_in bytes (n * 8 + j)) (λ j. get_or bytes n 0 / 2 ^ (0 + (8 - 1 - j)) % 2) (λ j h. in_byte j h)
    ∙ packed_bits 8 0 (get_or bytes n 0)
    ∙ ap (λ x. x % 256) (div-one (get_or bytes n 0))
    ∙ mod-eq_of_lt small
  where
    in_byte : (j : ℕ) → j < 8 → half_bit_in bytes (n * 8 + j) ≡ get_or bytes n 0 / 2 ^ (0 + (8 - 1 - j)) % 2
    in_byte j h =
        let of_byte : (n * 8 + j) / 8 ≡ n = omega arith in
        let place : 7 - (n * 8 + j) % 8 ≡ 0 + (8 - 1 - j) = omega arith in
        ap (λ k. get_or bytes k 0 / 2 ^ (7 - (n * 8 + j) % 8) % 2) of_byte ∙ ap (λ k. get_or bytes n 0 / 2 ^ k % 2) place

one_more : (bytes : List ℕ) (n : ℕ) → get_or bytes n 0 < 256 → taken bytes n * 256 + get_or bytes n 0 ≡ taken bytes (suc n)
one_more bytes n small =
    let e : suc n * 8 ≡ n * 8 + 8 = omega arith in
    sym (ap (λ k. packed 2 k (half_bit_in bytes)) e ∙ packed_add 2 (n * 8) 8 (half_bit_in bytes) ∙ ap (λ x. taken bytes n * 256 + x) (byte_is bytes n small))

pub more : (bytes : List ℕ) (bits at : ℕ) → get_or bytes at 0 < 256 → bits ≡ taken bytes at → bits * 256 + get_or bytes at 0 ≡ taken bytes (at + 1)
more bytes bits at small so_far = rw (so_far, add-one at) (one_more bytes at small)

pub few : (bytes : List ℕ) (n m : ℕ) → n ≤ m → taken bytes n < 2 ^ (m * 8)
few bytes n m h =
    lt_of_lt_of_le (packed_lt 2 (n * 8) (half_bit_in bytes) (λ i _. half_bit_lt bytes i)) (pow_mono (omega arith))

-- with no byte behind the seventh, the rest is released
all_taken : (bytes : List ℕ) → length bytes ≡ 7 → taken bytes 7 * 256 ≡ half_bits_in bytes
unfolding half_bits_in
all_taken bytes whole =
    sym (packed_add 2 56 8 (half_bit_in bytes) ∙ ap (λ x. taken bytes 7 * 256 + x) (packed_zero 2 8 (λ j. half_bit_in bytes (56 + j)) (λ j _. released j)) ∙ add-zero (taken bytes 7 * 256))
  where
    released : (j : ℕ) → half_bit_in bytes (56 + j) ≡ 0
    released j =
        let past : length bytes ≤ (56 + j) / 8 = rw whole (omega arith) in
        ap (λ x. x / 2 ^ (7 - (56 + j) % 8) % 2) (get_or-eq_default bytes 0 past) ∙ ap (λ x. x % 2) (zero-div (2 ^ (7 - (56 + j) % 8)))

pub ended : (bytes : List ℕ) (bits at : ℕ) → length bytes ≡ 7 → at ≤ 7 → 7 ≤ at → bits ≡ taken bytes at → bits * 256 ≡ half_bits_in bytes
ended bytes bits at whole within past so_far = let e : at ≡ 7 = omega arith in rw (so_far, e) (all_taken bytes whole)

-- A half-bit of what a start loads is that of the buffer's bytes.
pub releases_loaded : (hb : HalfBitBuffer) (at : ℕ) → at < 64 → releases_at (tx_hb_of hb) at ≡ eqb (half_bit_in hb.«data» at) 0
unfolding releases_at tx_hb_of half_bits_in
releases_loaded hb at within =
    ap (λ x. eqb x 0) (packed_digit 2 64 at (63 - at) (half_bit_in hb.«data») (omega arith) (half_bit_lt hb.«data»))
