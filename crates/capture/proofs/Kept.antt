-- What a value keeps of its bytes: the statements of specs/Laws. Assumes nothing.
use mathlib.Core.Path.{◌≡◌, refl, sym, ◌∙◌, ap}
use mathlib.Core.List.{List, [], ◌∷◌}
use Prim.Native.Nat.{ℕ, zero, suc, ◌+◌, ◌-◌, ◌*◌, ◌/◌, ◌%◌, ◌^◌, ◌<◌, ◌≤◌}
use native.Mathlib.Omega.{arith}
use native.Mathlib.Decide.{dec_lt}
use native.Mathlib.Nat.{zero-div, zero-mod}
use lib.ListN.{length, get_or, set, replicate, length-set, get_or-eq_default}
use lib.Seq.{ext_get_or}
use Rattle.laws.specs.Packed.{packed}
use Rattle.laws.specs.Tabulate.{tabulate}
use Rattle.laws.proofs.Digits.{packed_same, packed_digit}
use Rattle.laws.proofs.Tabulated.{tabulate_same, length_tabulate, get_d_tabulate}
use Rattle.capture.specs.declared.Samples.{Samples}
use Rattle.capture.specs.Samples.{words_of, byte_in, bytes_of, word_in, samples_with, samples_of, with_byte}
use Rattle.capture.specs.Laws.{Whole, AreBytes, Small, KeepsAll, WritesOne, OneValue}
use Rattle.capture.proofs.Words.{word_is}

-- ---- the bytes of a value
pub no_byte : (words : List ℕ) (i : ℕ) → length words ≤ i / 8 → byte_in words i ≡ 0
unfolding byte_in
no_byte words i past = rw (get_or-eq_default words 0 {n = i / 8} past, zero-div, zero-mod)

pub whole : Whole
unfolding bytes_of
whole s = length_tabulate 64 (byte_in (words_of s))

-- at every position: past the last both are 0
pub byte_is : (s : Samples) (i : ℕ) → get_or (bytes_of s) i 0 ≡ byte_in (words_of s) i
unfolding bytes_of
byte_is s i = go (dec_lt i 64)
  where
    go : Dec (i < 64) → get_or (tabulate 64 (byte_in (words_of s))) i 0 ≡ byte_in (words_of s) i
    go (yes h) = get_d_tabulate 64 i (byte_in (words_of s)) 0 h
    go (no h) =
        get_or-eq_default (bytes_of s) 0 {n = i} (omega (arith, whole s)) ∙ sym (no_byte (words_of s) i (omega arith))

pub small : Small
unfolding byte_in
small s i = rw (byte_is s i) (omega arith)

-- the byte m of the word j
pub byte_of_word : (s : Samples) (j m : ℕ) → m < 8 → get_or (bytes_of s) (8 * j + m) 0 ≡ get_or (words_of s) j 0 / 256 ^ m % 256
unfolding byte_in
byte_of_word s j m h =
    let e : (8 * j + m) / 8 ≡ j = omega arith in
    let f : (8 * j + m) % 8 ≡ m = omega arith in
    byte_is s (8 * j + m) ∙ rw (e, f)

-- ---- the value of some bytes
pub same_words : (f g : ℕ → ℕ) → ((j : ℕ) → j < 8 → f j ≡ g j) → samples_with f ≡ samples_with g
unfolding tabulate
same_words f g e = ap (λ words. samples_with (λ j. get_or words j 0)) (tabulate_same 8 f g e)

word_kept : (bytes : List ℕ) (j : ℕ) → j < 8 → get_or (words_of (samples_of bytes)) j 0 ≡ word_in bytes j
unfolding samples_of tabulate
word_kept bytes j h = get_d_tabulate 8 j (word_in bytes) 0 h

byte_kept : (bytes : List ℕ) → AreBytes bytes → (i : ℕ) → i < 64 → get_or (bytes_of (samples_of bytes)) i 0 ≡ get_or bytes i 0
unfolding byte_in word_in
byte_kept bytes are i h =
    let j = i / 8 in
    let c = i % 8 in
    let e : 8 * j + (7 - (7 - c)) ≡ i = omega arith in
    byte_is (samples_of bytes) i
    ∙ ap (λ word. word / 256 ^ c % 256) (word_kept bytes j (omega arith))
    ∙ packed_digit 256 8 (7 - c) c (λ k. get_or bytes (8 * j + (7 - k)) 0) (omega arith) (λ k. are (8 * j + (7 - k)))
    ∙ ap (λ at. get_or bytes at 0) e

pub keeps_all : KeepsAll
keeps_all bytes long are =
    ext_get_or 0 (bytes_of (samples_of bytes)) bytes (whole (samples_of bytes) ∙ sym long) (λ i h. byte_kept bytes are i (rw (whole (samples_of bytes)) at h))

-- ---- one byte written
set_bytes : (bytes : List ℕ) (i byte : ℕ) → AreBytes bytes → byte < 256 → AreBytes (set bytes i byte)
set_bytes [] i byte are h k = are k
set_bytes (b ∷ bs) zero byte are h zero = h
set_bytes (b ∷ bs) zero byte are h (suc k) = are (suc k)
set_bytes (b ∷ bs) (suc i) byte are h zero = are 0
set_bytes (b ∷ bs) (suc i) byte are h (suc k) = set_bytes bs i byte (λ n. are (suc n)) h k

pub writes_one : WritesOne
unfolding with_byte
writes_one s i byte h =
    keeps_all (set (bytes_of s) i byte) (length-set (bytes_of s) i byte ∙ whole s) (set_bytes (bytes_of s) i byte (small s) h)

-- ---- the bytes say the value
pub one_value : OneValue
unfolding samples_of word_in
one_value s fits =
    same_words (word_in (bytes_of s)) (λ j. get_or (words_of s) j 0)
    (λ j h. packed_same 256 8 (λ k. get_or (bytes_of s) (8 * j + (7 - k)) 0) (λ k. get_or (words_of s) j 0 / 256 ^ (7 - k) % 256) (λ k p. byte_of_word s j (7 - k) (omega arith))
    ∙ word_is (get_or (words_of s) j 0) (fits j))

-- a capture that holds nothing yet
pub all_zero : bytes_of (samples_of (replicate 64 0)) ≡ replicate 64 0
unfolding bytes_of byte_in samples_of word_in packed tabulate
all_zero = refl
