-- The words that the code writes are those of the bytes with one of them written. Assumes nothing.
use mathlib.Core.Path.{◌≡◌, sym, ◌∙◌}
use mathlib.Core.List.{List, [], ◌∷◌}
use Prim.Native.Nat.{ℕ, zero, suc, ◌+◌, ◌-◌, ◌*◌, ◌/◌, ◌%◌, ◌^◌, ◌<◌}
use native.Mathlib.Omega.{arith}
use native.Mathlib.Decide.{ℕ_discrete}
use lib.Dec.{eqb, lit<}
use lib.ListN.{get_or, set}
use lib.Seq.{get_or-set_same, get_or-set_other}
use borrow.Author.Tests.{eq-eqb, ne_eqb}
use Rattle.laws.specs.Packed.{packed}
use Rattle.laws.proofs.Digits.{packed_same}
use Rattle.laws.proofs.Picked.{on_true, on_false}
use Rattle.capture.specs.declared.Samples.{Samples}
use Rattle.capture.specs.Samples.{words_of, bytes_of, word_in, samples_with, samples_of, with_byte}
use Rattle.capture.specs.Code.{word_with}
use Rattle.capture.proofs.Words.{word_is, byte_put}
use Rattle.capture.proofs.Kept.{whole, byte_of_word, same_words}

-- words of 64 bits
abbrev pub Each64 : List ℕ → Type 0
Each64 [] = Unit {0}
Each64 (word ∷ words) = (word < 2 ^ 64) × Each64 words

pub each_64 : (words : List ℕ) → Each64 words → (j : ℕ) → get_or words j 0 < 2 ^ 64
each_64 [] fit j = lit< tt
each_64 (word ∷ words) fit zero = fit.0
each_64 (word ∷ words) fit (suc j) = each_64 words fit.1 j

module _ (s : Samples) (i byte : ℕ) (fit : Each64 (words_of s)) (one : byte < 256) where
  abbrev word : ℕ → ℕ
  word j = get_or (words_of s) j 0

  abbrev after : ℕ → ℕ → ℕ
  after j k = get_or (set (bytes_of s) i byte) (8 * j + (7 - k)) 0

  other : (j k : ℕ) → (8 * j + (7 - k) ≡ i → ⊥) → after j k ≡ word j / 256 ^ (7 - k) % 256
  other j k apart = get_or-set_other (bytes_of s) i (8 * j + (7 - k)) byte 0 apart ∙ byte_of_word s j (7 - k) (omega arith)

  here : (j : ℕ) → j < 8 → i / 8 ≡ j → after j (7 - i % 8) ≡ byte
  here j h e =
      let at : 8 * j + (7 - (7 - i % 8)) ≡ i = omega arith in
      rw at (get_or-set_same (bytes_of s) i byte 0 (omega (arith, whole s)))

  -- a word as the code makes it
  abbrev made : ℕ → ℕ
  made j = word_with (word j) (eqb (i / 8) j) (255 * 2 ^ (i % 8 * 8) % 2 ^ 64) (byte * 2 ^ (i % 8 * 8) % 2 ^ 64)

  made_is : (j : ℕ) → j < 8 → made j ≡ word_in (set (bytes_of s) i byte) j
  unfolding word_with word_in
  made_is j h = go (ℕ_discrete (i / 8) j)
    where
      go : Dec (i / 8 ≡ j) → made j ≡ packed 256 8 (after j)
      go (yes e) =
          on_true (eq-eqb (i / 8) j e) _ _
          ∙ byte_put (word j) (i % 8) byte (each_64 (words_of s) fit j) (omega arith) one (after j) (here j h e)
          (λ k p apart. sym (other j k (λ at. apart (omega arith))))
      go (no ne) =
          on_false (ne_eqb (i / 8) j ne) _ _
          ∙ sym (packed_same 256 8 (after j) (λ k. word j / 256 ^ (7 - k) % 256) (λ k p. other j k (λ at. ne (omega arith)))
          ∙ word_is (word j) (each_64 (words_of s) fit j))

  pub written : samples_with made ≡ with_byte s i byte
  unfolding with_byte samples_of
  written = same_words made (word_in (set (bytes_of s) i byte)) made_is
