-- The encoder's frame: the first bits of its three bytes. Assumes nothing.
use mathlib.Core.Path.{◌≡◌, refl, sym, ◌∙◌, ap, subst}
use mathlib.Core.Bool.{Bool, true, false}
use mathlib.Core.List.{List, [], ◌∷◌, ◌++◌, append-nil}
use Prim.Native.Nat.{ℕ, ◌≤◌}
use native.Mathlib.Omega.{arith}
use lib.Dec.{eqb, leb}
use lib.ListN.{length}
use borrow.Author.Tests.{eqb-true, le-leb}
use Rattle.laws.specs.Pick.{pick}
use Rattle.laws.specs.Tabulate.{tabulate}
use Rattle.laws.proofs.Picked.{on_true, on_false}
use Rattle.laws.proofs.Tabulated.{length_tabulate}
use Rattle.std.specs.Prelude.{Ok}
use Rattle.std.specs.Result.{result_map_both}
use Rattle.halfbits.specs.declared.HalfBitBuffer.{HalfBitBuffer}
use Rattle.halfbits.specs.declared.EncodeError.{EncodeError}
use Rattle.halfbits.specs.Frame.{Frame, bytes_of, bit_at, bits_of, frame_bits}
use Rattle.halfbits.specs.HalfBits.{store_of, buffer_of}
use Rattle.halfbits.specs.Encoding.{is_bit_count, frame_of, answer_of, written_to, encoded_of, FormsAgree}
use Rattle.halfbits.specs.Code.{half_bits, bytes_in}
use Rattle.halfbits.proofs.Halves.{bytes_are}

-- what holds of 8, 16 and 24 holds of every bit count of a frame
pub by_count : (P : ℕ → Type 0) → P 8 → P 16 → P 24 → (n : ℕ) → is_bit_count n ≡ true → P n
unfolding is_bit_count pick
by_count P p8 p16 p24 n h = go (eqb n 8) (eqb n 16) refl refl h
  where
    go : (a b : Bool) → eqb n 8 ≡ a → eqb n 16 ≡ b → pick a true (pick b true (eqb n 24)) ≡ true → P n
    go true b e f t = subst P (sym (eqb-true n 8 e)) p8
    go false true e f t = subst P (sym (eqb-true n 16 f)) p16
    go false false e f t = subst P (sym (eqb-true n 24 t)) p24

pub few : (n : ℕ) → is_bit_count n ≡ true → n ≤ 24
few n h = by_count (λ n. n ≤ 24) (omega arith) (omega arith) (omega arith) n h

module _ (first second third : ℕ) where
  bits_are : (n : ℕ) → is_bit_count n ≡ true → tabulate n (bit_at (first ∷ second ∷ third ∷ [])) ≡ frame_bits (frame_of n first second third)
  unfolding tabulate bit_at bits_of bytes_of frame_of pick
  bits_are n h = by_count (λ n. tabulate n (bit_at (first ∷ second ∷ third ∷ [])) ≡ frame_bits (frame_of n first second third)) refl refl refl n h

  pub as_many : (n : ℕ) → is_bit_count n ≡ true → length (frame_bits (frame_of n first second third)) ≡ n
  as_many n h = ap length (sym (bits_are n h)) ∙ length_tabulate n (bit_at (first ∷ second ∷ third ∷ []))

  -- seven bytes in front of others
  pub stored : (n all : ℕ) (others out : List ℕ) → is_bit_count n ≡ true → all ≡ half_bits (tabulate n (bit_at (first ∷ second ∷ third ∷ [])))
      → out ≡ bytes_in all ++ others → out ≡ store_of (frame_bits (frame_of n first second third)) ++ others
  stored n all others out h e f = f ∙ rw (e, bits_are n h, bytes_are (frame_bits (frame_of n first second third)))

-- seven bytes alone
pub none_behind : (bytes : List ℕ) → bytes ++ [] ≡ bytes
none_behind bytes = append-nil bytes

-- ---- the two forms
pub forms_agree : FormsAgree
unfolding answer_of written_to encoded_of buffer_of
forms_agree bits first second third out room =
    (same (is_bit_count bits) refl, λ counts. (buffer_of (frame_bits frame), on_true counts _ _, simp (on_true counts, on_true fits), both counts))
  where
    frame : Frame
    frame = frame_of bits first second third

    fits : leb 7 (length out) ≡ true
    fits = le-leb 7 (length out) room

    both : is_bit_count bits ≡ true → answer_of bits (length out) ≡ Ok (buffer_of (frame_bits frame)).length
    both counts = simp (on_true counts, on_true fits, as_many first second third bits counts)

    same : (t : Bool) → is_bit_count bits ≡ t → answer_of bits (length out) ≡ result_map_both (λ (buffer : HalfBitBuffer). buffer.length) (λ (e : EncodeError). e) (encoded_of bits frame)
    same true counts = simp (on_true counts, on_true fits, as_many first second third bits counts)
    same false counts = simp (on_false counts)
