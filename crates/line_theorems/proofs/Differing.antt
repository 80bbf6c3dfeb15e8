-- The half-bits of two frames: where they first differ, and what stands around that place. Assumes nothing.
use Prim.Native.Nat.{ℕ, zero, suc, ◌+◌, ◌-◌, ◌*◌, ◌/◌, ◌%◌, ◌^◌, ◌<◌, ◌≤◌}
use native.Mathlib.Omega.{arith}
use native.Mathlib.Decide.{dec_lt}
use native.Mathlib.Nat.{not-suc-le-zero, zero-div}
use mathlib.Core.Bool.{Bool, true, false, not, false≢true}
use mathlib.Core.List.{List}
use mathlib.Core.Logic.{◌⊎◌, inl, inr}
use mathlib.Core.Path.{◌≡◌, refl, sym, ◌∙◌, ap}
use lib.Dec.{eqb}
use lib.ListN.{length, get_or, get_or-eq_default}
use Rattle.laws.specs.Bit.{bit}
use Rattle.laws.specs.Packed.{packed}
use Rattle.laws.specs.Pick.{pick}
use Rattle.laws.proofs.Picked.{cases}
use Rattle.laws.proofs.Tabulated.{length_tabulate}
use Rattle.halfbits.specs.HalfBits.{pulls, store_of, buffer_of}
use Rattle.halfbits.proofs.Levels.{bit_of, half_bits_are_the_wave}
use Rattle.halfbits.proofs.Halves.{pulls_first, pulls_second, pulls_later}
use Rattle.frames.specs.Sends.{FitsBuffer}
use Rattle.frames.specs.OneFrame.{OneWave}
use Rattle.frames.proofs.SendingTicks.{read_back}
use Rattle.line_theorems.specs.TwoSenders.{pulls_in}
use Rattle.line_theorems.specs.Clash.{driven_at}

-- ---- the half-bits that the encoder wrote are those of the wave
one_or_zero : (digit : ℕ) → digit < 2 → eqb digit 1 ≡ not (eqb digit 0)
one_or_zero zero h = refl
one_or_zero (suc zero) h = refl
one_or_zero (suc (suc n)) h = absurd (let none : ⊥ = omega arith in none)

module _ (bits : List Bool) (j : ℕ) where
  abbrev byte : ℕ
  byte = get_or (store_of bits) (j / 8) 0

  written : j < 56 → pulls_in (buffer_of bits) j ≡ pulls bits j
  unfolding pulls_in buffer_of pulls
  written h = one_or_zero (byte / 2 ^ (7 - j % 8) % 2) (omega arith) ∙ ap not (read_back bits j h)

  -- past the seventh byte
  unwritten : 56 ≤ j → pulls_in (buffer_of bits) j ≡ false
  unfolding pulls_in buffer_of store_of
  unwritten h =
      let none : byte ≡ 0 = get_or-eq_default (store_of bits) 0 (omega (arith, length_tabulate 7 (λ i. packed 2 8 (λ j. bit (pulls bits (8 * i + j)))))) in
      rw (none, zero-div (2 ^ (7 - j % 8)))

  pub pulls_in_lem : FitsBuffer bits → pulls_in (buffer_of bits) j ≡ pulls bits j
  pulls_in_lem fits = go (dec_lt j 56)
    where
      go : Dec (j < 56) → pulls_in (buffer_of bits) j ≡ pulls bits j
      go (yes within) = written within
      go (no past) = unwritten (omega (arith, past)) ∙ sym (pulls_later bits j (omega (arith, past)))

-- ---- the first that differs
same_or_not : (x y : Bool) → Dec (x ≡ y)
same_or_not true true = yes refl
same_or_not true false = no (λ e. false≢true (sym e))
same_or_not false true = no false≢true
same_or_not false false = yes refl

-- of two rows of half-bits
pub record Differs (these those : ℕ → Bool) (j : ℕ) : Type 0 where
  pub same : (i : ℕ) → i < j → these i ≡ those i
  pub here : these j ≡ those j → ⊥

module _ (these those : ℕ → Bool) where
  look : (n : ℕ) → ((i : ℕ) → i < n → these i ≡ those i) ⊎ ((j : ℕ) × Differs these those j)
  look zero = inl (λ i h. absurd (not-suc-le-zero h))
  look (suc n) = go (look n) (same_or_not (these n) (those n))
    where
      longer : ((i : ℕ) → i < n → these i ≡ those i) → these n ≡ those n → (i : ℕ) → i < suc n → Dec (i < n) → these i ≡ those i
      longer same e i h (yes before) = same i before
      longer same e i h (no last) = let at : i ≡ n = omega (arith, last) in rw at e

      go : ((i : ℕ) → i < n → these i ≡ those i) ⊎ ((j : ℕ) × Differs these those j) → Dec (these n ≡ those n)
          → ((i : ℕ) → i < suc n → these i ≡ those i) ⊎ ((j : ℕ) × Differs these those j)
      go (inl same) (yes e) = inl (λ i h. longer same e i h (dec_lt i n))
      go (inl same) (no d) = inr (n, record { same = same; here = d })
      go (inr found) last = inr found

-- Rows with different waves differ somewhere: past both there is nothing to differ.
pub differ : (these those : List Bool) → (OneWave these those → ⊥) → (j : ℕ) × Differs (pulls these) (pulls those) j
differ these those apart = go (look (pulls these) (pulls those) all)
  where
    all : ℕ
    all = 2 * length these + 2 * length those + 2

    everywhere : ((i : ℕ) → i < all → pulls these i ≡ pulls those i) → (i : ℕ) → Dec (i < all) → pulls these i ≡ pulls those i
    everywhere same i (yes within) = same i within
    everywhere same i (no past) = pulls_later these i (omega (arith, past)) ∙ sym (pulls_later those i (omega (arith, past)))

    go : ((i : ℕ) → i < all → pulls these i ≡ pulls those i) ⊎ ((j : ℕ) × Differs (pulls these) (pulls those) j) → (j : ℕ) × Differs (pulls these) (pulls those) j
    go (inl same) =
        absurd (apart (λ tick. half_bits_are_the_wave these tick ∙ ap not (everywhere same (tick / 4) (dec_lt (tick / 4) all)) ∙ sym (half_bits_are_the_wave those tick)))
    go (inr found) = found

-- ---- around it
-- a half-bit that pulls is one of a bit's two
within : (bits : List Bool) (j : ℕ) → pulls bits j ≡ true → j < 2 * length bits + 2
within bits j e = go (dec_lt j (2 * length bits + 2))
  where
    go : Dec (j < 2 * length bits + 2) → j < 2 * length bits + 2
    go (yes h) = h
    go (no past) = absurd (false≢true (sym (pulls_later bits j (omega (arith, past))) ∙ e))

-- a bit that pulls its first half releases its second
one_half : (bits : List Bool) (k : ℕ) → pulls bits (2 * k) ≡ true → pulls bits (2 * k + 1) ≡ false
one_half bits k first =
    let inside = within bits (2 * k) first in
    pulls_second bits k (omega arith) ∙ ap not (sym (pulls_first bits k (omega arith)) ∙ first)

-- So where two running pull, the second is a first half.
odd_if_next : (bits : List Bool) (j : ℕ) → pulls bits j ≡ true → pulls bits (suc j) ≡ true → j % 2 ≡ 1
odd_if_next bits j this next = go (dec_lt (j % 2) 1)
  where
    go : Dec (j % 2 < 1) → j % 2 ≡ 1
    go (yes even) =
        let this_is : j ≡ 2 * (j / 2) = omega arith in
        let next_is : 2 * (j / 2) + 1 ≡ suc j = omega arith in
        absurd (false≢true (sym (one_half bits (j / 2) (ap (pulls bits) (sym this_is) ∙ this)) ∙ ap (pulls bits) next_is ∙ next))
    go (no odd) = omega (arith, odd)

-- And never three running pull.
pub never_three : (bits : List Bool) (j : ℕ) → pulls bits j ≡ true → pulls bits (suc j) ≡ true → pulls bits (suc (suc j)) ≡ false
never_three bits j this next =
    let odd = odd_if_next bits j this next in
    let next_is : 2 * suc (j / 2) ≡ suc j = omega arith in
    let then_is : suc (suc j) ≡ 2 * suc (j / 2) + 1 = omega arith in
    ap (pulls bits) then_is ∙ one_half bits (suc (j / 2)) (ap (pulls bits) next_is ∙ next)

-- one releases there, and the other pulls
module _ (loser winner : List Bool) (j : ℕ) (same : (i : ℕ) → i < j → pulls loser i ≡ pulls winner i)
    (released : pulls loser j ≡ false) (pulled : pulls winner j ≡ true) where
  -- both pull the first half of the start bit
  pub not_first : 0 < j
  not_first = go (dec_lt 0 j)
    where
      go : Dec (0 < j) → 0 < j
      go (yes h) = h
      go (no zeroth) =
          let e : j ≡ 2 * 0 = omega (arith, zeroth) in
          absurd (false≢true (sym released ∙ ap (pulls loser) e ∙ pulls_first loser 0 (omega arith)))

  pub in_winner : j < 2 * length winner + 2
  in_winner = within winner j pulled

  -- The loser's frame may be over there, but by no more than one bit, since every bit of the winner's pulls.
  pub near_loser : j ≤ 2 * length loser + 3
  near_loser = go (dec_lt j (2 * length loser + 4))
    where
      not_self : (b : Bool) → b ≡ false → not b ≡ false → ⊥
      not_self true e f = false≢true (sym e)
      not_self false e f = false≢true (sym f)

      go : Dec (j < 2 * length loser + 4) → j ≤ 2 * length loser + 3
      go (yes h) = omega arith
      go (no past) =
          let k : ℕ = suc (length loser) in
          let inside : k ≤ length winner = omega (arith, in_winner, past) in
          let first : pulls winner (2 * k) ≡ false = sym (same (2 * k) (omega (arith, past))) ∙ pulls_later loser (2 * k) (omega arith) in
          let second : pulls winner (2 * k + 1) ≡ false = sym (same (2 * k + 1) (omega (arith, past))) ∙ pulls_later loser (2 * k + 1) (omega arith) in
          absurd (not_self (bit_of winner k) (sym (pulls_first winner k inside) ∙ first) (sym (pulls_second winner k inside) ∙ second))

  -- A second half is the first to differ only where the loser's frame is over.
  odd_is_past : j % 2 ≡ 1 → j ≡ 2 * length loser + 3
  odd_is_past odd = go (dec_lt (length loser) (j / 2))
    where
      go : Dec (length loser < j / 2) → j ≡ 2 * length loser + 3
      go (yes past) = omega (arith, past, near_loser, odd)
      go (no inside) =
          let k : ℕ = j / 2 in
          let second : j ≡ 2 * k + 1 = omega arith in
          let one : bit_of loser k ≡ bit_of winner k
          = sym (pulls_first loser k (omega (arith, inside))) ∙ same (2 * k) (omega (arith, odd)) ∙ pulls_first winner k (omega (arith, in_winner)) in
          absurd (false≢true (sym released ∙ ap (pulls loser) second ∙ pulls_second loser k (omega (arith, inside)) ∙ ap not one
          ∙ sym (pulls_second winner k (omega (arith, in_winner))) ∙ ap (pulls winner) (sym second) ∙ pulled))

  -- Frames of 16 and 24 bits: the winner has sampled by tick 216. It is a 24 bit frame's last bit that takes so long.
  pub by_216 : (length loser ≡ 16) ⊎ (length loser ≡ 24) → length winner ≤ 24 → pick (pulls winner (suc j)) (driven_at j + 10) (driven_at j + 6) + 14 ≤ 216
  by_216 lengths few =
      cases (λ clash. clash + 14 ≤ 216) (pulls winner (suc j)) (λ next. two_running (odd_is_past (odd_if_next winner j pulled next)) lengths)
      (λ _. go (dec_lt (j % 2) 1))
    where
      two_running : j ≡ 2 * length loser + 3 → (length loser ≡ 16) ⊎ (length loser ≡ 24) → driven_at j + 10 + 14 ≤ 216
      two_running e (inl short) = omega arith
      two_running e (inr long) = omega (arith, in_winner)

      go : Dec (j % 2 < 1) → driven_at j + 6 + 14 ≤ 216
      go (yes even) = omega (arith, in_winner)
      go (no odd) = let later = two_running (odd_is_past (omega (arith, odd))) lengths in omega (arith, later)
