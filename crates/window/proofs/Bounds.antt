-- The bounds in the definitions never cut anything off, and empty windows read alike. Assumes nothing.
use mathlib.Core.List.{List}
use mathlib.Core.Path.{◌≡◌, refl, sym, ◌∙◌}
use Prim.Native.Nat.{ℕ, zero, suc, ◌+◌, ◌*◌, ◌/◌, ◌%◌, ◌≤◌, min}
use native.Mathlib.Omega.{arith}
use native.Mathlib.Nat.{suc-add}
use lib.IntN.{ℤ}
use lib.ListN.{length, take}
use lib.Seq.{get_or_at, length-take-le}
use borrow.Author.Tests.{lt-ltb, le-ltb}
use Rattle.std.proofs.lemmas.Option.{unwrap_or-slice_get}
use Rattle.laws.specs.Packed.{packed}
use Rattle.laws.specs.Pick.{pick}
use Rattle.laws.proofs.Picked.{on_true, on_false}
use Rattle.window.specs.declared.SampleWindow.{SampleWindow}
use Rattle.window.specs.Window.{window_of, empty_window, tick_at, level_before, peek_at}
use Rattle.window.specs.Phase.{centre, early, late, stride_around, bits_from, bits_of, phase_of}
use Rattle.window.specs.Code.{byte_at}
use Rattle.window.specs.Bounds.{PadReadsAsFE, HighBeforeNothing, AllSampleBits, SeventyThreeBits, EmptyWindows}
use Rattle.window.proofs.Peeks.{byte_or_0, two_bytes}
use Rattle.window.proofs.Turns.{stride_bounds, at_end}

-- ---- the pad and what lies behind it
module _ (samples : List ℕ) (count : ℕ) (few : count ≤ 64) (have : count ≤ length samples) where
  pad : byte_or_0 (window_of samples count) count ≡ 255
  unfolding byte_at window_of
  pad =
      let n : min count 64 ≡ count = omega arith in
      rw (n, on_true (lt-ltb count (count + 1) (omega arith)), unwrap_or-slice_get)
      (get_or_at (take count samples) 255 _ 0 count (length-take-le count samples have))

  behind : byte_or_0 (window_of samples count) (count + 1) ≡ 0
  unfolding byte_at window_of
  behind = rw (on_false (le-ltb (count + 1) (min count 64 + 1) (omega arith)))

a_tick_late : (w : SampleWindow) (p k : ℕ) → p / 8 ≡ k → p % 8 ≡ 1 → byte_or_0 w k ≡ 255 → byte_or_0 w (k + 1) ≡ 0
    → packed 2 8 (λ (i : ℕ). tick_at w (p + i)) ≡ 0xFE
a_tick_late w p k place bit first second = sym (two_bytes w p (rw (place, second) (omega arith))) ∙ rw (place, bit, first, second)

pub pad_reads_as_FE : PadReadsAsFE
unfolding peek_at window_of
pad_reads_as_FE samples count few have =
    let place : (count * 8 + 1) / 8 ≡ count = omega arith in
    rw (on_true (lt-ltb ((count * 8 + 1) / 8) (min count 64 + 1) (omega arith)))
    (a_tick_late (window_of samples count) (count * 8 + 1) count place (omega arith) (pad samples count few have) (behind samples count few have))

pub high_before_nothing : HighBeforeNothing
unfolding level_before window_of tick_at pick
high_before_nothing samples k = refl

pub all_sample_bits : AllSampleBits
unfolding window_of empty_window
all_sample_bits = (λ samples count. omega arith, refl)

module _ (w : SampleWindow) (most : ℕ) (phase : ℤ) (more : ℕ) where
  -- at a position p with len bits read, none of which took fewer than 7 ticks
  enough : (f p len : ℕ) → 1 + 7 * len ≤ p → 73 ≤ f + len → bits_from (f + more) w most phase p len ≡ bits_from f w most phase p len
  unfolding bits_from stride_around
  enough zero p len h k = at_end w most phase (0 + more) p len (omega arith) ∙ sym (at_end w most phase 0 p len (omega arith))
  enough (suc f) p len h k =
      let s = stride_bounds (centre w phase p) (early w phase p) (late w phase p) in
      rw (suc-add f more, enough f (p + stride_around w phase p) (len + 1) (omega arith) (omega arith))

pub seventy_three_bits : SeventyThreeBits
unfolding bits_of
seventy_three_bits w most phase more = enough w most phase more 73 1 0 (omega arith) (omega arith)

pub empty_windows : EmptyWindows
unfolding phase_of bits_of window_of empty_window
empty_windows samples most phase =
    rw (at_end empty_window most phase 73 1 0 (omega arith), at_end (window_of samples 0) most phase 73 1 0 (omega arith))
