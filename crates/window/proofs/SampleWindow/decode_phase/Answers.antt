-- `SampleWindow::decode_phase` meets its contract: what a phase reports is what the definition says of the bits that it read. Assumes nothing.
use mathlib.Core.Path.{◌≡◌, refl, ◌∙◌, sym}
use mathlib.Core.List.{List}
use Prim.Native.Nat.{ℕ, ◌<◌, ◌-◌, ◌^◌}
use native.Mathlib.Omega.{arith}
use lib.Dec.{ltb}
use lib.IntN.{ℤ, sub_ℕ}
use Rattle.std.specs.Prelude.{Some, None}
use Rattle.std.proofs.lemmas.Option.{same_Some}
use Rattle.laws.specs.Pick.{pick}
use Rattle.laws.proofs.Digits.{packed_lt}
use Rattle.window.specs.declared.SampleWindow.{SampleWindow}
use Rattle.window.specs.declared.Reading.{Reading}
use Rattle.window.specs.declared.PhaseDecode.{PhaseDecode}
use Rattle.window.specs.Phase.{PhaseBits, failed, weighed, bits_of, length_of, data_bit, stored_bits, data_of, decode_of, phase_of}
use Rattle.window.specs.Code.{summary_of, stored_of, placed_of}
use Rattle.window.proofs.Bytes.{placed_is}
use mir.Syntax.{w8}
use mir.Val.{to_z, of_z}
use mir.Facts.{to_z-of_z}
use Rattle.window.proofs.SampleWindow.decode_phase.Goals as goal

bit : (ws : List ℕ) (i : ℕ) → data_bit ws i < 2
bit ws i = omega arith

-- the stored bits of what was read have room in as many bits
stored_fit : (r : PhaseBits) (read : Reading) (n : ℕ) → Some read ≡ summary_of r → n ≡ stored_of read.bit_len → read.bits < 2 ^ n
unfolding summary_of
stored_fit failed read n e en = absurd cc
stored_fit (weighed ws) read n e en =
    rw (en, same_Some read _ e) (packed_lt 2 (stored_bits ws) (data_bit ws) (λ i h. bit ws i))

module _ (w : SampleWindow) (most : ℕ) (phase : ℤ) (bias : ℕ) (moved : sub_ℕ bias 128 ≡ phase) where
  -- `z` is the phase as it is read back from its bits
  nothing_read : (z : ℤ) (d : PhaseDecode) → z ≡ phase → None ≡ summary_of (bits_of w most (sub_ℕ bias 128)) → d ≡ decode_of z failed → d ≡ phase_of w most phase
  unfolding phase_of summary_of
  nothing_read z d back h e = e ∙ rw back (go (bits_of w most phase) (rw moved at h))
    where
      go : (r : PhaseBits) → None ≡ summary_of r → decode_of phase failed ≡ decode_of phase r
      go failed h = refl
      go (weighed ws) h = absurd cc

  bits_read : (z : ℤ) (read : Reading) (len n d : ℕ) → z ≡ phase → Some read ≡ summary_of (bits_of w most (sub_ℕ bias 128))
      → len ≡ pick (ltb 1 read.bit_len) (read.bit_len - 1) read.bit_len → n ≡ stored_of read.bit_len → d ≡ placed_of read.bits n
      → record { bit_len = len; phase_ticks = z; score = read.score; «data» = d } ≡ phase_of w most phase
  unfolding phase_of summary_of decode_of length_of data_of
  bits_read z read len n d back h el en ed = rw back (go (bits_of w most phase) (rw moved at h))
    where
      go : (r : PhaseBits) → Some read ≡ summary_of r → record { bit_len = len; phase_ticks = phase; score = read.score; «data» = d } ≡ decode_of phase r
      go failed h = absurd cc
      go (weighed ws) h =
          rw (ed, en, el, same_Some read _ h, placed_is (stored_bits ws) (data_bit ws) (omega arith) (bit ws))

pub placed-requires : goal.placed-requires
placed-requires c = (stored_fit _ _ _ (sym c.in-Some.is ∙ c.read_phase.ensures) c.stored.ensures, omega arith)

pub returns-in_default : goal.returns-in_default
returns-in_default c =
    let same : to_z w8 (of_z w8 c.args.phase_ticks) ≡ c.args.phase_ticks = to_z-of_z c.ranges.phase_ticks in
    nothing_read _ _ _ c.from_earliest.result (c.from_earliest.ensures ∙ same) _ _ same (sym c.in_default.is ∙ c.read_phase.ensures) c.failed.ensures

pub returns : goal.returns
returns c =
    let same : to_z w8 (of_z w8 c.args.phase_ticks) ≡ c.args.phase_ticks = to_z-of_z c.ranges.phase_ticks in
    bits_read _ _ _ c.from_earliest.result (c.from_earliest.ensures ∙ same) _ _ _ _ _ same (sym c.in-Some.is ∙ c.read_phase.ensures)
    c.reported.ensures c.stored.ensures c.placed.ensures
