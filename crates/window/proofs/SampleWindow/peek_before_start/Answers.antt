-- `SampleWindow::peek_before_start` meets its contract. Assumes nothing.
use mathlib.Core.Path.{◌≡◌, refl, ◌∙◌}
use Prim.Native.Nat.{ℕ, ◌+◌, ◌<◌}
use native.Mathlib.Omega.{arith}
use native.Mathlib.Numerals.{add-one}
use native.Mathlib.Nat.{lt_of_lt_of_le}
use lib.IntN.{sub_ℕ}
use lib.Pow.{pow_mono}
use Rattle.laws.specs.Packed.{packed}
use Rattle.laws.proofs.Digits.{packed_lt}
use Rattle.window.specs.declared.SampleWindow.{SampleWindow}
use Rattle.window.specs.Window.{level_before}
use Rattle.window.proofs.Peeks.{level_lt, peek_before}
use Rattle.window.proofs.SampleWindow.peek_before_start.Invariants.{ticks}
use Rattle.window.proofs.SampleWindow.peek_before_start.Goals as goal

level : (w : SampleWindow) (at r : ℕ) → r ≡ level_before w (sub_ℕ at 128) → r < 2
level w at r e = rw e (level_lt w (sub_ℕ at 128))

small : (w : SampleWindow) (at n s : ℕ) → n < 8 → s ≡ packed 2 n (ticks w at) → s < 128
small w at n s h e =
    rw e (lt_of_lt_of_le (packed_lt 2 n (ticks w at) (λ i p. level_lt w (sub_ℕ (at + i) 128))) (pow_mono {j = 7} (omega arith)))

pub loop-offset-init : goal.loop-offset-init
unfolding packed
loop-offset-init c = refl

pub overflow_mul-sample : goal.overflow_mul-sample
overflow_mul-sample c = record { fits = omega (arith, small _ _ _ _ c.loop-offset-test.true c.loop-offset.invariant) }

pub overflow_add-sample : goal.overflow_add-sample
overflow_add-sample c =
    let r = level c.args.self.now (c.args.at + c.loop-offset.offset) _ c.sample_bit.ensures in
    record { fits = omega (arith, small _ _ _ _ c.loop-offset-test.true c.loop-offset.invariant, r) }

pub loop-offset-preserved : goal.loop-offset-preserved
unfolding packed
loop-offset-preserved c = rw (add-one, ← c.loop-offset.invariant, ← c.sample_bit.ensures)

pub returns : goal.returns
returns c =
    let e : c.loop-offset.offset ≡ 8 = omega arith in
    c.loop-offset.invariant ∙ rw (e, ← peek_before c.args.self.now c.args.at c.requires)
