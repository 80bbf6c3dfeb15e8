-- `SampleWindow::peek_before_start` meets its contract. The loop's invariant: the ticks read so far are packed, the first on top. Assumes nothing.
use mathlib.Core.Path.{◌≡◌}
use Prim.Native.Nat.{ℕ, ◌+◌}
use lib.IntN.{sub_ℕ}
use Rattle.laws.specs.Packed.{packed}
use Rattle.window.specs.declared.SampleWindow.{SampleWindow}
use Rattle.window.specs.Window.{level_before}
use Rattle.window.proofs.SampleWindow.peek_before_start.Given as goal

-- the ticks from a position on
abbrev pub ticks : SampleWindow → ℕ → ℕ → ℕ
ticks w at i = level_before w (sub_ℕ (at + i) 128)

abbrev pub invariant-loop-offset : goal.invariant-loop-offset
invariant-loop-offset l = l.sample ≡ packed 2 l.offset (ticks l.self l.at)
