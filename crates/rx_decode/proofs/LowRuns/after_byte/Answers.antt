-- `LowRuns::after_byte` meets its contract. The loop's invariant: the runs with the byte's ticks that are left are those with all eight.
-- Assumes nothing.
use mathlib.Core.Path.{◌≡◌, sym, ◌∙◌, ap}
use Prim.Native.Nat.{ℕ, ◌+◌, ◌<◌}
use native.Mathlib.Omega.{arith}
use native.Mathlib.Nat.{add-zero}
use Rattle.laws.specs.Tabulate.{tabulate}
use Rattle.rx_decode.specs.declared.LowRuns.{LowRuns}
use Rattle.rx_decode.specs.Code.{after_tick, after_ticks, level_in, after_byte}
use Rattle.rx_decode.proofs.Longest.{ticks_from, turn, from_start, at_end, tick-≤}
use Rattle.rx_decode.proofs.LowRuns.after_byte.Goals as goal

one_more : (byte at : ℕ) (runs next all : LowRuns) → at < 8 → after_ticks runs (ticks_from (level_in byte) at 8) ≡ all → next ≡ after_tick runs (level_in byte at)
    → after_ticks next (ticks_from (level_in byte) (at + 1) 8) ≡ all
unfolding tabulate after_ticks
one_more byte at runs next all h inv e =
    let f = level_in byte in
    e_next (ap f (sym (add-zero at))) ∙ sym (turn f at 1 8 (omega arith) runs) ∙ inv
  where
    e_next : level_in byte at ≡ level_in byte (at + 0) → after_ticks next (ticks_from (level_in byte) (at + 1) 8) ≡ after_ticks (after_tick runs (level_in byte (at + 0))) (ticks_from (level_in byte) (at + 1) 8)
    e_next z = ap (λ r. after_ticks r (ticks_from (level_in byte) (at + 1) 8)) (e ∙ ap (after_tick runs) z)

pub loop-at-init : goal.loop-at-init
unfolding after_byte
loop-at-init c = record { grown = omega arith; left = ap (after_ticks _) (from_start (level_in c.args.byte) 8) }

pub loop-at-preserved : goal.loop-at-preserved
loop-at-preserved c =
    let grown = tick-≤ c.loop-at.runs (level_in c.args.byte c.loop-at.at) in
    record {
      grown = rw c.after_tick-runs.ensures (omega (arith, grown));
      left = one_more _ _ _ _ _ (omega arith) c.loop-at.invariant.left c.after_tick-runs.ensures;
    }

pub returns : goal.returns
returns c = sym (at_end (level_in c.args.byte) c.loop-at.at 8 c.loop-at-test.false c.loop-at.runs) ∙ c.loop-at.invariant.left
