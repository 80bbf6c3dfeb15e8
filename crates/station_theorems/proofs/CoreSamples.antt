-- What a sample keeps of a capture's places, and what it does to the run of highs. Assumes nothing.
use Prim.Native.Nat.{ℕ, ◌+◌, ◌*◌, ◌%◌, ◌≤◌, ◌<◌, min}
use native.Mathlib.Omega.{arith}
use mathlib.Core.Bool.{Bool, true, false}
use mathlib.Core.Path.{◌≡◌, refl}
use lib.Dec.{eqb}
use borrow.Author.Tests.{eqb-true, eqb-false}
use Rattle.laws.specs.Pick.{pick}
use Rattle.laws.proofs.Picked.{cases}
use Rattle.machine.specs.declared.Rx.{Rx}
use Rattle.fsm.specs.Rx.{sampled, high_run}

-- `idle` is the run of highs before the sample
pub record Sampled (high : Bool) (idle : ℕ) (r' : Rx) : Type 0 where
  pub run : r'.rx_idle ≡ pick high (min (idle + 1) 255) 0
  pub bits : r'.rx_bit_cnt ≤ 7
  pub place : r'.rx_pos ≤ 63
  pub enough : r'.rx_pos < 63 → r'.rx_idle + 2 ≤ r'.rx_pos * 8 + r'.rx_bit_cnt

-- the run of highs grows by one at most
run_up : (high : Bool) (n : ℕ) → pick high (min (n + 1) 255) 0 ≤ n + 1
unfolding pick
run_up true n = omega arith
run_up false n = omega arith

filling : (k at idle run : ℕ) → k ≡ 7 → run ≤ idle + 1 → (at < 63 → idle + 2 ≤ at * 8 + k) → min (at + 1) 63 < 63 → run + 2 ≤ min (at + 1) 63 * 8 + 0
filling k at idle run e up h below = omega (arith, e, up, h (omega (arith, below)), below)

shifting : (k at idle run : ℕ) → (k ≡ 7 → ⊥) → k ≤ 7 → run ≤ idle + 1 → (at < 63 → idle + 2 ≤ at * 8 + k) → at < 63 → run + 2 ≤ at * 8 + (k + 1) % 256
shifting k at idle run ne le up h below = omega (arith, ne, le, up, h below)

pub sampled_keeps : (r : Rx) (high : Bool) → r.rx_bit_cnt ≤ 7 → r.rx_pos ≤ 63 → (r.rx_pos < 63 → r.rx_idle + 2 ≤ r.rx_pos * 8 + r.rx_bit_cnt)
    → Sampled high r.rx_idle (sampled r high)
unfolding sampled high_run
sampled_keeps r high le place enough =
    cases (Sampled high r.rx_idle) (eqb r.rx_bit_cnt 7)
    (λ e. record {
      run = refl;
      bits = omega arith;
      place = omega arith;
      enough = filling _ _ _ _ (eqb-true r.rx_bit_cnt 7 e) (run_up high r.rx_idle) enough;
    })
    (λ e. record {
      run = refl;
      bits = small _ (eqb-false r.rx_bit_cnt 7 e) le;
      place = place;
      enough = shifting _ _ _ _ (eqb-false r.rx_bit_cnt 7 e) le (run_up high r.rx_idle) enough;
    })
  where
    small : (k : ℕ) → (k ≡ 7 → ⊥) → k ≤ 7 → (k + 1) % 256 ≤ 7
    small k ne le = omega (arith, ne, le)

-- both runs of highs are the same one, below sixteen
pub runs_agree : (high : Bool) (idle run : ℕ) → idle ≡ run → idle ≤ 15 → pick high (min (idle + 1) 255) 0 ≡ pick high (min (run + 1) 65535) 0
unfolding pick
runs_agree true idle run e le = omega (arith, e, le)
runs_agree false idle run e le = refl
