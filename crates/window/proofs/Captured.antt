-- The samples that a window copies, with the pad behind them, are the definition's window. Assumes nothing.
use mathlib.Core.Path.{◌≡◌}
use mathlib.Core.List.{List, ◌∷◌, ◌++◌}
use Prim.Native.Nat.{ℕ, suc, ◌+◌, ◌-◌, ◌*◌, ◌≤◌, min}
use native.Mathlib.Omega.{arith}
use lib.ListN.{length, take, drop, set, replicate}
use lib.Seq.{set_at, length-take-le}
use Rattle.std.proofs.lemmas.List.{drop-replicate}
use Rattle.window.specs.Window.{window_with, window_of}

pub captured : (s b : List ℕ) (n k : ℕ) → b ≡ take n s → n ≡ min k 64 → length s ≡ 64
    → window_with (set (b ++ drop n (replicate 66 0)) n 255) (n + 1) (n * 8) ≡ window_of s k
unfolding window_of
captured s b n k eb en es =
    let few : n ≤ 64 = omega arith in
    let e : 66 - n ≡ suc (65 - n) = omega arith in
    let padded : set (take n s ++ replicate (66 - n) 0) n 255 ≡ take n s ++ (255 ∷ replicate (65 - n) 0) =
    rw e (set_at (take n s) 0 (replicate (65 - n) 0) 255 n (length-take-le n s (omega arith))) in
    rw (eb, drop-replicate {X = ℕ} n 66 0, padded, en)
