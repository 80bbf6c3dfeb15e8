-- One station more. Assumes nothing.
use Prim.Native.Nat.{ℕ, zero, suc, ◌<◌}
use native.Mathlib.Omega.{arith}
use mathlib.Core.Path.{◌≡◌, refl, ap}
use mathlib.Core.Bool.{Bool, true, false}
use mathlib.Core.List.{List, [], ◌∷◌}
use lib.ListN.{length, get_or, set}
use Rattle.laws.specs.Pick.{pick}
use Rattle.fsm.specs.declared.DaliBitbangPhy.{DaliBitbangPhy}
use Rattle.fsm.specs.Ticking.{tick_of}
use Rattle.bench_line.specs.Line.{all_ticked, level_left}

-- ---- one station more that has ticked
pub tick_next : (n : ℕ) (level : Bool) (d : DaliBitbangPhy) (ss : List DaliBitbangPhy)
    → set (all_ticked n level ss) n (tick_of (get_or (all_ticked n level ss) n d) level) ≡ all_ticked (suc n) level ss
unfolding all_ticked
tick_next zero level d [] = refl
tick_next zero level d (s ∷ ss) = refl
tick_next (suc n) level d [] = refl
tick_next (suc n) level d (s ∷ ss) = ap (λ (r : List DaliBitbangPhy). tick_of s level ∷ r) (tick_next n level d ss)

-- ---- the level, with what the first n stations drive
-- one more that drives high
pub left_high : (n : ℕ) (d : DaliBitbangPhy) (ss : List DaliBitbangPhy) → level_left n ss ≡ true → (get_or ss n d).core.bus.driven_high ≡ true
    → level_left (suc n) ss ≡ true
unfolding level_left pick
left_high zero d [] e h = refl
left_high zero d (s ∷ ss) e h = rw h
left_high (suc n) d [] e h = refl
left_high (suc n) d (s ∷ ss) e h = go s.core.bus.driven_high e (λ k. left_high n d ss k h)
  where
    go : (b : Bool) → pick b (level_left n ss) false ≡ true → (level_left n ss ≡ true → level_left (suc n) ss ≡ true) → pick b (level_left (suc n) ss) false ≡ true
    go true e f = f e
    go false e f = e

-- one that drives low
pub left_low : (i n : ℕ) (d : DaliBitbangPhy) (ss : List DaliBitbangPhy) → i < n → i < length ss → (get_or ss i d).core.bus.driven_high ≡ false
    → level_left n ss ≡ false
unfolding level_left pick
left_low i zero d ss p q h = absurd (let none : ⊥ = omega arith in none)
left_low i (suc n) d [] p q h = absurd (let none : ⊥ = omega arith in none)
left_low zero (suc n) d (s ∷ ss) p q h = rw h
left_low (suc i) (suc n) d (s ∷ ss) p q h = rw (left_low i n d ss (omega arith) (omega arith) h) (go s.core.bus.driven_high)
  where
    go : (b : Bool) → pick b false false ≡ false
    go true = refl
    go false = refl
