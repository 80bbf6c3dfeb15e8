-- Calls one after another, on a station that is sending or breaking: what every tick carries on holds after them. Assumes nothing.
use Prim.Native.Nat.{ℕ, zero, suc, ◌+◌, ◌≤◌, ◌<◌}
use native.Mathlib.Omega.{arith}
use native.Mathlib.Nat.{add-zero, add-suc, suc-add}
use mathlib.Core.Bool.{Bool, false}
use mathlib.Core.List.{List, [], ◌∷◌}
use mathlib.Core.Path.{◌≡◌, refl}
use lib.ListN.{replicate}
use Rattle.fsm.specs.declared.DaliBitbangPhy.{DaliBitbangPhy}
use Rattle.fsm.specs.Ticking.{tick_of}
use Rattle.machine.specs.States.{hears}
use Rattle.station_theorems.specs.Calls.{Call, after, after_all, Reached, called}
use Rattle.station_theorems.specs.Ticks.{level_in, levels_in, ticks_in}
use Rattle.station_theorems.proofs.Between.{Same, by_call}

pub reached_all : (cs : List Call) (s : DaliBitbangPhy) → Reached s → Reached (after_all cs s)
unfolding after_all
reached_all [] s r = r
reached_all (c ∷ cs) s r = reached_all cs (after c s) (called c r)

-- ---- what holds of every level of a list
unfoldable pub All : (Bool → Type 0) → List Bool → Type 0
All ok [] = Unit {0}
All ok (b ∷ bs) = ok b × All ok bs

pub all_any : (bs : List Bool) → All (λ _. Unit {0}) bs
unfolding All
all_any [] = tt
all_any (b ∷ bs) = (tt, all_any bs)

pub all_same : (n : ℕ) (b : Bool) → All (λ x. x ≡ b) (replicate n b)
unfolding All
all_same zero b = tt
all_same (suc n) b = (refl, all_same n b)

-- ---- the walk
-- `P n` is kept by every other call, and a tick that samples a level that is `ok` leads from `P n` to the next, up to `end`.
module _ (P : ℕ → DaliBitbangPhy → Type 0) (ok : Bool → Type 0) (end : ℕ)
    (deaf : (n : ℕ) (s : DaliBitbangPhy) → P n s → hears s.core.bus.bus_state ≡ false)
    (kept : (n : ℕ) (s t : DaliBitbangPhy) → Same s t → P n s → P n t)
    (ticks : (n : ℕ) (s : DaliBitbangPhy) (b : Bool) → ok b → n < end → P n s → P (suc n) (tick_of s b)) where
  pub walk : (cs : List Call) (n : ℕ) (s : DaliBitbangPhy) → All ok (levels_in cs) → P n s → n + ticks_in cs ≤ end → P (n + ticks_in cs) (after_all cs s)
  unfolding levels_in level_in after_all after All
  walk [] n s a h le = rw (add-zero n) h
  walk (c ∷ cs) n s a h le =
      by_call (λ c. All ok (levels_in (c ∷ cs)) → P n s → n + ticks_in (c ∷ cs) ≤ end → P (n + ticks_in (c ∷ cs)) (after_all (c ∷ cs) s))
      (λ b a h le.
      let next : P (suc n) (tick_of s b) = ticks n s b a.0 (omega arith) h in
      rw (add-suc n (ticks_in cs), ← suc-add n (ticks_in cs)) (walk cs (suc n) (tick_of s b) a.1 next (omega arith)))
      (λ c same none. rw none (λ a h le. walk cs n (after c s) a (kept n s _ (same s (deaf n s h)) h) le)) c a h le
