-- `bench_line::level_left` meets its contract. Assumes nothing.
use Prim.Native.Nat.{ℕ, zero, suc}
use mathlib.Core.Path.{◌≡◌, refl, ◌∙◌}
use mathlib.Core.Bool.{Bool, true, false, ◌&&◌}
use mathlib.Core.List.{List, [], ◌∷◌}
use lib.ListN.{take}
use Rattle.std.proofs.Common.{rules, tests}
use Rattle.std.specs.List.{list_all}
use Rattle.std.proofs.lemmas.Iterator.{YieldsList-from_slice}
use Rattle.std.proofs.lemmas.Iterator.Search.{all_from_yields_List}
use Rattle.laws.specs.Pick.{pick}
use Rattle.fsm.specs.declared.DaliBitbangPhy.{DaliBitbangPhy}
use Rattle.bench_line.specs.Line.{level_left}
use Rattle.bench_line.proofs.level_left.Goals as goal

all_high : (n : ℕ) (ss : List DaliBitbangPhy) → list_all (λ (s : DaliBitbangPhy). s.core.bus.driven_high) (take n ss) ≡ level_left n ss
unfolding level_left pick
all_high zero ss = refl
all_high (suc n) [] = refl
all_high (suc n) (s ∷ ss) = rw (all_high n ss) (go s.core.bus.driven_high)
  where
    go : (b : Bool) → (b && level_left n ss) ≡ pick b (level_left n ss) false
    go true = refl
    go false = refl

pub returns : goal.returns
returns c =
    all_from_yields_List (λ s. s.core.bus.driven_high) _ _ c.all.result c.all.ensures.ran (YieldsList-from_slice (take c.args.count c.args.stations) cc) (λ x b q k. search (rules, tests))
    ∙ all_high c.args.count c.args.stations
