-- A loan of plain data, from its opening to its close. Assumes what the kit's walks assume (`Logic`).
use mathlib.Core.Path.{◌≡◌, sym, subst}
use Prim.Native.Nat.{ℕ}
use mathlib.Core.List.{[], ◌∷◌, List}
use seplogic.Ra.Ura.{Ura}
use base.Fraction.{full_share}
use mir.Syntax.{Ty, Body, Local}
use mir.Val.{Val}
use base.Logic.{ent, guard}
use base.Fml.{fat, Fml, fsep, Lft, Share, GName, flft, fobs, fauth, fbor, fobor}
use prog.Wp.{Calls, Loops}
use types.Logic.{Logic, sem}
use types.Kit.{Item, ‵, Post, ◌$◌, ◌∵◌, !, qed, move, use1, check, done, fsplit, fjoin, fpick, fpack}
use denote.Laws.{Is, shows}
use denote.Steps.{opens, closes, owned, facts}
use types.SemTy.{Body as LentBody}
use denote.Memory.{cell_at, part_at, part_of, mem}
use denote.Struct.Steps.{spelt}
use Rattle.walk.proofs.Data.{Data, Good}
use Rattle.walk.proofs.Locals.{Held, locals, swapped}
use Rattle.walk.proofs.Walk.{At}

-- ---- what is lent. A `Data` that can be has one machine type
module _ {M : Type 1} {𝓤 : Ura M} {𝓛 : Logic 𝓤} where
  open 𝓛 use {H}

  abbrev pub One : Data 𝓛 → Type 0
  One D = D.row.mir ≡ D.type ∷ []

  abbrev pub cell : (D : Data 𝓛) → ℕ → ℕ → D.row.Denot → Fml
  cell D b o x = fat full_share D.type b o (D.val x)

  -- a loan at (b, o) under the name γ for κ, of which the share q is held, where what is lent is x: as a function is handed it, and opened, where what lies there is y
  abbrev pub Loan : (D : Data 𝓛) → Lft → Share → GName → ℕ → ℕ → D.row.Denot → List (Item 𝓤)
  Loan D κ q γ b o x = ‵ (fobs γ (D.row.coded.code x)) ∷ ‵ (fbor κ (LentBody (mem D.row) b o γ)) ∷ ‵ (flft κ q) ∷ []

  abbrev pub Opened : (D : Data 𝓛) → Lft → Share → GName → ℕ → ℕ → D.row.Denot → D.row.Denot → List (Item 𝓤)
  Opened D κ q γ b o x y = ‵ (cell D b o y) ∷ ‵ (fobor κ q (LentBody (mem D.row) b o γ)) ∷ ‵ (fobs γ (D.row.coded.code x)) ∷ ‵ (fauth γ (D.row.coded.code x)) ∷ []

  -- the cell, as memory has it
  module _ (D : Data 𝓛) (one : One D) (b o : ℕ) (x : D.row.Denot) where
    abbrev there : List Ty → Fml
    there τs = cell_at full_share τs (D.val x ∷ []) b o

    in_cell : ent 𝓤 (sem 𝓛 (cell D b o x)) (sem 𝓛 (there D.row.mir))
    in_cell = subst (λ (τs : List Ty). ent 𝓤 (sem 𝓛 (cell D b o x)) (sem 𝓛 (there τs))) (sym one) (𝓛.laws.at_raw full_share D.type b o (D.val x))

    of_cell : ent 𝓤 (sem 𝓛 (there D.row.mir)) (sem 𝓛 (cell D b o x))
    of_cell = subst (λ (τs : List Ty). ent 𝓤 (sem 𝓛 (there τs)) (sem 𝓛 (cell D b o x))) (sym one) (𝓛.laws.raw_at full_share D.type b o (D.val x))

    -- what a cell holds lies in memory, and the other way round
    pub in_memory : Good D x → ent 𝓤 (sem 𝓛 (cell D b o x)) (sem 𝓛 (part_at D.row full_share x b o))
    unfolding part_of
    in_memory is =
        qed 𝓛 (‵ (cell D b o x) ∷ []) ∵ use1 𝓛 (‵ (there D.row.mir)) in_cell $ owned ! D.row (Is D.row) D.makes x _ is $ move ! (1 ∷ 0 ∷ []) $ fjoin ! $
        fpack ! (List Val) (λ us. fsep (cell_at full_share D.row.mir us b o) (D.row.own_val x us)) (D.val x ∷ []) $ done !

    pub of_memory : ent 𝓤 (sem 𝓛 (part_at D.row full_share x b o)) (guard 𝓤 (Good D x) (sem 𝓛 (cell D b o x)))
    unfolding part_of
    of_memory =
        qed 𝓛 (‵ (part_at D.row full_share x b o) ∷ []) ∵ fpick ! (λ vs. fsplit ! $ spelt ! D.row (Is D.row) (shows 𝓛 D.row) (λ y. D.val y ∷ []) D.tells full_share x vs b o $
        move ! (1 ∷ []) $ facts ! D.row (Is D.row) (shows 𝓛 D.row) x (D.val x ∷ []) (λ is. check ! is $ use1 𝓛 (‵ (cell D b o x)) of_cell $ done !))

  module _ {K : Type 0} {l : ℕ → ℕ} {ls : List Local} {vs : Held} {C : Calls 𝓤 H} {Λ : Loops 𝓤 H} {q : Post 𝓤 H} {c : Body} where
    -- a loan is opened, and closed at what then lies there
    pub opens_loan : K → (D : Data 𝓛) → One D → {κ : Lft} {s : Share} {γ : GName} (b o : ℕ) (x : D.row.Denot)
        → (Good D x → At 𝓛 K C Λ l ls vs (Opened D κ s γ b o x x) c q) → At 𝓛 K C Λ l ls vs (Loan D κ s γ b o x) c q
    opens_loan t D one {κ} {s} {γ} b o x k = record {
      go = swapped t (locals 𝓤 l ls vs) (Loan D κ s γ b o x) [] $ opens t tt D.row {h = x} b o (λ us.
          spelt t D.row (Is D.row) (shows 𝓛 D.row) (λ y. D.val y ∷ []) D.tells full_share x us b o $
          move t (1 ∷ []) $ facts t D.row (Is D.row) (shows 𝓛 D.row) x (D.val x ∷ []) (λ is. use1 𝓛 (‵ (cell D b o x)) (of_cell D one b o x) $
          swapped t (Opened D κ s γ b o x x) (locals 𝓤 l ls vs) [] $ (k is).go));
    }

    pub closes_loan : K → (D : Data 𝓛) → One D → {κ : Lft} {s : Share} {γ : GName} (b o : ℕ) {x : D.row.Denot} (y : D.row.Denot) → Good D y
        → At 𝓛 K C Λ l ls vs (Loan D κ s γ b o y) c q → At 𝓛 K C Λ l ls vs (Opened D κ s γ b o x y) c q
    closes_loan t D one {κ} {s} {γ} b o {x} y is k = record {
      go = swapped t (locals 𝓤 l ls vs) (Opened D κ s γ b o x y) [] $ use1 𝓛 (‵ (cell_at full_share D.row.mir (D.val y ∷ []) b o)) (in_cell D one b o y) $
          owned t D.row (Is D.row) D.makes y _ is $ move t (1 ∷ 0 ∷ []) $ closes t tt D.row y (D.val y ∷ []) b o $
          swapped t (Loan D κ s γ b o y) (locals 𝓤 l ls vs) [] $ k.go;
    }
