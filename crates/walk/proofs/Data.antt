-- Plain data, as a walk by hand handles it: structs and truth values. Assumes what the kit's walks assume (`Logic`).
use mathlib.Core.List.{[], ◌∷◌, List}
use seplogic.Ra.Ura.{Ura}
use lib.Dec.{T}
use mir.Syntax.{Ty, ty_bool, ty_unit}
use mir.Val.{Val, WT, has_ty, vbool}
use types.Logic.{Logic}
use denote.RattleType.{RattleType}
use denote.Laws.{Is, Typed, Tells, Makes}
use denote.Plain.{bool_Tells, bool_Makes}
use denote.Builtin.{bool}
use denote.Struct.Declared.{Declared, row, fields as all_fields}
use denote.Struct.Struct.{Plains}
use denote.Struct.Laws.{Laws, val, vals, tells, lawful, makes}

-- the one type of a list
abbrev pub head_of : List Ty → Ty
head_of [] = ty_unit
head_of (τ ∷ τs) = τ

pub lone : (τs : List Ty) (v : Val) → Typed τs (v ∷ []) → T (has_ty (head_of τs) v) × WT v
lone [] v t = absurd t
lone (τ ∷ τs) v t = t.0

-- ---- plain data: a type whose values have one machine value each, and that owns only facts
pub record Data {M : Type 1} {𝓤 : Ura M} (𝓛 : Logic 𝓤) : Type 2 where
  pub row : RattleType
  pub val : row.Denot → Val
  pub tells : Tells row (Is row) (λ x. val x ∷ [])
  pub makes : Makes 𝓛 row (Is row)
  pub type : Ty
  pub typed : (x : row.Denot) → Is row x (val x ∷ []) → T (has_ty type (val x)) × WT (val x)

-- a struct of plain data, and a truth value
module _ {M : Type 1} {𝓤 : Ura M} (𝓛 : Logic 𝓤) where
  abbrev pub struct : (R : Declared) (L : Laws R) → Plains (all_fields R) → Data 𝓛
  struct R L pl = record { row = row R; val = val R L; tells = tells R L; makes = makes R pl 𝓛; type = head_of (row R).mir; typed = λ x is. lone (row R).mir (val R L x) ((lawful R L 𝓛).typed x (vals R L x) is) }

  abbrev pub truth : Data 𝓛
  truth = record { row = bool; val = vbool; tells = bool_Tells; makes = bool_Makes 𝓛; type = ty_bool; typed = λ x is. (tt, tt) }

module _ {M : Type 1} {𝓤 : Ura M} {𝓛 : Logic 𝓤} where
  -- the relation of a value to its machine value
  abbrev pub Good : (D : Data 𝓛) → D.row.Denot → Type 0
  Good D x = Is D.row x (D.val x ∷ [])
