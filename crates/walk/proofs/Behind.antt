-- Steps of a walk by hand on what stands behind a reference: it is read or set, whole or a part of it.
-- Assumes what the kit's walks assume (`Logic`).
use mathlib.Core.Path.{◌≡◌, sym, ◌∙◌, ap, subst}
use Prim.Native.Nat.{ℕ, zero, ◌+◌}
use mathlib.Core.Option.{Option, some}
use mathlib.Core.List.{[], ◌∷◌, List, ◌++◌}
use seplogic.Ra.Ura.{Ura}
use base.Fraction.{full_share}
use lib.Dec.{T}
use mir.Syntax.{assign, Ty, place, copy, deref, field, ty_struct, Tys, Sym, rv_opd, Opd as Operand, Body, seq, Local}
use mir.Val.{Val, Vals, WT, has_ty, vptr, vstruct}
use base.Fml.{fat}
use mir.Fields.{get_v, set_v}
use prog.Memory.{field_at}
use prog.Wp.{Spot, Calls, Loops, Wp, after_seq}
use types.Logic.{Logic}
use types.Kit.{Item, ‵, Post, any_q, post, ◌$◌}
use types.Part.{Part, whole, sub, look_in, store_in}
use types.Run.{look, load, hop, of_opd, assigns, assigns_last, Writes, Finds}
use Rattle.walk.proofs.Locals.{Held, holding, locals, blocks, at, type_of, twice, onward, follow, fields, followed, nth_local, span, nth_after, put_after, spot_local}
use Rattle.walk.proofs.Walk.{At, Gets}

-- a struct's cell, and the way to its field k
abbrev pub struct_cell : {M : Type 1} (𝓤 : Ura M) → Sym → Tys → ℕ → ℕ → Vals → Item 𝓤
struct_cell 𝓤 ν τs b o us = ‵ (fat full_share (ty_struct ν τs) b o (vstruct us))

leads : (ν : Sym) (τs : Tys) (b o k : ℕ) {τ : Ty} {d : ℕ} → field_at zero τs k ≡ some (τ, d) → follow (ty_struct ν τs, b, o) (k ∷ []) ≡ some (τ, b, o + d)
leads ν τs b o k w = ap (λ (f : Option (Ty × ℕ)). onward f (λ p. some (p.0, b, o + p.1))) w

module _ {M : Type 1} {𝓤 : Ura M} {𝓛 : Logic 𝓤} where
  open 𝓛 use {H}

  module _ {K : Type 0} (l : ℕ → ℕ) (ls : List Local) (vs : Held) where
    found : K → (x : Item 𝓤) (X : List (Item 𝓤)) {i : ℕ} {σ τ : Ty} {sp : Spot 𝓤 H} (b o : ℕ) (ks : List ℕ) → type_of ls i ≡ some σ → vs i ≡ some (vptr b o)
        → follow (τ, b, o) ks ≡ some sp → Finds K 𝓛 (locals 𝓤 l ls vs ++ (x ∷ X)) (blocks l ls) (place i (deref τ ∷ fields ks)) sp
    found t x X {i} {σ} {τ} {sp} b o ks e h w = at t (spot_local 𝓛 l ls i σ e) (hop t (look t (twice i) (nth_local 𝓛 l ls vs (x ∷ X) i σ e ∙ ap (holding 𝓤 σ (l i)) h)) (followed t ks (τ, b, o) sp w))

    stored : K → {x : Item 𝓤} (X : List (Item 𝓤)) {sp : Spot 𝓤 H} {v v₀ : Val} {back : Val → Item 𝓤} → Part K 𝓛 x full_share sp.0 sp.1 sp.2 v₀ back → T (has_ty sp.0 v) × WT v
        → Writes K 𝓛 (locals 𝓤 l ls vs ++ (x ∷ X)) sp.0 sp.1 sp.2 v (locals 𝓤 l ls vs ++ (back v ∷ X))
    stored t {x} X {sp} {v} {v₀} {back} p fits =
        subst (Writes K 𝓛 (locals 𝓤 l ls vs ++ (x ∷ X)) sp.0 sp.1 sp.2 v) (put_after 𝓛 l ls vs x (back v) X)
        (store_in t (span 𝓛 ls) (subst (λ (j : Item 𝓤). Part K 𝓛 j full_share sp.0 sp.1 sp.2 v₀ back) (sym (nth_after 𝓛 l ls vs x X)) p) fits)

  -- ---- behind a reference, which local i holds: the cell x stands there, first after the locals, and the part at the path ks is read or set
  module _ {K : Type 0} {l : ℕ → ℕ} {ls : List Local} {vs : Held} {x : Item 𝓤} {X : List (Item 𝓤)} where
    pub behind : K → {i : ℕ} {σ τ : Ty} {sp : Spot 𝓤 H} {v : Val} {back : Val → Item 𝓤} (b o : ℕ) (ks : List ℕ) → type_of ls i ≡ some σ → vs i ≡ some (vptr b o)
        → follow (τ, b, o) ks ≡ some sp → Part K 𝓛 x full_share sp.0 sp.1 sp.2 v back → Gets 𝓛 K l ls vs (x ∷ X) (copy (place i (deref τ ∷ fields ks))) v
    behind t {sp = sp} {v = v} {back = back} b o ks e h w p = record {
      go = load t (found l ls vs t x X b o ks e h w) (look_in t (span 𝓛 ls) (subst (λ (j : Item 𝓤). Part K 𝓛 j full_share sp.0 sp.1 sp.2 v back) (sym (nth_after 𝓛 l ls vs x X)) p));
    }

    -- a store there, as a statement before the rest and as the last of its part
    module _ {C : Calls 𝓤 H} {Λ : Loops 𝓤 H} {q : Post 𝓤 H} where
      -- what `stores` says; the laws of fields below rest on this one
      storing : K → {i : ℕ} {a : Operand} {c : Body} {σ τ : Ty} {sp : Spot 𝓤 H} {v v₀ : Val} {left : Val → Item 𝓤} (b o : ℕ) (ks : List ℕ) → type_of ls i ≡ some σ → vs i ≡ some (vptr b o)
          → Gets 𝓛 K l ls vs (x ∷ X) a v → follow (τ, b, o) ks ≡ some sp → Part K 𝓛 x full_share sp.0 sp.1 sp.2 v₀ left → T (has_ty sp.0 v) × WT v
          → At 𝓛 K C Λ l ls vs (left v ∷ X) c q → At 𝓛 K C Λ l ls vs (x ∷ X) (seq (assign (place i (deref τ ∷ fields ks)) (rv_opd a)) c) q
      storing t b o ks e h g w p fits s = record { go = assigns t (of_opd t g.go) (found l ls vs t x X b o ks e h w) (stored l ls vs t X p fits) $ s.go }

      pub stores : K → {i : ℕ} {a : Operand} {c : Body} {σ τ : Ty} {sp : Spot 𝓤 H} {v v₀ : Val} {back : Val → Item 𝓤} (b o : ℕ) (ks : List ℕ) → type_of ls i ≡ some σ → vs i ≡ some (vptr b o)
          → Gets 𝓛 K l ls vs (x ∷ X) a v → follow (τ, b, o) ks ≡ some sp → Part K 𝓛 x full_share sp.0 sp.1 sp.2 v₀ back → T (has_ty sp.0 v) × WT v
          → At 𝓛 K C Λ l ls vs (back v ∷ X) c q → At 𝓛 K C Λ l ls vs (x ∷ X) (seq (assign (place i (deref τ ∷ fields ks)) (rv_opd a)) c) q
      stores t b o ks e h g w p fits s = storing t b o ks e h g w p fits s

      pub stores_last : K → {i : ℕ} {a : Operand} {c : Body} {σ τ : Ty} {sp : Spot 𝓤 H} {v v₀ : Val} {back : Val → Item 𝓤} (b o : ℕ) (ks : List ℕ) → type_of ls i ≡ some σ → vs i ≡ some (vptr b o)
          → Gets 𝓛 K l ls vs (x ∷ X) a v → follow (τ, b, o) ks ≡ some sp → Part K 𝓛 x full_share sp.0 sp.1 sp.2 v₀ back → T (has_ty sp.0 v) × WT v
          → At 𝓛 K C Λ l ls vs (back v ∷ X) c q → At 𝓛 K C Λ l ls vs (x ∷ X) (assign (place i (deref τ ∷ fields ks)) (rv_opd a)) (any_q (after_seq 𝓤 H (Wp 𝓤 H C Λ (blocks l ls) c (post 𝓤 H q)) (post 𝓤 H q)))
      stores_last t b o ks e h g w p fits s = record { go = assigns_last t (of_opd t g.go) (found l ls vs t x X b o ks e h w) (stored l ls vs t X p fits) $ record { prf = s.go.prf } }

  -- The same of the field k of a struct. Its type and its value stay unknown here, and are never spelled out: those of a large struct are dear to carry.
  module _ {K : Type 0} {l : ℕ → ℕ} {ls : List Local} {vs : Held} {X : List (Item 𝓤)} {ν : Sym} {τs : Tys} {us : Vals} where
    pub field_behind : K → {i : ℕ} {σ τ : Ty} {d : ℕ} (b o k : ℕ) → type_of ls i ≡ some σ → vs i ≡ some (vptr b o) → field_at zero τs k ≡ some (τ, d)
        → Gets 𝓛 K l ls vs (struct_cell 𝓤 ν τs b o us ∷ X) (copy (place i (deref (ty_struct ν τs) ∷ field k ∷ []))) (get_v us k)
    field_behind t b o k e h w = behind t b o (k ∷ []) e h (leads ν τs b o k w) (sub t k w (whole t))

    module _ {C : Calls 𝓤 H} {Λ : Loops 𝓤 H} {q : Post 𝓤 H} where
      pub stores_field : K → {i : ℕ} {a : Operand} {c : Body} {σ τ : Ty} {d : ℕ} {v : Val} (b o k : ℕ) → type_of ls i ≡ some σ → vs i ≡ some (vptr b o) → Gets 𝓛 K l ls vs (struct_cell 𝓤 ν τs b o us ∷ X) a v → field_at zero τs k ≡ some (τ, d)
          → T (has_ty τ v) × WT v → At 𝓛 K C Λ l ls vs (struct_cell 𝓤 ν τs b o (set_v us k v) ∷ X) c q → At 𝓛 K C Λ l ls vs (struct_cell 𝓤 ν τs b o us ∷ X) (seq (assign (place i (deref (ty_struct ν τs) ∷ field k ∷ [])) (rv_opd a)) c) q
      stores_field t b o k e h g w fits s = storing t b o (k ∷ []) e h g (leads ν τs b o k w) (sub t k w (whole t)) fits s

      pub stores_field_last : K → {i : ℕ} {a : Operand} {c : Body} {σ τ : Ty} {d : ℕ} {v : Val} (b o k : ℕ) → type_of ls i ≡ some σ → vs i ≡ some (vptr b o) → Gets 𝓛 K l ls vs (struct_cell 𝓤 ν τs b o us ∷ X) a v → field_at zero τs k ≡ some (τ, d)
          → T (has_ty τ v) × WT v → At 𝓛 K C Λ l ls vs (struct_cell 𝓤 ν τs b o (set_v us k v) ∷ X) c q
          → At 𝓛 K C Λ l ls vs (struct_cell 𝓤 ν τs b o us ∷ X) (assign (place i (deref (ty_struct ν τs) ∷ field k ∷ [])) (rv_opd a)) (any_q (after_seq 𝓤 H (Wp 𝓤 H C Λ (blocks l ls) c (post 𝓤 H q)) (post 𝓤 H q)))
      stores_field_last t b o k e h g w fits s = stores_last t b o (k ∷ []) e h g (leads ν τs b o k w) (sub t k w (whole t)) fits s

      -- and of the field k of the struct that the field j holds
      pub stores_within : K → {i : ℕ} {a : Operand} {c : Body} {σ τ : Ty} {d e : ℕ} {v : Val} {μ : Sym} {σs : Tys} {ws : Vals} (b o j k : ℕ) → type_of ls i ≡ some σ → vs i ≡ some (vptr b o) → Gets 𝓛 K l ls vs (struct_cell 𝓤 ν τs b o us ∷ X) a v
          → field_at zero τs j ≡ some (ty_struct μ σs, d) → get_v us j ≡ vstruct ws → field_at zero σs k ≡ some (τ, e) → T (has_ty τ v) × WT v → At 𝓛 K C Λ l ls vs (struct_cell 𝓤 ν τs b o (set_v us j (vstruct (set_v ws k v))) ∷ X) c q
          → At 𝓛 K C Λ l ls vs (struct_cell 𝓤 ν τs b o us ∷ X) (seq (assign (place i (deref (ty_struct ν τs) ∷ field j ∷ field k ∷ [])) (rv_opd a)) c) q
      stores_within t {d = d} {μ = μ} {σs = σs} {ws = ws} b o j k at_i h g w holds w₁ fits s =
          storing t b o (j ∷ k ∷ []) at_i h g (ap (λ (f : Option (Ty × ℕ)). onward f (λ p. follow (p.0, b, o + p.1) (k ∷ []))) w ∙ leads μ σs b (o + d) k w₁)
          (sub t k w₁ (subst (λ (z : Val). Part K 𝓛 (struct_cell 𝓤 ν τs b o us) full_share (ty_struct μ σs) b (o + d) z (λ u. struct_cell 𝓤 ν τs b o (set_v us j u))) holds (sub t j w (whole t)))) fits s
