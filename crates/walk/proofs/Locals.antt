-- All locals of a function at once: what they hold, how they are allocated and freed, where each stands in a context that begins with them,
-- and the way to a place in one. Assumes what the kit's walks assume (`Logic`).
use mathlib.Core.Path.{◌≡◌, refl, sym, ap, subst}
use Prim.Native.Nat.{ℕ, zero, suc, ◌+◌}
use mathlib.Core.Option.{Option, none, some}
use mathlib.Core.List.{[], ◌∷◌, List, ◌++◌}
use seplogic.Ra.Ura.{Ura}
use base.Fraction.{full_share}
use mir.Syntax.{Ty, Step as PStep, place, field, Local, local, value_local}
use mir.Val.{Val}
use base.Logic.{sep, via, comm∗, assoc∗, assoc', mono_l, mono_r}
use base.Fml.{fat, froom, fdies}
use prog.Memory.{field_of}
use prog.Wp.{Env, Spot, spot_of}
use types.Logic.{Logic}
use types.Kit as Kit
use types.Kit.{Item, ‵, nth, ⋆, ++⊢, ⊢++, Goal, allocs, frees, Seq, Step, step, ◌$◌, by}
use types.Run.{fld, stop, Walks, Finds, from, alloc1, alloc0, free1, free0, forget}

-- ---- what the locals hold, by number. (A list would do, but an unknown end of it is dear to compare.)
abbrev pub Held : Type 0
Held = ℕ → Option Val

abbrev pub nothing_more : Held
nothing_more i = none

abbrev pub put : ℕ → Option Val → Held → Held
put zero v vs zero = v
put zero v vs (suc j) = vs (suc j)
put (suc i) v vs zero = vs zero
put (suc i) v vs (suc j) = put i v (λ k. vs (suc k)) j

-- ---- the locals: local i lies in block `l i`
module _ {M : Type 1} (𝓤 : Ura M) where
  abbrev pub holding : Ty → ℕ → Option Val → Item 𝓤
  holding τ b none = ‵ (froom τ b 0)
  holding τ b (some v) = ‵ (fat full_share τ b 0 v)

  abbrev pub locals : (ℕ → ℕ) → List Local → Held → List (Item 𝓤)
  locals l [] vs = []
  locals l (local τ h ∷ ls) vs = holding τ (l 0) (vs 0) ∷ ‵ (fdies τ (l 0)) ∷ locals (λ i. l (suc i)) ls (λ i. vs (suc i))

abbrev pub blocks : (ℕ → ℕ) → List Local → List (Ty × ℕ)
blocks l [] = []
blocks l (local τ h ∷ ls) = (τ, l 0) ∷ blocks (λ i. l (suc i)) ls

abbrev front : ℕ → (ℕ → ℕ) → ℕ → ℕ
front b l zero = b
front b l (suc i) = l i

-- a local that lies in no memory of its own
abbrev pub value : Ty → Local
value τ = local τ value_local

module _ {M : Type 1} {𝓤 : Ura M} {𝓛 : Logic 𝓤} where
  open 𝓛 use {H}

  module _ {K : Type 0} where
    -- X goes behind Δ
    pub swapped : K → (X Δ Γ : List (Item 𝓤)) {G : Goal 𝓤 H} → Step K 𝓛 (Δ ++ (X ++ Γ)) G (X ++ (Δ ++ Γ)) G
    swapped t X Δ Γ = step (λ s. by t
        (via 𝓤 (sep 𝓤 (⋆ 𝓛 X) (⋆ 𝓛 (Δ ++ Γ))) (⊢++ 𝓛 X (Δ ++ Γ))
        (via 𝓤 (sep 𝓤 (⋆ 𝓛 X) (sep 𝓤 (⋆ 𝓛 Δ) (⋆ 𝓛 Γ))) (mono_r 𝓤 (⋆ 𝓛 X) (⊢++ 𝓛 Δ Γ))
        (via 𝓤 (sep 𝓤 (sep 𝓤 (⋆ 𝓛 X) (⋆ 𝓛 Δ)) (⋆ 𝓛 Γ)) (assoc' 𝓤 (⋆ 𝓛 X) (⋆ 𝓛 Δ) (⋆ 𝓛 Γ))
        (via 𝓤 (sep 𝓤 (sep 𝓤 (⋆ 𝓛 Δ) (⋆ 𝓛 X)) (⋆ 𝓛 Γ)) (mono_l 𝓤 (⋆ 𝓛 Γ) (comm∗ 𝓤 (⋆ 𝓛 X) (⋆ 𝓛 Δ)))
        (via 𝓤 (sep 𝓤 (⋆ 𝓛 Δ) (sep 𝓤 (⋆ 𝓛 X) (⋆ 𝓛 Γ))) (assoc∗ 𝓤 (⋆ 𝓛 Δ) (⋆ 𝓛 X) (⋆ 𝓛 Γ))
        (via 𝓤 (sep 𝓤 (⋆ 𝓛 Δ) (⋆ 𝓛 (X ++ Γ))) (mono_r 𝓤 (⋆ 𝓛 Δ) (++⊢ 𝓛 X Γ))
        (via 𝓤 (⋆ 𝓛 (Δ ++ (X ++ Γ))) (++⊢ 𝓛 Δ (X ++ Γ)) s.prf))))))))

    -- all locals are allocated, the first at the head
    pub alloc_all : K → (ls : List Local) {Γ : List (Item 𝓤)} {Kt : Env 𝓤 H → Goal 𝓤 H} → ((l : ℕ → ℕ) → Seq K 𝓛 (locals 𝓤 l ls nothing_more ++ Γ) (Kt (blocks l ls))) → Seq K 𝓛 Γ (allocs ls Kt)
    alloc_all t [] k = alloc0 t $ k (λ _. 0)
    alloc_all t (local τ h ∷ ls) {Γ} k = alloc1 t (λ b. alloc_all t ls (λ l. swapped t (locals 𝓤 l ls nothing_more) (‵ (froom τ b 0) ∷ ‵ (fdies τ b) ∷ []) Γ $ k (front b l)))

    -- and freed, whatever each holds, before what else there is
    frees_one : K → {τ : Ty} {b : ℕ} (v : Option Val) {Γ : List (Item 𝓤)} {E : Env 𝓤 H} {g : Goal 𝓤 H} → Seq K 𝓛 Γ (frees E g) → Seq K 𝓛 (holding 𝓤 τ b v ∷ ‵ (fdies τ b) ∷ Γ) (frees ((τ, b) ∷ E) g)
    frees_one t none s = free1 t $ s
    frees_one t (some v) s = forget t 0 refl $ free1 t $ s

    frees_all : K → (l : ℕ → ℕ) (ls : List Local) (vs : Held) {Γ : List (Item 𝓤)} {g : Goal 𝓤 H} → Seq K 𝓛 Γ g → Seq K 𝓛 (locals 𝓤 l ls vs ++ Γ) (frees (blocks l ls) g)
    frees_all t l [] vs s = free0 t $ s
    frees_all t l (local τ h ∷ ls) vs s = frees_one t (vs 0) (frees_all t (λ i. l (suc i)) ls (λ i. vs (suc i)) s)

    pub free_all : K → (X : List (Item 𝓤)) (l : ℕ → ℕ) (ls : List Local) (vs : Held) {g : Goal 𝓤 H} → Step K 𝓛 (X ++ []) g (X ++ (locals 𝓤 l ls vs ++ [])) (frees (blocks l ls) g)
    free_all t X l ls vs = step (λ s. swapped t X (locals 𝓤 l ls vs) [] $ frees_all t l ls vs s)

    -- a place in the local i, which lies at sp
    pub at : K → {Γ : List (Item 𝓤)} {E : Env 𝓤 H} {i : ℕ} {st : List PStep} {sp sp' : Spot 𝓤 H} → spot_of 𝓤 H E i ≡ sp → Walks K 𝓛 Γ E sp st sp' → Finds K 𝓛 Γ E (place i st) sp'
    at t {Γ} {E} {st = st} {sp' = sp'} e w = from t (subst (λ (z : Spot 𝓤 H). Walks K 𝓛 Γ E z st sp') (sym e) w)

-- ---- where a local stands in a context that begins with the locals, and where what follows them does
abbrev pub type_of : List Local → ℕ → Option Ty
type_of [] i = none
type_of (local τ h ∷ ls) zero = some τ
type_of (local τ h ∷ ls) (suc i) = type_of ls i

abbrev pub twice : ℕ → ℕ
twice zero = zero
twice (suc i) = suc (suc (twice i))

abbrev IsSome : {X : Type 0} → Option X → Type 0
IsSome none = ⊥
IsSome (some x) = Unit {0}

abbrev or_else : {X : Type 0} → X → Option X → X
or_else y none = y
or_else y (some x) = x

-- where a path of fields leads
abbrev pub onward : Option (Ty × ℕ) → (Ty × ℕ → Option (Ty × ℕ × ℕ)) → Option (Ty × ℕ × ℕ)
onward none f = none
onward (some p) f = f p

abbrev pub follow : Ty × ℕ × ℕ → List ℕ → Option (Ty × ℕ × ℕ)
follow sp [] = some sp
follow sp (k ∷ ks) = onward (field_of sp.0 k) (λ p. follow (p.0, sp.1, sp.2 + p.1) ks)

abbrev pub fields : List ℕ → List PStep
fields [] = []
fields (k ∷ ks) = field k ∷ fields ks

pub followed : {M : Type 1} {𝓤 : Ura M} {𝓛 : Logic 𝓤} {K : Type 0} → K → {Γ : List (Item 𝓤)} {E : Env 𝓤 𝓛.H} (ks : List ℕ) (sp sp' : Ty × ℕ × ℕ) → follow sp ks ≡ some sp' → Walks K 𝓛 Γ E sp (fields ks) sp'
followed {𝓤 = 𝓤} {𝓛 = 𝓛} {K = K} t {Γ} {E} [] sp sp' e = subst (λ (z : Spot 𝓤 𝓛.H). Walks K 𝓛 Γ E sp [] z) (ap (or_else sp) e) (stop t)
followed {𝓤 = 𝓤} {𝓛 = 𝓛} {K = K} t {Γ} {E} (k ∷ ks) sp sp' e = further (λ p. followed t ks (p.0, sp.1, sp.2 + p.1) sp') (field_of sp.0 k) refl e
  where
    further : ((p : Ty × ℕ) → follow (p.0, sp.1, sp.2 + p.1) ks ≡ some sp' → Walks K 𝓛 Γ E (p.0, sp.1, sp.2 + p.1) (fields ks) sp')
        → (f : Option (Ty × ℕ)) → field_of sp.0 k ≡ f → onward f (λ p. follow (p.0, sp.1, sp.2 + p.1) ks) ≡ some sp' → Walks K 𝓛 Γ E sp (field k ∷ fields ks) sp'
    further rest none h e' = absurd (subst IsSome (sym e') tt)
    further rest (some p) h e' = fld t h (rest p e')

module _ {M : Type 1} {𝓤 : Ura M} (𝓛 : Logic 𝓤) where
  open 𝓛 use {H}

  pub nth_local : (l : ℕ → ℕ) (ls : List Local) (vs : Held) (X : List (Item 𝓤)) (i : ℕ) (τ : Ty) → type_of ls i ≡ some τ → nth 𝓛 (twice i) (locals 𝓤 l ls vs ++ X) ≡ holding 𝓤 τ (l i) (vs i)
  nth_local l [] vs X i τ e = absurd (subst IsSome (sym e) tt)
  nth_local l (local σ h ∷ ls) vs X zero τ e = ap (λ (ρ : Ty). holding 𝓤 ρ (l 0) (vs 0)) (ap (or_else σ) e)
  nth_local l (local σ h ∷ ls) vs X (suc i) τ e = nth_local (λ j. l (suc j)) ls (λ j. vs (suc j)) X i τ e

  pub put_local : (l : ℕ → ℕ) (ls : List Local) (vs : Held) (X : List (Item 𝓤)) (i : ℕ) (τ : Ty) (v : Option Val) → type_of ls i ≡ some τ
      → Kit.put 𝓛 (twice i) (holding 𝓤 τ (l i) v) (locals 𝓤 l ls vs ++ X) ≡ locals 𝓤 l ls (put i v vs) ++ X
  put_local l [] vs X i τ v e = absurd (subst IsSome (sym e) tt)
  put_local l (local σ h ∷ ls) vs X zero τ v e = ap (λ (ρ : Ty). holding 𝓤 ρ (l 0) v ∷ ‵ (fdies σ (l 0)) ∷ (locals 𝓤 (λ j. l (suc j)) ls (λ j. vs (suc j)) ++ X)) (sym (ap (or_else σ) e))
  put_local l (local σ h ∷ ls) vs X (suc i) τ v e = ap (λ (Δ : List (Item 𝓤)). holding 𝓤 σ (l 0) (vs 0) ∷ ‵ (fdies σ (l 0)) ∷ Δ) (put_local (λ j. l (suc j)) ls (λ j. vs (suc j)) X i τ v e)

  abbrev pub span : List Local → ℕ
  span [] = zero
  span (x ∷ ls) = suc (suc (span ls))

  pub nth_after : (l : ℕ → ℕ) (ls : List Local) (vs : Held) (x : Item 𝓤) (X : List (Item 𝓤)) → nth 𝓛 (span ls) (locals 𝓤 l ls vs ++ (x ∷ X)) ≡ x
  nth_after l [] vs x X = refl
  nth_after l (local σ h ∷ ls) vs x X = nth_after (λ j. l (suc j)) ls (λ j. vs (suc j)) x X

  pub put_after : (l : ℕ → ℕ) (ls : List Local) (vs : Held) (x y : Item 𝓤) (X : List (Item 𝓤)) → Kit.put 𝓛 (span ls) y (locals 𝓤 l ls vs ++ (x ∷ X)) ≡ locals 𝓤 l ls vs ++ (y ∷ X)
  put_after l [] vs x y X = refl
  put_after l (local σ h ∷ ls) vs x y X = ap (λ (Δ : List (Item 𝓤)). holding 𝓤 σ (l 0) (vs 0) ∷ ‵ (fdies σ (l 0)) ∷ Δ) (put_after (λ j. l (suc j)) ls (λ j. vs (suc j)) x y X)

  pub spot_local : (l : ℕ → ℕ) (ls : List Local) (i : ℕ) (τ : Ty) → type_of ls i ≡ some τ → spot_of 𝓤 H (blocks l ls) i ≡ (τ, l i, 0)
  spot_local l [] i τ e = absurd (subst IsSome (sym e) tt)
  spot_local l (local σ h ∷ ls) zero τ e = ap (λ (ρ : Ty). (ρ, l 0, 0)) (ap (or_else σ) e)
  spot_local l (local σ h ∷ ls) (suc i) τ e = spot_local (λ j. l (suc j)) ls i τ e
