-- A walk by locals, beside the kit's: operands, copies, tests, calls by value, branches, and where parts meet and end.
-- Assumes what the kit's walks assume (`Logic`).
use mathlib.Core.Path.{◌≡◌, refl, sym, ◌∙◌, ap, subst}
use Prim.Native.Nat.{ℕ, zero, suc}
use mathlib.Core.Bool.{Bool, true, false, not}
use mathlib.Core.Option.{Option, none, some}
use mathlib.Core.List.{[], ◌∷◌, List, ◌++◌}
use seplogic.Ra.Ura.{Ura}
use base.Fraction.{full_share}
use lib.Dec.{T}
use mir.Syntax.{assign, block, loop, exit, return, unreachable, call_v, lend_static, Callee, Ty, place, copy, variant, field, ty_int, ty_bool, w8, ty_enum, Tyss, Sym, rv_opd, op2, Op2, Opd as Operand, Body, Width, Arms, arm, default, no_default, switch, seq, call, cond, skip, Local, local, Home}
use mir.Val.{Val, Vals, WT, has_ty, vbool, vint, Dom, op2_chk, op2_val}
use base.Logic.{SProp, ent}
use base.Fml.{fat}
use prog.Wp.{Spot, Calls, Loops, Wp, WpArms, after_seq, at_return, returns as returnsᴼ}
use types.Logic.{Logic}
use sound.WpLaws.{FmC}
use types.Kit as Kit
use types.Kit.{Item, ‵, ⋆, Post, any_q, post, runs, Seq, ◌$◌, by, at_ret}
use types.Part.{Part, whole, look_in}
use types.Match.{live, look_tag}
use types.Run.{look, load, stop, init, store, of_opd, bin, assigns, land, and_then, no_more, Writes, Rv, Walks, Opd, Opds, first, branches, switches_on, skips, returns, returns_within}
use Rattle.walk.proofs.Data.{Data, Good}
use Rattle.walk.proofs.Locals.{Held, put, holding, locals, blocks, swapped, free_all, at, type_of, twice, follow, fields, followed, nth_local, put_local, spot_local}
use Rattle.walk.proofs.Answers.{Answers, calls_by}

-- the arm k of a switch, and what follows the first part of a sequence
abbrev arm_at : ℕ → Arms → Body
arm_at k (default a) = a
arm_at k no_default = skip
arm_at zero (arm ks a rest) = a
arm_at (suc k) (arm ks a rest) = arm_at k rest

abbrev pub inside : ℕ → Body → Body
inside k skip = skip
inside k (seq a b) = b
inside k (assign p rv) = skip
inside k (block b) = skip
inside k (loop b) = skip
inside k (cond c a b) = skip
inside k (switch c arms) = arm_at k arms
inside k (exit n) = skip
inside k return = skip
inside k (call f xs d) = skip
inside k (call_v c ς xs d) = skip
inside k (lend_static p τ c) = skip
inside k unreachable = skip

is_true : (t : Bool) → T t → t ≡ true
is_true true h = refl
is_true false h = absurd h

is_false : (t : Bool) → T (not t) → t ≡ false
is_false true h = absurd h
is_false false h = refl

-- ---- a walk by locals. The locals lie in the blocks l, hold vs, and stand before X; b runs. These are records, so that a rule reads l, ls, vs and X off the goal
module _ {M : Type 1} {𝓤 : Ura M} (𝓛 : Logic 𝓤) where
  open 𝓛 use {H}

  pub record At (K : Type 0) (C : Calls 𝓤 H) (Λ : Loops 𝓤 H) (l : ℕ → ℕ) (ls : List Local) (vs : Held) (X : List (Item 𝓤)) (b : Body) (q : Post 𝓤 H) : Type 1 where
    pub go : Seq K 𝓛 (locals 𝓤 l ls vs ++ X) (runs C Λ (blocks l ls) b q)

  pub record Gets (K : Type 0) (l : ℕ → ℕ) (ls : List Local) (vs : Held) (X : List (Item 𝓤)) (x : Operand) (v : Val) : Type 2 where
    pub go : Opd K 𝓛 (locals 𝓤 l ls vs ++ X) (blocks l ls) x v

  pub record GetsAll (K : Type 0) (l : ℕ → ℕ) (ls : List Local) (vs : Held) (X : List (Item 𝓤)) (xs : List Operand) (us : List Val) : Type 2 where
    pub go : Opds K 𝓛 (locals 𝓤 l ls vs ++ X) (blocks l ls) xs us

module _ {M : Type 1} {𝓤 : Ura M} {𝓛 : Logic 𝓤} where
  open 𝓛 use {H}

  module _ {K : Type 0} (l : ℕ → ℕ) (ls : List Local) (vs : Held) where
    -- whatever local i held, it holds v
    pub sets : K → (X : List (Item 𝓤)) (i : ℕ) {τ : Ty} {v : Val} → type_of ls i ≡ some τ → T (has_ty τ v) × WT v → Writes K 𝓛 (locals 𝓤 l ls vs ++ X) τ (l i) 0 v (locals 𝓤 l ls (put i (some v) vs) ++ X)
    sets t X i {τ} {v} e fits = subst (Writes K 𝓛 (locals 𝓤 l ls vs ++ X) τ (l i) 0 v) (put_local 𝓛 l ls vs X i τ (some v) e) (over (vs i) refl)
      where
        over : (u : Option Val) → vs i ≡ u → Writes K 𝓛 (locals 𝓤 l ls vs ++ X) τ (l i) 0 v (Kit.put 𝓛 (twice i) (‵ (fat full_share τ (l i) 0 v)) (locals 𝓤 l ls vs ++ X))
        over none h = init t (twice i) (nth_local 𝓛 l ls vs X i τ e ∙ ap (holding 𝓤 τ (l i)) h) fits
        over (some u) h = store t (twice i) (nth_local 𝓛 l ls vs X i τ e ∙ ap (holding 𝓤 τ (l i)) h) fits

  module _ {K : Type 0} {l : ℕ → ℕ} {ls : List Local} {vs : Held} {X : List (Item 𝓤)} where
    -- ---- operands: a local, a place in one, an enum's tag in one, a literal
    pub held : K → {i : ℕ} {τ : Ty} {v : Val} → type_of ls i ≡ some τ → vs i ≡ some v → Gets 𝓛 K l ls vs X (copy (place i [])) v
    held t {i} {τ} e h = record { go = load t (at t (spot_local 𝓛 l ls i τ e) (stop t)) (look t (twice i) (nth_local 𝓛 l ls vs X i τ e ∙ ap (holding 𝓤 τ (l i)) h)) }

    pub part : K → (ks : List ℕ) {i : ℕ} {sp : Spot 𝓤 H} {τ : Ty} {w v : Val} {back : Val → Item 𝓤} → type_of ls i ≡ some τ → vs i ≡ some w
        → follow (τ, l i, 0) ks ≡ some sp → Part K 𝓛 (‵ (fat full_share τ (l i) 0 w)) full_share sp.0 sp.1 sp.2 v back → Gets 𝓛 K l ls vs X (copy (place i (fields ks))) v
    part t ks {i} {sp = sp} {τ = τ} {v = v} {back = back} e h w p = record {
      go = load t (at t (spot_local 𝓛 l ls i τ e) (followed t ks (τ, l i, 0) sp w))
          (look_in t (twice i) (subst (λ (j : Item 𝓤). Part K 𝓛 j full_share sp.0 sp.1 sp.2 v back) (sym (nth_local 𝓛 l ls vs X i τ e ∙ ap (holding 𝓤 τ (l i)) h)) p));
    }

    pub tag : K → {i k k' : ℕ} {ν : Sym} {τss : Tyss} {fs : Vals} → type_of ls i ≡ some (ty_enum ν τss) → vs i ≡ some (live k fs)
        → Walks K 𝓛 (locals 𝓤 l ls vs ++ X) (blocks l ls) (ty_enum ν τss, l i, 0) (variant k' ∷ field 0 ∷ []) (ty_int w8, l i, 0) → Gets 𝓛 K l ls vs X (copy (place i (variant k' ∷ field 0 ∷ []))) (vint w8 k)
    tag t {i} {k} {k'} {ν} {τss} {fs} e h w = record {
      go = load t (at t (spot_local 𝓛 l ls i (ty_enum ν τss) e) w)
          (look_tag t (twice i) (subst (λ (j : Item 𝓤). Part K 𝓛 j full_share (ty_enum ν τss) (l i) 0 (live k fs) (λ u. ‵ (fat full_share (ty_enum ν τss) (l i) 0 u))) (sym (nth_local 𝓛 l ls vs X i (ty_enum ν τss) e ∙ ap (holding 𝓤 (ty_enum ν τss) (l i)) h)) (whole t)));
    }

    pub literal : K → {x : Operand} {v : Val} → Opd K 𝓛 (locals 𝓤 l ls vs ++ X) (blocks l ls) x v → Gets 𝓛 K l ls vs X x v
    literal t o = record { go = o }

    pub end : K → GetsAll 𝓛 K l ls vs X [] []
    end t = record { go = no_more t }

    pub also : K → {x : Operand} {xs : List Operand} {v : Val} {us : List Val} → Gets 𝓛 K l ls vs X x v → GetsAll 𝓛 K l ls vs X xs us → GetsAll 𝓛 K l ls vs X (x ∷ xs) (v ∷ us)
    also t g gs = record { go = and_then t g.go gs.go }

    module _ {C : Calls 𝓤 H} {Λ : Loops 𝓤 H} {q : Post 𝓤 H} where
      -- ---- statements: a copy, a test and a call, each into a local, and then the rest
      pub copies : K → {i : ℕ} {x : Operand} {v : Val} {b : Body} {τ : Ty} → type_of ls i ≡ some τ → Gets 𝓛 K l ls vs X x v → T (has_ty τ v) × WT v
          → At 𝓛 K C Λ l ls (put i (some v) vs) X b q → At 𝓛 K C Λ l ls vs X (seq (assign (place i []) (rv_opd x)) b) q
      copies t {i} {τ = τ} e g fits s = record { go = assigns t (of_opd t g.go) (at t (spot_local 𝓛 l ls i τ e) (stop t)) (sets l ls vs t X i e fits) $ s.go }

      pub tests : K → {i : ℕ} {o : Op2} {x y : Operand} {v w : Val} {b : Body} (z : Bool) → type_of ls i ≡ some ty_bool → Gets 𝓛 K l ls vs X x v → Gets 𝓛 K l ls vs X y w → Dom (op2_chk o v w) → op2_val o v w ≡ vbool z
          → At 𝓛 K C Λ l ls (put i (some (vbool z)) vs) X b q → At 𝓛 K C Λ l ls vs X (seq (assign (place i []) (op2 o x y)) b) q
      tests t {i} {o} {x} {y} {v} {w} z e g h ok is s = record {
        go = assigns t (subst (Rv K 𝓛 (locals 𝓤 l ls vs ++ X) (blocks l ls) (op2 o x y)) is (bin t g.go h.go ok)) (at t (spot_local 𝓛 l ls i ty_bool e) (stop t)) (sets l ls vs t X i e (tt, tt)) $ s.go;
      }

      pub asks : K → FmC 𝓤 H 𝓛.laws C → {i : ℕ} {f : Callee} {xs : List Operand} {us : List Val} {b : Body} {D : Data 𝓛} {y : D.row.Denot} → Answers C f us D y → GetsAll 𝓛 K l ls vs X xs us
          → type_of ls i ≡ some D.type → (Good D y → At 𝓛 K C Λ l ls (put i (some (D.val y)) vs) X b q) → At 𝓛 K C Λ l ls vs X (seq (call f xs (place i [])) b) q
      asks t fm {i} {D = D} {y = y} ans gs e k = record {
        go = calls_by t fm ans gs.go (λ good. land t (at t (spot_local 𝓛 l ls i D.type e) (stop t)) (sets l ls vs t X i e (D.typed y good)) $ (k good).go);
      }

      -- ---- branches: an `if` with no `else`, before the rest, and a switch on a number that is written out, whose arm k runs. `refl` shows that it does
      pub ifs : K → {c : Operand} {a b : Body} {y : Bool} → Gets 𝓛 K l ls vs X c (vbool y)
          → (y ≡ true → At 𝓛 K C Λ l ls vs X a (any_q (after_seq 𝓤 H (Wp 𝓤 H C Λ (blocks l ls) b (post 𝓤 H q)) (post 𝓤 H q)))) → (y ≡ false → At 𝓛 K C Λ l ls vs X b q)
          → At 𝓛 K C Λ l ls vs X (seq (cond c a skip) b) q
      ifs t {y = y} o held failed = record { go = first t $ branches t o.go (λ h. (held (is_true y h)).go) (λ n. skips t $ record { prf = (failed (is_false y n)).go.prf }) }

      pub chooses : K → (k : ℕ) {c : Operand} {arms : Arms} {w : Width} {x : ℕ} → Gets 𝓛 K l ls vs X c (vint w x) → WpArms 𝓤 H C Λ (blocks l ls) arms x (post 𝓤 H q) ≡ Wp 𝓤 H C Λ (blocks l ls) (arm_at k arms) (post 𝓤 H q)
          → At 𝓛 K C Λ l ls vs X (arm_at k arms) q → At 𝓛 K C Λ l ls vs X (switch c arms) q
      chooses t k o e s = record { go = switches_on t o.go $ record { prf = subst (λ (P : SProp 𝓤). ent 𝓤 (⋆ 𝓛 (locals 𝓤 l ls vs ++ X)) P) (sym e) s.go.prf } }

  -- the end of a function, where X is left
  pub leaves : {K : Type 0} {l : ℕ → ℕ} {ls : List Local} {vs : Held} {C : Calls 𝓤 H} {Λ : Loops 𝓤 H} {Kf : Val → SProp 𝓤} {τ : Ty} {h : Home} {v : Val} → K → (X : List (Item 𝓤)) → vs 0 ≡ some v
      → ent 𝓤 (⋆ 𝓛 (X ++ [])) (Kf v) → At 𝓛 K C Λ l (local τ h ∷ ls) vs (X ++ []) return (at_ret (blocks l (local τ h ∷ ls)) Kf)
  leaves {l = l} {ls = ls} {vs = vs} {τ = τ} {h = h} t X e p = record {
    go = returns t (look t 0 (ap (holding 𝓤 τ (l 0)) e)) $ swapped t (locals 𝓤 l (local τ h ∷ ls) vs) X [] $ free_all t X l (local τ h ∷ ls) vs $ by t p;
  }

-- ---- where parts meet and where they end: an `if` with an `else` before c, the last statement of a part before c, and a `return` from within a part, where q is what it is at the function's end (`refl` shows that)
module _ {M : Type 1} {𝓤 : Ura M} {𝓛 : Logic 𝓤} {K : Type 0} {l : ℕ → ℕ} {vs : Held} {C : Calls 𝓤 𝓛.H} {Λ : Loops 𝓤 𝓛.H} {q : Post 𝓤 𝓛.H} where
  open 𝓛 use {H}

  module _ {ls : List Local} {X : List (Item 𝓤)} {a c : Body} where
    pub joins : K → {b : Body} {x : Operand} {y : Bool} → Gets 𝓛 K l ls vs X x (vbool y) → At 𝓛 K C Λ l ls vs X a (any_q (after_seq 𝓤 H (Wp 𝓤 H C Λ (blocks l ls) c (post 𝓤 H q)) (post 𝓤 H q)))
        → At 𝓛 K C Λ l ls vs X b (any_q (after_seq 𝓤 H (Wp 𝓤 H C Λ (blocks l ls) c (post 𝓤 H q)) (post 𝓤 H q))) → At 𝓛 K C Λ l ls vs X (seq (cond x a b) c) q
    joins t o held failed = record { go = first t $ branches t o.go (λ _. held.go) (λ _. failed.go) }

    pub last : K → At 𝓛 K C Λ l ls vs X (seq a c) q → At 𝓛 K C Λ l ls vs X a (any_q (after_seq 𝓤 H (Wp 𝓤 H C Λ (blocks l ls) c (post 𝓤 H q)) (post 𝓤 H q)))
    last t s = record { go = record { prf = s.go.prf } }

  pub leaves_within : {ls : List Local} {τ : Ty} {h : Home} {v : Val} → K → (X : List (Item 𝓤)) (Kf : Val → SProp 𝓤) → post 𝓤 H q returnsᴼ ≡ at_return 𝓤 H (blocks l (local τ h ∷ ls)) Kf returnsᴼ → vs 0 ≡ some v
      → ent 𝓤 (⋆ 𝓛 (X ++ [])) (Kf v) → At 𝓛 K C Λ l (local τ h ∷ ls) vs (X ++ []) return q
  leaves_within {ls = ls} {τ = τ} {h = h} t X Kf out e p = record {
    go = returns_within t Kf out (look t 0 (ap (holding 𝓤 τ (l 0)) e)) $ swapped t (locals 𝓤 l (local τ h ∷ ls) vs) X [] $ free_all t X l (local τ h ∷ ls) vs $ by t p;
  }
