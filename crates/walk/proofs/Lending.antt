-- A local that is lent to a call, and comes back at what the call leaves. Assumes what the kit's walks assume (`Logic`).
use mathlib.Core.Path.{◌≡◌, refl, sym, ◌∙◌, ap, subst}
use Prim.Native.Nat.{ℕ}
use mathlib.Core.Option.{some}
use mathlib.Core.List.{[], ◌∷◌, List, ◌++◌}
use seplogic.Ra.Ura.{Ura}
use base.Fraction.{full_share}
use lib.Dec.{T}
use mir.Syntax.{assign, Callee, Ty, place, Opd as Operand, Body, seq, call, Local, named, addr_of, aggregate}
use mir.Val.{Val, WT, has_ty, vptr, vstruct, of_list}
use base.Logic.{SProp, ent, sep, emp, guard, via, id⊢}
use base.Fml.{ftrue, fat, Fml, GName, flft, flent, fres}
use prog.Wp.{Calls, Loops}
use types.Logic.{Logic, sem}
use contract.Monad.{fact}
use sound.WpLaws.{FmC}
use types.Kit as Kit
use types.Kit.{Item, ‵, raw, ◌⊛◌, given, later, nth, ⋆, push, Post, Goal, runs, lands, Seq, Step, step, ◌$◌, ◌∵◌, !, qed, by, move, keep, drop, use1, split, pick, learn, regoal, await, updating, now as at_once, check, done, mean, del, pop, pull, fill, use0, use2, use3, join, rewrite, fsplit, fjoin}
use types.Part.{agg}
use types.Run.{stop, assigns, land, Opds, addr, calls}
use denote.RattleType.{Denots, Valss, flat, owns}
use denote.Laws.{Is, shows}
use denote.Steps.{heard, only, facts, nothing}
use denote.Signature.{Slot, plain, types_at, mut_ref_to}
use denote.Exit.{yes}
use denote.Triple.End.{Kepts}
use denote.Triple.Statement.{Triple, Contract}
use denote.Triple.Spec.{triple_of}
use denote.Triple.Clauses.{Ended, Clauses, lasts, ensured, closing, AtExit, at_exit, Lasts}
use contract.Lifetimes.{Lfts}
use types.SemTy.{Body as LentBody}
use types.Tokens.{lft_new, lft_end}
use denote.Memory.{part_at, mem}
use denote.Ref.{MutBor, MutRef}
use denote.Lend.{lends_ref, ref_back}
use denote.Triple.Entry.{Args}
use Rattle.walk.proofs.Data.{Data, Good}
use Rattle.walk.proofs.Locals.{Held, put, holding, locals, blocks, at, type_of, twice, nth_local, put_local, spot_local}
use Rattle.walk.proofs.Walk.{At, GetsAll, sets}
use Rattle.walk.proofs.Loans.{One, cell, in_memory, of_memory}

module _ {M : Type 1} {𝓤 : Ura M} {𝓛 : Logic 𝓤} where
  -- called at us with P, f answers y and leaves Q, and φ holds
  open 𝓛 use {H, A}

  pub record Gives (C : Calls 𝓤 H) (f : Callee) (us : List Val) (P : Fml) (D : Data 𝓛) (y : D.row.Denot) (φ : Type 0) (Q : Fml) : Type 1 where
    pub prf : ent 𝓤 (sem 𝓛 P) (H.⇛ (C f us (λ v. H.⇛ (guard 𝓤 ((v ≡ D.val y) × (Good D y × φ)) (sem 𝓛 Q)))))

  -- a function that is lent one thing, and has the rest by value
  abbrev lent_first : Data 𝓛 → (ss : List (Slot 1)) → Kepts ss → Data 𝓛 → Ended
  lent_first S ss ks D = record { signature = record { lifetimes = 1; outlives = []; params = mut_ref_to (0 ∷ []) tt (plain (λ _. S.row)) ∷ ss; result = plain (λ _. D.row) }; kept = (yes, ks) }

  abbrev pub ref : (S : Data 𝓛) → ℕ → GName → S.row.Denot → MutBor S.row.Denot
  ref S b γ x = record { ref_ptr = (b, 0); ghost_name = γ; now = x }

  module _ {C : Calls 𝓤 H} (fm : FmC 𝓤 H 𝓛.laws C) {f : Callee} (S : Data 𝓛) (one : One S) (ss : List (Slot 1)) (ks : Kepts ss) (D : Data 𝓛) (c : Clauses 𝓤 (lent_first S ss ks D))
      (met : Triple 𝓤 (C f) (triple_of 𝓛 (lent_first S ss ks D).signature (closing 𝓛 (lent_first S ss ks D) c))) (us : List Val)
      (rest : (κs : Lfts 1) → Denots (types_at ss κs)) (vals : (κs : Lfts 1) → Valss (types_at ss κs)) (same : (κs : Lfts 1) → flat (types_at ss κs) (vals κs) ≡ us)
      (made : (κs : Lfts 1) → ent 𝓤 (emp 𝓤) (sem 𝓛 (owns (types_at ss κs) (rest κs) (vals κs)))) where
    abbrev lent : Ended
    lent = lent_first S ss ks D

    -- its contract, where the `ensures` says the answer y and that t is left: a local that holds x is lent to it, and comes back
    module _ (b : ℕ) (x t : S.row.Denot) (is : Good S x) (y : D.row.Denot) (g : (κs : Lfts 1) (γ : GName) → (c κs (ref S b γ x, rest κs)).ghost)
        (needed : (κs : Lfts 1) (γ : GName) → ent 𝓤 (emp 𝓤) ((c κs (ref S b γ x, rest κs)).requires (g κs γ)))
        (says : (κs : Lfts 1) (γ : GName) (r : D.row.Denot) (e : AtExit lent κs) → ent 𝓤 ((c κs (ref S b γ x, rest κs)).ensures (g κs γ) r e) (fact 𝓤 ((e.0.now ≡ t) × (r ≡ y)))) where
      module _ (α : ℕ) (γ : GName) where
        abbrev κs : Lfts 1
        κs = (α ∷ [], tt)

        abbrev a : Args lent.signature κs
        a = (ref S b γ x, rest κs)

        abbrev Lent : Contract 𝓤
        Lent = triple_of 𝓛 lent.signature (closing 𝓛 lent c)

        abbrev to : Lent.Ghost
        to = ((κs, (full_share, tt), tt, a, (vptr b 0 ∷ [], vals κs)), g κs γ)

        abbrev Told : Val → SProp 𝓤
        Told v = H.⇛ (guard 𝓤 ((v ≡ D.val y) × (Good D y × Good S t)) (sem 𝓛 (cell S b 0 t)))

        asked : ent 𝓤 (sep 𝓤 (A.lft (α ∷ []) full_share) (sem 𝓛 ((MutRef (named 0) (α ∷ []) S.row).own_val (ref S b γ x) (vptr b 0 ∷ [])))) (Lent.pre to)
        asked =
            qed 𝓛 (‵ (flft (α ∷ []) full_share) ∷ ‵ ((MutRef (named 0) (α ∷ []) S.row).own_val (ref S b γ x) (vptr b 0 ∷ [])) ∷ []) ∵
            use0 𝓛 (raw ((c κs a).requires (g κs γ))) (needed κs γ) $ use0 𝓛 (‵ (owns (types_at ss κs) (rest κs) (vals κs))) (made κs) $ move ! (3 ∷ 0 ∷ []) $ fjoin ! $ nothing ! $ move ! (3 ∷ 0 ∷ []) $ join ! $ join ! $ done !

        after : (v : Val) → ent 𝓤 (sep 𝓤 (Lent.post to v) (A.lent (α ∷ []) (LentBody (mem S.row) b 0 γ))) (Told v)
        after v =
            qed 𝓛 (raw (Lent.post to v) ∷ ‵ (flent (α ∷ []) (LentBody (mem S.row) b 0 γ)) ∷ []) ∵ updating ! $
            use1 𝓛 (later (Kit.some (λ (r : D.row.Denot). ((‵ (flft (α ∷ []) full_share) ⊛ ‵ ftrue) ⊛ ‵ (D.row.own_val r (v ∷ []))) ⊛ raw (ensured 𝓛 lent c κs a (g κs γ) r)))) (id⊢ 𝓤 _) $
            await ! tt $ pick ! (λ r. split ! $ move ! (1 ∷ []) $
            use1 𝓛 (Kit.some (λ (ws : Lasts lent κs a). ‵ (lasts lent κs a ws) ⊛ raw ((c κs a).ensures (g κs γ) r (at_exit lent κs a ws)))) (id⊢ 𝓤 _) $ pick ! (λ ws. split ! $ move ! (1 ∷ []) $
            use1 𝓛 (raw (fact 𝓤 ((ws.0 ≡ t) × (r ≡ y)))) (says κs γ r (at_exit lent κs a ws)) $ heard ! ((ws.0 ≡ t) × (r ≡ y)) (λ e.
            -- [the last value; the borrow, which is not wanted; the rest's; tokens and result; the lender's part]
            fsplit ! $ fsplit ! $ move ! (1 ∷ []) $ drop ! $ rewrite ! 0 (λ (z : S.row.Denot). ‵ (fres γ (S.row.coded.code z))) e.0 refl $
            move ! (2 ∷ []) $ split ! $ move ! (1 ∷ []) $ facts ! D.row (Is D.row) (shows 𝓛 D.row) r (v ∷ []) (λ shown. split ! $
            -- the lifetime is ended, and what was lent is taken back
            lft_end ! tt $ move ! (0 ∷ 4 ∷ 2 ∷ []) $ use3 𝓛 (later (‵ (part_at S.row full_share t b 0))) (ref_back 𝓛 S.row (α ∷ []) γ t b 0) $ await ! tt $
            use1 𝓛 (given (Good S t) (‵ (cell S b 0 t))) (of_memory {𝓛 = 𝓛} S one b 0 t) $ learn ! (λ has.
            at_once ! $ check ! (ap only (D.tells r (v ∷ []) shown) ∙ ap D.val e.1, (subst (Good D) e.1 (subst (Is D.row r) (D.tells r (v ∷ []) shown) shown), has)) $ keep ! (0 ∷ []) $ done !)))))

        called : ent 𝓤 (⋆ 𝓛 (‵ ((MutRef (named 0) (α ∷ []) S.row).own_val (ref S b γ x) (vptr b 0 ∷ [])) ∷ ‵ (flent (α ∷ []) (LentBody (mem S.row) b 0 γ)) ∷ ‵ (flft (α ∷ []) full_share) ∷ [])) (C f (vptr b 0 ∷ us) Told)
        called =
            qed 𝓛 (‵ ((MutRef (named 0) (α ∷ []) S.row).own_val (ref S b γ x) (vptr b 0 ∷ [])) ∷ ‵ (flent (α ∷ []) (LentBody (mem S.row) b 0 γ)) ∷ ‵ (flft (α ∷ []) full_share) ∷ []) ∵
            move ! (2 ∷ 0 ∷ []) $ use2 𝓛 (raw (Lent.pre to)) asked $
            use1 𝓛 (raw (C f (vptr b 0 ∷ us) (Lent.post to))) (subst (λ (ws : List Val). ent 𝓤 (Lent.pre to) (C f (vptr b 0 ∷ ws) (Lent.post to))) (same κs) (met to)) $
            by ! (fm f (vptr b 0 ∷ us) (Lent.post to) Told (A.lent (α ∷ []) (LentBody (mem S.row) b 0 γ)) after)

      pub lending : Gives C f (vptr b 0 ∷ us) (cell S b 0 x) D y (Good S t) (cell S b 0 t)
      lending = record {
        prf = qed 𝓛 (‵ (cell S b 0 x) ∷ []) ∵ updating ! $ use1 𝓛 (‵ (part_at S.row full_share x b 0)) (in_memory {𝓛 = 𝓛} S one b 0 x is) $ lft_new ! tt (λ α. move ! (1 ∷ []) $
            use1 𝓛 (later (Kit.some (λ (γ : GName). ‵ ((MutRef (named 0) (α ∷ []) S.row).own_val (ref S b γ x) (vptr b 0 ∷ [])) ⊛ ‵ (flent (α ∷ []) (LentBody (mem S.row) b 0 γ)))))
            (lends_ref 𝓛 S.row (named 0) (α ∷ []) x b 0) $ await ! tt $ pick ! (λ γ. split ! $ at_once ! $ by ! (called α γ)));
      }

  module _ {K : Type 0} {l : ℕ → ℕ} {ls : List Local} {vs : Held} {X : List (Item 𝓤)} {C : Calls 𝓤 H} {Λ : Loops 𝓤 H} {q : Post 𝓤 H} where
    -- ---- statements: the address of local i, a struct of operands, and a call to which local i is lent, each into local j. A call's operands are found where the local's cell stands no more, and the call before all else
    pub refers : K → {i j : ℕ} {b : Body} {σ τ : Ty} → type_of ls i ≡ some σ → type_of ls j ≡ some τ → T (has_ty τ (vptr (l i) 0)) × WT (vptr (l i) 0)
        → At 𝓛 K C Λ l ls (put j (some (vptr (l i) 0)) vs) X b q → At 𝓛 K C Λ l ls vs X (seq (assign (place j []) (addr_of (place i []))) b) q
    refers t {i} {j} {σ = σ} {τ = τ} e e' fits s = record { go = assigns t (addr t (at t (spot_local 𝓛 l ls i σ e) (stop t))) (at t (spot_local 𝓛 l ls j τ e') (stop t)) (sets l ls vs t X j e' fits) $ s.go }

    pub builds : K → {j : ℕ} {xs : List Operand} {us : List Val} {b : Body} {τ : Ty} → type_of ls j ≡ some τ → GetsAll 𝓛 K l ls vs X xs us → T (has_ty τ (vstruct (of_list us))) × WT (vstruct (of_list us))
        → At 𝓛 K C Λ l ls (put j (some (vstruct (of_list us))) vs) X b q → At 𝓛 K C Λ l ls vs X (seq (assign (place j []) (aggregate xs)) b) q
    builds t {j} {τ = τ} e gs fits s = record { go = assigns t (agg t gs.go) (at t (spot_local 𝓛 l ls j τ e) (stop t)) (sets l ls vs t X j e fits) $ s.go }

    pub asks_lending : K → FmC 𝓤 H 𝓛.laws C → (i : ℕ) {j : ℕ} {f : Callee} {xs : List Operand} {us : List Val} {b : Body} {τ : Ty} {u v : Val} {D : Data 𝓛} {y : D.row.Denot} {φ : Type 0}
        → Gives C f us (fat full_share τ (l i) 0 u) D y φ (fat full_share τ (l i) 0 v) → type_of ls i ≡ some τ → vs i ≡ some u
        → ((P : SProp 𝓤) → Opds K 𝓛 (raw P ∷ del 𝓛 (twice i) (locals 𝓤 l ls vs ++ X)) (blocks l ls) xs us) → type_of ls j ≡ some D.type
        → (Good D y × φ → At 𝓛 K C Λ l ls (put j (some (D.val y)) (put i (some v) vs)) X b q) → At 𝓛 K C Λ l ls vs X (seq (call f xs (place j [])) b) q
    asks_lending t fm i {j} {f} {xs} {us} {b} {τ} {u} {v} {D} {y} {φ} gives e h os e' k = record {
      go = taken_out $ subst (λ (x : Item 𝓤). Seq K 𝓛 (x ∷ Rest) (runs C Λ (blocks l ls) (seq (call f xs (place j [])) b) q)) (sym (nth_local 𝓛 l ls vs X i τ e ∙ ap (holding 𝓤 τ (l i)) h))
          (use1 𝓛 (later (raw (C f us (λ r. mean 𝓛 (Told r))))) gives.prf $ await t tt $ calls t fm Told (os _) (λ r. await t tt $ learn t (λ g. regoal t (λ z. lands C Λ (blocks l ls) (place j []) z b q) g.0 refl $
          put_back $ land t (at t (spot_local 𝓛 l ls j D.type e') (stop t)) (sets l ls (put i (some v) vs) t X j e' (D.typed y g.1.0)) $ (k g.1).go)));
    }
      where
        Rest : List (Item 𝓤)
        Rest = del 𝓛 (twice i) (locals 𝓤 l ls vs ++ X)

        Told : Val → Item 𝓤
        Told r = later (given ((r ≡ D.val y) × (Good D y × φ)) (‵ (fat full_share τ (l i) 0 v)))

        taken_out : {G : Goal 𝓤 H} → Step K 𝓛 (nth 𝓛 (twice i) (locals 𝓤 l ls vs ++ X) ∷ Rest) G (locals 𝓤 l ls vs ++ X) G
        taken_out = step (λ s. by t (via 𝓤 _ (pull 𝓛 (twice i) (locals 𝓤 l ls vs ++ X)) (via 𝓤 _ (push 𝓛 (nth 𝓛 (twice i) (locals 𝓤 l ls vs ++ X)) Rest) s.prf)))

        put_back : {G : Goal 𝓤 H} → Step K 𝓛 (locals 𝓤 l ls (put i (some v) vs) ++ X) G (‵ (fat full_share τ (l i) 0 v) ∷ Rest) G
        put_back {G} = step (λ s. by t (via 𝓤 _ (pop 𝓛 (‵ (fat full_share τ (l i) 0 v)) Rest) (via 𝓤 _ (fill 𝓛 (twice i) (‵ (fat full_share τ (l i) 0 v)) (locals 𝓤 l ls vs ++ X))
            (subst (λ (Δ : List (Item 𝓤)). Seq K 𝓛 Δ G) (sym (put_local 𝓛 l ls vs X i τ (some v) e)) s).prf)))
