-- A call by value: the contract of a function of plain data, as what it answers. Assumes what the kit's walks assume (`Logic`).
use mathlib.Core.Path.{◌≡◌, refl, ◌∙◌, ap, subst}
use mathlib.Core.List.{[], ◌∷◌, List}
use seplogic.Ra.Ura.{Ura}
use mir.Syntax.{Callee, Place, Opd as Operand, Body, seq, call}
use mir.Val.{Val}
use base.Logic.{SProp, ent, sep, emp, ex, guard, via, mono∗, mono_l, mono_r, emp∗, id⊢, ex_e, snd∗}
use base.Fml.{ftrue}
use prog.Model.{Model}
use prog.Routine.{Routine, Env as Names}
use prog.Wp.{Env, Calls, Loops, eval_opds}
use types.Logic.{Logic, sem}
use contract.Monad.{fact}
use contract.Running.{Running, tables}
use sound.WpLaws.{FmC}
use types.Kit as Kit
use types.Kit.{Item, ‵, raw, ◌⊛◌, given, later, ⋆, push, Post, runs, lands, aim, Seq, ◌$◌, ◌∵◌, !, qed, move, keep, drop, use1, split, pick, learn, regoal, await, updating, now as at_once, check, done}
use types.Run.{Opds}
use denote.RattleType.{RattleType, Denots, Valss, flat, owns}
use denote.Laws.{Is, Ises, Are, Makess, shows, owns_make}
use denote.Steps.{peeks, heard, only}
use denote.Signature.{Slot, plain, types_at}
use denote.Exit.{yes}
use denote.Triple.End.{all}
use denote.Triple.Statement.{Triple}
use denote.Triple.Spec.{triple_of}
use denote.Triple.Table.{cited}
use denote.Triple.Clauses.{Ended, Clauses, lasts, ensured, closing}
use Rattle.walk.proofs.Data.{Data, Good}

module _ {M : Type 1} {𝓤 : Ura M} {𝓛 : Logic 𝓤} where
  -- a function by value
  open 𝓛 use {H}

  abbrev slots : List (Data 𝓛) → List (Slot 0)
  slots [] = []
  slots (D ∷ Ds) = plain (λ _. D.row) ∷ slots Ds

  abbrev by_value : List (Data 𝓛) → Data 𝓛 → Ended
  by_value Ds D = record { signature = record { lifetimes = 0; outlives = []; params = slots Ds; result = plain (λ _. D.row) }; kept = all yes (slots Ds) }

  abbrev rows : List (Data 𝓛) → List RattleType
  rows Ds = types_at (slots Ds) tt

  abbrev spelled : (Ds : List (Data 𝓛)) → Denots (rows Ds) → Valss (rows Ds)
  spelled [] a = tt
  spelled (D ∷ Ds) a = (D.val a.0 ∷ [], spelled Ds a.1)

  abbrev Goods : (Ds : List (Data 𝓛)) → Denots (rows Ds) → Type 0
  Goods Ds a = Are (rows Ds) (Ises (rows Ds)) a (spelled Ds a)

  making : (Ds : List (Data 𝓛)) → Makess 𝓛 (rows Ds) (Ises (rows Ds))
  making [] = tt
  making (D ∷ Ds) = (D.makes, making Ds)

  -- called at vs, f answers y; and at any good values, it answers y of them
  pub record Answers (C : Calls 𝓤 H) (f : Callee) (vs : List Val) (D : Data 𝓛) (y : D.row.Denot) : Type 1 where
    pub prf : ent 𝓤 (emp 𝓤) (C f vs (λ v. H.⇛ (guard 𝓤 ((v ≡ D.val y) × Good D y) (emp 𝓤))))

  pub record Computes (C : Calls 𝓤 H) (f : Callee) (Ds : List (Data 𝓛)) (D : Data 𝓛) (y : Denots (rows Ds) → D.row.Denot) : Type 1 where
    pub at : (a : Denots (rows Ds)) → Goods Ds a → Answers C f (flat (rows Ds) (spelled Ds a)) D (y a)

  -- the contract that says no more than the answer
  abbrev promising : (Ds : List (Data 𝓛)) (D : Data 𝓛) → (Denots (rows Ds) → D.row.Denot) → Clauses 𝓤 (by_value Ds D)
  promising Ds D y κs a = record { ghost = Unit {0}; requires = λ _. emp 𝓤; ensures = λ _ r e. fact 𝓤 (r ≡ y a) }

  module _ where
    computing : {C : Calls 𝓤 H} → FmC 𝓤 H 𝓛.laws C → {f : Callee} {Ds : List (Data 𝓛)} {D : Data 𝓛} {y : Denots (rows Ds) → D.row.Denot}
        → Triple 𝓤 (C f) (triple_of 𝓛 (by_value Ds D).signature (closing 𝓛 (by_value Ds D) (promising Ds D y))) → Computes C f Ds D y
    computing {C} fm {f} {Ds} {D} {y} met = record { at = answers }
      where
        answers : (a : Denots (rows Ds)) → Goods Ds a → Answers C f (flat (rows Ds) (spelled Ds a)) D (y a)
        answers a good = record {
          prf =
              via 𝓤 (sep 𝓤 (C f (flat (rows Ds) (spelled Ds a)) After) (emp 𝓤))
              (via 𝓤 (sep 𝓤 (emp 𝓤) (emp 𝓤)) (emp∗ 𝓤 (emp 𝓤)) (mono_l 𝓤 (emp 𝓤) (via 𝓤 _ asked (met ((tt, tt, tt, a, spelled Ds a), tt)))))
              (fm f (flat (rows Ds) (spelled Ds a)) After _ (emp 𝓤) told);
        }
          where
            Said : D.row.Denot → SProp 𝓤
            Said = ensured 𝓛 (by_value Ds D) (promising Ds D y) tt a tt

            After : Val → SProp 𝓤
            After v = H.⇛ (ex 𝓤 (λ (r : D.row.Denot). sep 𝓤 (sep 𝓤 (emp 𝓤) (sem 𝓛 (D.row.own_val r (v ∷ [])))) (Said r)))

            asked : ent 𝓤 (emp 𝓤) (sep 𝓤 (sep 𝓤 (emp 𝓤) (sem 𝓛 (owns (rows Ds) a (spelled Ds a)))) (emp 𝓤))
            asked =
                via 𝓤 (sep 𝓤 (emp 𝓤) (emp 𝓤)) (emp∗ 𝓤 (emp 𝓤)) (mono∗ 𝓤
                (via 𝓤 (sep 𝓤 (emp 𝓤) (emp 𝓤)) (emp∗ 𝓤 (emp 𝓤)) (mono_r 𝓤 (emp 𝓤) (owns_make 𝓛 (rows Ds) (Ises (rows Ds)) (making Ds) a (spelled Ds a) good))) (id⊢ 𝓤 (emp 𝓤)))

            said : (r : D.row.Denot) → ent 𝓤 (Said r) (fact 𝓤 (r ≡ y a))
            said r = ex_e 𝓤 _ (λ ws. snd∗ 𝓤 (sem 𝓛 (lasts (by_value Ds D) tt a ws)) (fact 𝓤 (r ≡ y a)))

            told : (v : Val) → ent 𝓤 (sep 𝓤 (After v) (emp 𝓤)) (H.⇛ (guard 𝓤 ((v ≡ D.val (y a)) × Good D (y a)) (emp 𝓤)))
            told v =
                qed 𝓛 (raw (After v) ∷ ‵ ftrue ∷ []) ∵ updating ! $
                use1 𝓛 (later (Kit.some (λ (r : D.row.Denot). (‵ ftrue ⊛ ‵ (D.row.own_val r (v ∷ []))) ⊛ raw (Said r)))) (id⊢ 𝓤 _) $ await ! tt $ pick ! (λ r. split ! $ move ! (1 ∷ []) $
                use1 𝓛 (raw (fact 𝓤 (r ≡ y a))) (said r) $ heard ! (r ≡ y a) (λ e. split ! $ drop ! $ peeks ! D.row (Is D.row) (shows 𝓛 D.row) r (v ∷ []) (λ is.
                at_once ! $ check ! (ap only (D.tells r (v ∷ []) is) ∙ ap D.val e, subst (Good D) e (subst (Is D.row r) (D.tells r (v ∷ []) is) is)) $ keep ! [] $ done !)))

    -- a function of the environment γ that meets it
    pub cites : (𝓜 : Model 𝓤 H) (𝓡 : Running 𝓤 H 𝓜) (γ : Names) → FmC 𝓤 H 𝓛.laws (tables 𝓤 H 𝓜 𝓡 γ).C → {f : Callee} {Ds : List (Data 𝓛)} {D : Data 𝓛} {y : Denots (rows Ds) → D.row.Denot} {r : Routine}
        → γ f ≡ r → Triple 𝓤 (𝓡.run r) (triple_of 𝓛 (by_value Ds D).signature (closing 𝓛 (by_value Ds D) (promising Ds D y))) → Computes (tables 𝓤 H 𝓜 𝓡 γ).C f Ds D y
    cites 𝓜 𝓡 γ fm {f} {r = r} e met = computing fm (cited 𝓤 H _ 𝓜 𝓡 γ f r e met)

  module _ {K : Type 0} {Γ : List (Item 𝓤)} {E : Env 𝓤 H} {C : Calls 𝓤 H} {Λ : Loops 𝓤 H} {q : Post 𝓤 H} where
    -- a call by value: nothing is handed over, and the answer is known
    pub calls_by : K → FmC 𝓤 H 𝓛.laws C → {f : Callee} {xs : List Operand} {d : Place} {rest : Body} {vs : List Val} {D : Data 𝓛} {y : D.row.Denot} → Answers C f vs D y → Opds K 𝓛 Γ E xs vs
        → (Good D y → Seq K 𝓛 Γ (lands C Λ E d (D.val y) rest q)) → Seq K 𝓛 Γ (runs C Λ E (seq (call f xs d) rest) q)
    calls_by t fm {f} {xs} {d} {rest} {vs} {D} {y} ans os k = record {
      prf =
          via 𝓤 (eval_opds 𝓤 H E xs (λ us. C f us Then))
          (os.go (λ us. C f us Then)
          (via 𝓤 (sep 𝓤 (emp 𝓤) (⋆ 𝓛 Γ)) (emp∗ 𝓤 (⋆ 𝓛 Γ))
          (via 𝓤 (sep 𝓤 (C f vs Told) (⋆ 𝓛 Γ)) (mono_l 𝓤 (⋆ 𝓛 Γ) ans.prf) (fm f vs Told Then (⋆ 𝓛 Γ) after))))
          (𝓛.laws.⇛_intro _);
    }
      where
        Told : Val → SProp 𝓤
        Told v = H.⇛ (guard 𝓤 ((v ≡ D.val y) × Good D y) (emp 𝓤))

        Then : Val → SProp 𝓤
        Then v = aim 𝓤 H (lands C Λ E d v rest q)

        known : (v : Val) → Seq K 𝓛 (later (given ((v ≡ D.val y) × Good D y) (‵ ftrue)) ∷ Γ) (lands C Λ E d v rest q)
        known v = await t tt $ learn t (λ g. drop t $ regoal t (λ u. lands C Λ E d u rest q) g.0 refl $ k g.1)

        after : (v : Val) → ent 𝓤 (sep 𝓤 (Told v) (⋆ 𝓛 Γ)) (Then v)
        after v = via 𝓤 _ (push 𝓛 (later (given ((v ≡ D.val y) × Good D y) (‵ ftrue))) Γ) (known v).prf
