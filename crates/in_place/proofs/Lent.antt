-- A function that is lent a thing and told a level, and answers a level, meets its contract if it goes from the loan to the loan at what it leaves.
-- Over any thing and any promise. Assumes what the kit's walks assume.
use mathlib.Core.Path.{refl}
use Prim.Native.Nat.{ℕ}
use mathlib.Core.Bool.{Bool}
use mathlib.Core.List.{[], ◌∷◌, List}
use seplogic.Ra.Ura.{Ura}
use mir.Syntax.{named, Fn}
use mir.Val.{Val, vbool, vptr}
use base.Logic.{SProp, ent, sep, emp, via, fst∗, emp∗, mono∗}
use base.Fml.{GName, Lft, Share, ftrue, flft}
use prog.Wp.{WpFn, Tables}
use types.Logic.{Logic}
use contract.Monad.{fact, fact_i}
use types.Kit.{‵, raw, ◌⊛◌, ⋆, ◌$◌, ◌∵◌, !, qed, move, keep, drop, use0, split, join, fsplit, fsplit3, fjoin, fjoin3, feq_i, suffices, frame, done}
use sound.WpLaws.{WpFn-mono}
use denote.RattleType.{owns}
use denote.Laws.{Is}
use denote.Plain.{bool_vals, bool_Tells, bool_Makes}
use denote.Builtin.{bool}
use denote.Ref.{MutBor, MutRef, mut_vals, mut_Tells}
use denote.Signature.{plain, mut_ref_to}
use denote.Steps.{owned, nothing}
use denote.Triple.Clauses.{Ended, Clauses, closing, at_exit}
use denote.Triple.Entry.{on_entry}
use denote.Triple.Spec.{Meets}
use denote.Triple.Walked.{Stays, stay_ref, stay_none, on_exit, walk_of, Goes-none, Goes-ref, ends_at, walked, walk_Meets}
use denote.Exit.{yes}
use Rattle.walk.proofs.Data.{Data}
use Rattle.walk.proofs.Loans.{Loan}

-- two facts that hold
pub two : {M : Type 1} (𝓤 : Ura M) (φ ψ : Type 0) → φ → ψ → ent 𝓤 (emp 𝓤) (sep 𝓤 (fact 𝓤 φ) (fact 𝓤 ψ))
two 𝓤 φ ψ p q = via 𝓤 (sep 𝓤 (emp 𝓤) (emp 𝓤)) (emp∗ 𝓤 (emp 𝓤)) (mono∗ 𝓤 (fact_i 𝓤 φ (emp 𝓤) p) (fact_i 𝓤 ψ (emp 𝓤) q))

module _ {M : Type 1} {𝓤 : Ura M} (𝓛 : Logic 𝓤) (S : Data 𝓛) where
  open 𝓛 use {H}

  abbrev ended : Ended
  ended = record { signature = record { lifetimes = 1; outlives = []; params = mut_ref_to (0 ∷ []) tt (plain (λ _. S.row)) ∷ plain (λ _. bool) ∷ []; result = plain (λ _. bool) }; kept = (yes, (yes, tt)) }

  -- at exit the loan is still owned, at what lies there last, and the level as it was passed
  abbrev stayed : Stays ended.signature.params ended.kept
  stayed = (stay_ref (0 ∷ []) tt (plain (λ _. S.row)), (stay_none (λ _. bool) yes, tt))

  module _ (c : Clauses 𝓤 ended) where
    -- x is lent for κ, of which the share q is held; it lies in block b at o, and γ is the loan's ghost name
    module _ (κ : Lft) (q : Share) (γ : GName) (b o : ℕ) (x : S.row.Denot) (high : Bool) where
      abbrev args : MutBor S.row.Denot × (Bool × Unit {0})
      args = (record { ref_ptr = (b, o); ghost_name = γ; now = x }, (high, tt))

      abbrev passed : List Val × (List Val × Unit {0})
      passed = (vptr b o ∷ [], (vbool high ∷ [], tt))

      module _ (g : (c (κ, tt) args).ghost) where
        -- y is left and d is answered: what is left of the parameters and the result, and the promise
        module _ (y : S.row.Denot) (d : Bool) where
          abbrev Left : SProp 𝓤
          Left = on_exit 𝓛 ended stayed (κ, tt) (q, tt) passed (vbool d) d args (y, (tt, tt))

          abbrev Promise : SProp 𝓤
          Promise = (c (κ, tt) args).ensures g d (at_exit ended (κ, tt) args (y, (tt, tt)))

        -- the goal of a walk that ends in Post, whatever that is
        abbrev Goes : ((Val → SProp 𝓤) → SProp 𝓤) → Type 2
        Goes run = (Post : Val → SProp 𝓤) → ((y : S.row.Denot) (d : Bool) → ent 𝓤 (emp 𝓤) (Promise y d) → ent 𝓤 (⋆ 𝓛 (Loan S κ q γ b o y)) (Post (vbool d))) → ent 𝓤 (⋆ 𝓛 (Loan S κ q γ b o x)) (run Post)

        abbrev Post : Val → SProp 𝓤
        Post = (walk_of 𝓛 ended stayed c).post (((κ, tt), (q, tt), tt, args, passed), g)

        exits : (y : S.row.Denot) (d : Bool) → ent 𝓤 (emp 𝓤) (Promise y d) → ent 𝓤 (⋆ 𝓛 (Loan S κ q γ b o y)) (Post (vbool d))
        exits y d so =
            qed 𝓛 (Loan S κ q γ b o y) ∵ suffices ! _ (ends_at 𝓛 ended stayed c (((κ, tt), (q, tt), tt, args, passed), g) (vbool d) d (y, (tt, tt)) (tt, (tt, tt))) $
            suffices ! (Left y d) (qed 𝓛 (raw (Left y d) ∷ []) ∵ use0 𝓛 (raw (Promise y d)) so $ move ! (1 ∷ 0 ∷ []) $ done !) $
            -- the token
            nothing ! $ move ! (3 ∷ 0 ∷ []) $ join ! $ frame ! $
            -- the parameters
            feq_i ! (List Val) (vptr b o ∷ []) (vptr b o ∷ []) refl $ fjoin3 ! $ nothing ! $ owned ! bool (Is bool) (bool_Makes 𝓛) high _ refl $ fjoin ! $ move ! (1 ∷ 0 ∷ []) $ fjoin ! $
            -- the result
            owned ! bool (Is bool) (bool_Makes 𝓛) d _ refl $ move ! (1 ∷ 0 ∷ []) $ done !

        enters : ent 𝓤 (on_entry 𝓛 ended.signature (κ, tt) (q, tt) args passed) (⋆ 𝓛 (Loan S κ q γ b o x))
        enters =
            qed 𝓛 ((‵ (flft κ q) ⊛ ‵ ftrue) ∷ ‵ (owns (MutRef (named 0) κ S.row ∷ bool ∷ []) args passed) ∷ []) ∵ split ! $ move ! (2 ∷ []) $ fsplit ! $ fsplit3 ! $ drop ! $ keep ! (0 ∷ 1 ∷ 3 ∷ []) $ done !

    pub meets : (e : Fn) (𝓣 : Tables 𝓤 H)
        → ((κ : Lft) (q : Share) (γ : GName) (b o : ℕ) (x : S.row.Denot) (high : Bool) (g : (c (κ, tt) (args κ q γ b o x high)).ghost) → Goes κ q γ b o x high g (WpFn 𝓤 H 𝓣.C 𝓣.Λ e (vptr b o ∷ vbool high ∷ [])))
        → Meets 𝓛 ended.signature (WpFn 𝓤 H 𝓣.C 𝓣.Λ e) (closing 𝓛 ended c)
    meets e 𝓣 walk =
        walk_Meets 𝓛 ended stayed (Goes-ref 𝓛 1 0 tt (plain (λ _. S.row)), (Goes-none 𝓛 1 (λ _. bool) yes (λ κs x f. refl), tt)) c (WpFn 𝓤 H 𝓣.C 𝓣.Λ e) (WpFn-mono 𝓤 H 𝓛.laws 𝓣 e)
        (walked 𝓛 ended stayed c (WpFn 𝓤 H 𝓣.C 𝓣.Λ e) (λ κs. (mut_vals, (bool_vals, tt))) (λ κs. (mut_Tells (named 0) κs.0 S.row, (bool_Tells, tt)))
        (λ κs qs bounds a g _. via 𝓤 _ (fst∗ 𝓤 _ ((c κs a).requires g)) (via 𝓤 _ (enters κs.0 qs.0 a.0.ghost_name a.0.ref_ptr.0 a.0.ref_ptr.1 a.0.now a.1.0 g)
        (walk κs.0 qs.0 a.0.ghost_name a.0.ref_ptr.0 a.0.ref_ptr.1 a.0.now a.1.0 g _ (exits κs.0 qs.0 a.0.ghost_name a.0.ref_ptr.0 a.0.ref_ptr.1 a.0.now a.1.0 g)))))
