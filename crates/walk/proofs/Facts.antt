-- Promises of two facts. Assumes nothing.
use mathlib.Core.Path.{◌≡◌, sym, ◌∙◌}
use seplogic.Ra.Ura.{Ura}
use base.Logic.{SProp, ent, sep, via, snd∗, fst∗}
use contract.Monad.{fact, fact_i, fact_use, conj, conj_l, conj_r}

-- two facts are one
pub both : {M : Type 1} (𝓤 : Ura M) (φ ψ : Type 0) → ent 𝓤 (sep 𝓤 (fact 𝓤 φ) (fact 𝓤 ψ)) (fact 𝓤 (φ × ψ))
both 𝓤 φ ψ = fact_use 𝓤 φ (fst∗ 𝓤 (fact 𝓤 φ) (fact 𝓤 ψ)) (λ p. fact_use 𝓤 ψ (snd∗ 𝓤 (fact 𝓤 φ) (fact 𝓤 ψ)) (λ q. fact_i 𝓤 _ _ (p, q)))

-- A promise that names what is left behind a reference, and the result, leaves one of both: a second end that meets it is the first.
pub told_twice : {M : Type 1} (𝓤 : Ura M) {A B : Type 0} {x y z : A} {r s t : B}
    → ent 𝓤 (conj 𝓤 (sep 𝓤 (fact 𝓤 (x ≡ z)) (fact 𝓤 (r ≡ t))) (sep 𝓤 (fact 𝓤 (y ≡ z)) (fact 𝓤 (s ≡ t)))) (fact 𝓤 ((r ≡ s) × (x ≡ y)))
told_twice 𝓤 {x = x} {y} {z} {r} {s} {t} =
    let one : SProp 𝓤 = sep 𝓤 (fact 𝓤 (x ≡ z)) (fact 𝓤 (r ≡ t)) in
    let other : SProp 𝓤 = sep 𝓤 (fact 𝓤 (y ≡ z)) (fact 𝓤 (s ≡ t)) in
    fact_use 𝓤 ((x ≡ z) × (r ≡ t)) (via 𝓤 one (conj_l 𝓤 one other) (both 𝓤 (x ≡ z) (r ≡ t))) (λ p.
    fact_use 𝓤 ((y ≡ z) × (s ≡ t)) (via 𝓤 other (conj_r 𝓤 one other) (both 𝓤 (y ≡ z) (s ≡ t))) (λ q.
    fact_i 𝓤 ((r ≡ s) × (x ≡ y)) (conj 𝓤 one other) (p.1 ∙ sym q.1, p.0 ∙ sym q.0)))
