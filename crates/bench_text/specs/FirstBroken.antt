-- Document 01, "Refusal numbers": what a list of rules in their order means, whatever the rules are. Assumes nothing.
use Rattle.std.specs.Prelude.{ℕ, Bool, true, false, ◌&&◌, List, [], ◌∷◌, ◌++◌, Ok, Err, ◌↔◌, ◌≡◌}
use Rattle.bench_text.specs.declared.Refusal.{Refusal}
use Rattle.bench_text.specs.Rules.{Rule, rules, judged_by, refusal_number}

-- The line keeps all rules of the list.
unfoldable pub all_hold : List Rule → List ℕ → Bool
all_hold [] text = true
all_hold (rule ∷ rules) text = rule.holds text && all_hold rules text

-- The line breaks the rule of this refusal, and keeps all rules before it.
pub record FirstOf (rules : List Rule) (text : List ℕ) (refusal : Refusal) : Type 0 where
  pub before : List Rule
  pub rule : Rule
  pub behind : List Rule
  pub stands : rules ≡ before ++ (rule ∷ behind)
  pub hold_before : all_hold before text ≡ true
  pub broken : rule.holds text ≡ false
  pub named : rule.refusal ≡ refusal

-- A line is good exactly if it keeps all rules. It is refused exactly by the first rule that it breaks.
abbrev pub FirstBroken : Type 0
FirstBroken =
    (rules : List Rule) (text : List ℕ)
    → ((judged_by rules text ≡ Ok tt) ↔ (all_hold rules text ≡ true))
    × ((refusal : Refusal) → (judged_by rules text ≡ Err refusal) ↔ FirstOf rules text refusal)

-- the refusal number of each rule
unfoldable pub numbers_of : List Rule → List ℕ
numbers_of [] = []
numbers_of (rule ∷ rules) = refusal_number rule.refusal ∷ numbers_of rules

-- The rules of a line stand in the order of their numbers, so the lower number wins.
abbrev pub ByNumber : Type 0
ByNumber = numbers_of rules ≡ 1 ∷ 2 ∷ 3 ∷ 4 ∷ []
