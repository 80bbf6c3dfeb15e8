-- Bytes more behind an input change its last line, and no line before it. Assumes nothing.
use Prim.Native.Nat.{ℕ, zero, suc, ◌<◌}
use native.Mathlib.Omega.{arith}
use mathlib.Core.Bool.{Bool, true, false}
use mathlib.Core.List.{List, [], ◌∷◌, ◌++◌}
use mathlib.Core.Path.{◌≡◌, refl, sym, ap, ◌∙◌}
use lib.ListN.{length, take}
use Rattle.laws.specs.Pick.{pick}
use Rattle.text.specs.Fields.{grow, parted_at}
use Rattle.lines.specs.Lines.{lines_of}

take_grow : (byte m : ℕ) (parts : List (List ℕ)) → take (suc m) (grow byte parts) ≡ grow byte (take (suc m) parts)
unfolding grow
take_grow byte zero [] = refl
take_grow byte (suc m) [] = refl
take_grow byte m (part ∷ parts) = refl

grown : (byte m : ℕ) (parts : List (List ℕ)) → suc m < length (grow byte parts) → suc m < length parts
unfolding grow
grown byte m [] h = absurd (omega arith)
grown byte m (part ∷ parts) h = h

byte_more : (t : Bool) (byte n : ℕ) (a b : List (List ℕ)) → ((m : ℕ) → m < length b → take m a ≡ take m b)
    → n < length (pick t ([] ∷ b) (grow byte b)) → take n (pick t ([] ∷ a) (grow byte a)) ≡ take n (pick t ([] ∷ b) (grow byte b))
unfolding pick
byte_more t byte zero a b same h = refl
byte_more true byte (suc m) a b same h = ap (λ (parts : List (List ℕ)). [] ∷ parts) (same m (omega arith))
byte_more false byte (suc m) a b same h =
    take_grow byte m a ∙ ap (grow byte) (same (suc m) (grown byte m b h)) ∙ sym (take_grow byte m b)

pub lines_more : (input rest : List ℕ) (n : ℕ) → n < length (lines_of input) → take n (lines_of (input ++ rest)) ≡ take n (lines_of input)
unfolding parted_at
lines_more [] rest n h = absurd (omega arith)
lines_more (byte ∷ input) rest n h =
    byte_more _ byte n (lines_of (input ++ rest)) (lines_of input) (lines_more input rest) h
