-- Hex that is written into a buffer of zeros leaves ASCII there, and so a text. Assumes nothing.
use Prim.Native.Nat.{ℕ, zero, suc, ◌/◌, ◌%◌, ◌<◌}
use native.Mathlib.Omega.{arith}
use mathlib.Core.Bool.{Bool, true, false}
use mathlib.Core.List.{List, [], ◌∷◌, ◌++◌}
use mathlib.Core.Path.{◌≡◌}
use lib.Dec.{ltb, ltb→lt}
use lib.ListN.{take, replicate}
use lib.Seq.{sets}
use Rattle.std.specs.Str.{IsAscii}
use Rattle.std.proofs.Common.{Fits, w8, slice_index_or}
use Rattle.std.proofs.lemmas.Str.{IsAscii-append, IsAscii-take}
use Rattle.std.proofs.lemmas.Str.Ascii.{IsAscii-nil, IsAscii-cons, IsAscii-from_all, IsAscii-set}
use Rattle.std.proofs.lemmas.List.Elements.{All-replicate}
use Rattle.laws.specs.Pick.{pick}
use Rattle.laws.proofs.Below.{below}
use Rattle.text.specs.Writing.{buffer_after, buffer_with}
use Rattle.text.specs.Hex.{hex_digit, hex_of, hexes_of, hex_digits_of}

digit_ascii : (value : ℕ) → value < 16 → hex_digit value < 128
unfolding hex_digit pick
digit_ascii value small = ltb→lt _ _ (below (λ n. ltb (hex_digit n) 128) 16 tt value small)

pub bytes_ascii : (bytes : List ℕ) → ((i : ℕ) → Fits w8 (slice_index_or bytes i 0)) → IsAscii (hexes_of bytes)
unfolding hexes_of hex_of
bytes_ascii [] fit = IsAscii-nil
bytes_ascii (byte ∷ bytes) fit =
    let first = fit 0 in
    IsAscii-cons _ (hex_digit (byte % 16) ∷ hexes_of bytes) (digit_ascii (byte / 16) (omega arith))
    (IsAscii-cons _ (hexes_of bytes) (digit_ascii (byte % 16) (omega arith)) (bytes_ascii bytes (λ i. fit (suc i))))

pub digits_ascii : (width number : ℕ) → IsAscii (hex_digits_of width number)
unfolding hex_digits_of
digits_ascii zero number = IsAscii-nil
digits_ascii (suc width) number =
    IsAscii-append _ _ (digits_ascii width (number / 16)) (IsAscii-cons _ [] (digit_ascii (number % 16) (omega arith)) IsAscii-nil)

sets_ascii : (before : List ℕ) (at : ℕ) (text : List ℕ) → IsAscii text → IsAscii before → IsAscii (sets before at text)
sets_ascii before at [] t b = b
sets_ascii before at (byte ∷ text) t b = sets_ascii _ (suc at) text (λ i. t (suc i)) (IsAscii-set before at byte b (t 0))

picked_ascii : (room : Bool) (x y : List ℕ) → IsAscii x → IsAscii y → IsAscii (pick room x y)
unfolding pick
picked_ascii true x y a b = a
picked_ascii false x y a b = b

zeros_ascii : (count : ℕ) → IsAscii (replicate count 0)
zeros_ascii count = IsAscii-from_all _ (All-replicate (λ b. b < 128) count 0 (omega arith))

-- whatever part of the buffer is handed on
pub written_ascii : (text : List ℕ) (count : ℕ) → IsAscii text → {after part : List ℕ} (end : ℕ) → after ≡ buffer_with text 0 (replicate count 0) → part ≡ take end after → IsAscii part
unfolding buffer_after
written_ascii text count t end a p = rw (p, a) (IsAscii-take _ end (picked_ascii _ _ _ (sets_ascii _ 0 text t (zeros_ascii count)) (zeros_ascii count)))
