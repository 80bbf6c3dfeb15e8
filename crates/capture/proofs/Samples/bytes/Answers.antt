-- `Samples::bytes` meets its contract. The loop's invariant: the first bytes are handed out, and the others are zero. Assumes nothing.
use mathlib.Core.Path.{◌≡◌, refl}
use mathlib.Core.List.{List}
use Prim.Native.Nat.{ℕ, ◌+◌, ◌≤◌, ◌<◌}
use native.Mathlib.Omega.{arith}
use native.Mathlib.Numerals.{add-one}
use lib.ListN.{set, replicate}
use Rattle.laws.specs.Tabulate.{tabulate}
use Rattle.laws.proofs.Tabulated.{set_next}
use Rattle.capture.specs.declared.Samples.{Samples}
use Rattle.capture.specs.Samples.{words_of, byte_in, bytes_of}
use Rattle.capture.proofs.Samples.bytes.Invariants.{handed}
use Rattle.capture.proofs.Samples.bytes.Goals as goal

turn : (words all : List ℕ) (at byte : ℕ) → at < 64 → all ≡ handed words at → byte ≡ byte_in words at → set all at byte ≡ handed words (at + 1)
turn words all at byte h inv e = rw (inv, e, add-one at) (set_next at (byte_in words) (replicate 64 0) h)

done : (s : Samples) (words all : List ℕ) (at : ℕ) → words ≡ words_of s → at ≤ 64 → 64 ≤ at → all ≡ handed words at → all ≡ bytes_of s
unfolding bytes_of tabulate
done s words all at is within past inv = let e : at ≡ 64 = omega arith in rw (e, is) at inv

pub loop-at-init : goal.loop-at-init
unfolding tabulate
loop-at-init c = refl

pub loop-at-preserved : goal.loop-at-preserved
loop-at-preserved c = turn _ _ _ _ (omega arith) c.loop-at.invariant c.byte_in.ensures

pub returns : goal.returns
returns c = done _ _ _ _ c.words-words.ensures (omega arith) c.loop-at-test.false c.loop-at.invariant
