-- `BitLengths::of` meets its contract. Assumes nothing.
use mathlib.Core.Path.{◌≡◌, refl}
use mathlib.Core.List.{List}
use Prim.Native.Nat.{ℕ, ◌≤◌, ◌<◌, ◌+◌}
use native.Mathlib.Numerals.{add-one}
use lib.ListN.{length, drop, get_or, drop_of_length-le}
use lib.Seq.{drop-cons}
use Rattle.lengths.specs.declared.BitLengths.{BitLengths}
use Rattle.lengths.specs.Lengths.{with_length, with_lengths, set_of}
use Rattle.lengths.proofs.Member.{member}
use Rattle.lengths.proofs.BitLengths.of.Goals as goal

turn : (ns : List ℕ) (s r : BitLengths) (i : ℕ) → i < length ns → with_lengths s (drop i ns) ≡ set_of ns → r ≡ with_length s (get_or ns i 0)
    → with_lengths r (drop (i + 1) ns) ≡ set_of ns
unfolding with_lengths
turn ns s r i h inv e = rw (e, add-one i) (rw (drop-cons ns i 0 h) at inv)

done : (ns : List ℕ) (s : BitLengths) (i : ℕ) → length ns ≤ i → with_lengths s (drop i ns) ≡ set_of ns → s ≡ set_of ns
unfolding with_lengths
done ns s i h inv = rw (drop_of_length-le ns {i = i} h) at inv

pub loop-length-init : goal.loop-length-init
unfolding set_of
loop-length-init c = refl

pub loop-length-preserved : goal.loop-length-preserved
loop-length-preserved c = turn _ _ _ _ c.loop-length-test.true c.loop-length.invariant c.with_length-set.ensures

pub returns : goal.returns
returns c =
    let e : c.loop-length.set ≡ set_of c.args.lengths.now = done _ _ _ c.loop-length-test.false c.loop-length.invariant in
    record { value = e; holds_just = rw e (member c.args.lengths.now) }
