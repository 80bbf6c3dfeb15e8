-- `text::words::place` meets its contract. Assumes nothing.
use mathlib.Core.Path.{◌≡◌}
use Prim.Native.Nat.{◌+◌, ◌-◌, ◌≤◌}
use lib.ListN.{length, drop}
use Rattle.text.specs.Words.{words_of, place_among}
use Rattle.text.proofs.words.place.Given as goal

abbrev pub invariant-loop-from : goal.invariant-loop-from
invariant-loop-from l = (l.n ≤ l.from) × (l.from ≤ length l.words + 1) × (l.n + place_among l.field (words_of (drop l.from l.words)) ≡ place_among l.field (words_of l.words))

abbrev pub decreases-loop-from : goal.decreases-loop-from
decreases-loop-from l = length l.words + 1 - l.from
