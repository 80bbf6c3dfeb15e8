-- Document 01, "Machine" and "Bench line" (demand 3): the ticks at which two senders see their clash. Assumes nothing.
use Rattle.std.specs.Prelude.{ℕ, suc, ◌+◌, ◌*◌}
use Rattle.laws.specs.Pick.{pick}
use Rattle.halfbits.specs.declared.HalfBitBuffer.{HalfBitBuffer}
use Rattle.bench_line.specs.declared.BenchLine.{BenchLine}
use Rattle.line_theorems.specs.Reached.{ReachedLine}
use Rattle.line_theorems.specs.OnLine.{AllIdle, Sender, buffer_in, Breaks}
use Rattle.line_theorems.specs.TwoSenders.{Pair, both_on, pulls_in, FirstDifference}

-- the tick that drives half-bit j, the start call being tick 0
abbrev pub driven_at : ℕ → ℕ
driven_at j = 4 + 4 * j

-- Half-bit j is the first that differs. The sender that releases it sees the clash on its third tick. The sender that pulls it low sees the clash on
-- the third tick of the next half-bit that it releases.
abbrev pub clash_at : HalfBitBuffer → ℕ → ℕ
clash_at hb j = pick (pulls_in hb j) (pick (pulls_in hb (suc j)) (driven_at j + 10) (driven_at j + 6)) (driven_at j + 2)

-- Two senders see their clash at these ticks. After its break, the one that pulled half-bit j low samples high, and the other samples low.
abbrev pub ClashTicks : Type 0
ClashTicks =
    (l : BenchLine) → ReachedLine l → AllIdle l → (a b : Sender) → Pair l a b → (j : ℕ) → FirstDifference (buffer_in a) (buffer_in b) j
    → Breaks (both_on l a b) a.number (clash_at (buffer_in a) j) (pulls_in (buffer_in a) j)
    × Breaks (both_on l a b) b.number (clash_at (buffer_in b) j) (pulls_in (buffer_in b) j)
