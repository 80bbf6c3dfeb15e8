-- Document 01, "The bench reader": the mark that each call of standard input, output and error leaves. Assumes nothing.
use Rattle.std.specs.Prelude.{ℕ, ◌≤◌, ◌<◌, Bool, List}
use Rattle.seal.specs.Seal.{Mark}
use Rattle.stdio.specs.declared.Report.{Report}
use Rattle.stdio.specs.declared.Report.TheVariants.{Bytes, End, Failed}

-- the calls of the outside, each with what it was given and what it answered
pub data Call : Type 0 where
  read : ℕ → List ℕ → Report → Call
  write : List ℕ → Bool → Call
  complain : List ℕ → Call

-- The read of this number made this report and left this buffer.
abbrev pub Came : ℕ → List ℕ → Report → Type 0
Came number buffer report = Mark (read number buffer report)

-- The program wrote this text, and the answer tells whether that succeeded.
abbrev pub Went : List ℕ → Bool → Type 0
Went text done = Mark (write text done)

-- The program wrote this message to standard error.
abbrev pub Complained : List ℕ → Type 0
Complained message = Mark (complain message)

-- A report of bytes gives at least one, and no more than the buffer has room for.
unfoldable pub Within : ℕ → Report → Type 0
Within room (Bytes count) = (0 < count) × (count ≤ room)
Within room End = Unit {0}
Within room Failed = Unit {0}
