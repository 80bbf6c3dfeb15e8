-- Document 01, "The wave" (demand 2): a station sends every later frame as it sends its first. Assumes nothing.
use Rattle.std.specs.Prelude.{Bool, List, [], ◌∷◌, length}
use Rattle.halfbits.specs.HalfBits.{buffer_of}
use Rattle.fsm.specs.declared.DaliBitbangPhy.{DaliBitbangPhy}
use Rattle.station_theorems.specs.Calls.{Reached}
use Rattle.station_theorems.specs.Ticks.{alone}
use Rattle.frames.specs.Sends.{Start, started_by, MayStart, FitsBuffer, idle_at, Sent}

-- bits to send, and the call that starts them
pub record Sending : Type 0 where
  pub by : Start
  pub row : List Bool

-- Each of them fits the buffer.
unfoldable pub AllFit : List Sending → Type 0
AllFit [] = Unit {0}
AllFit (one ∷ more) = FitsBuffer one.row × AllFit more

-- the station after it has sent these one after the other, each started as soon as the one before had left it Idle
unfoldable pub after_sending : List Sending → DaliBitbangPhy → DaliBitbangPhy
after_sending [] s = s
after_sending (one ∷ more) s =
    after_sending more (alone (idle_at (length one.row)) (started_by one.by s (buffer_of one.row)).station)

-- the one that is sent first, of these and the next one
unfoldable pub first_of : List Sending → Sending → Sending
first_of [] next = next
first_of (one ∷ more) next = one

-- If the station may start the first frame, it takes the start of the next one too and sends it as its wave, however many came before.
abbrev pub NextFrameToWave : Type 0
NextFrameToWave =
    (before : List Sending) → AllFit before → (next : Sending) → FitsBuffer next.row
    → (s : DaliBitbangPhy) → Reached s → MayStart (first_of before next).by s → Sent next.by (after_sending before s) (buffer_of next.row) next.row
