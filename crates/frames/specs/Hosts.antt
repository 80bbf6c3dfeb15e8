-- Document 01, "The wave" (demand 2): a host, and the calls that it makes between the ticks of a station. Assumes nothing.
use Rattle.std.specs.Prelude.{ℕ, zero, suc, ◌≤◌, ◌<◌, Bool, true, false, List, [], ◌∷◌, ◌≡◌}
use Rattle.fsm.specs.declared.DaliBitbangPhy.{DaliBitbangPhy}
use Rattle.fsm.specs.Ticking.{tick_of}
use Rattle.station_theorems.specs.Calls.{Call, tick, start_tx, start_answer, poll, take_idle, take_rx, acknowledge, policy, after_all, is_between}
use Rattle.station_theorems.specs.Ticks.{drives}
use Rattle.frames.specs.Sends.{idle_at}
use Rattle.frames.specs.ReadAs.{Whole}

-- ---- its calls
-- A host, given by the calls that it makes after n ticks and before the next one, for each n. Calls that only read the station are left out.
abbrev pub Host : Type 0
Host = ℕ → List Call

-- the station after n ticks and the host's calls before, between and after them; tick i, counted from 0, samples `level i`
unfoldable pub after_levels_amid : Host → ℕ → (ℕ → Bool) → DaliBitbangPhy → DaliBitbangPhy
after_levels_amid host zero level s = after_all (host 0) s
after_levels_amid host (suc n) level s = after_all (host (suc n)) (tick_of (after_levels_amid host n level s) (level n))

-- The same for a station alone on its line: each tick samples the level that the station drove before it.
unfoldable pub alone_amid : Host → ℕ → DaliBitbangPhy → DaliBitbangPhy
alone_amid host zero s = after_all (host 0) s
alone_amid host (suc n) s = after_all (host (suc n)) (tick_of (alone_amid host n s) (drives (alone_amid host n s)))

-- ---- the calls that a host may make
-- Every call of the list is of this kind.
unfoldable pub Each : (Call → Bool) → List Call → Type 0
Each kind [] = Unit {0}
Each kind (c ∷ cs) = (kind c ≡ true) × Each kind cs

-- A station in Tx goes on sending through any call but a tick, since it refuses starts.
unfoldable pub keeps_tx : Call → Bool
keeps_tx (tick high) = false
keeps_tx (start_tx hb) = true
keeps_tx (start_answer hb) = true
keeps_tx poll = true
keeps_tx take_idle = true
keeps_tx take_rx = true
keeps_tx acknowledge = true
keeps_tx (policy p) = true

-- A station in Rx goes on capturing through any call but a tick and `start_answer`. It refuses `start_tx`.
unfoldable pub keeps_rx : Call → Bool
keeps_rx (tick high) = false
keeps_rx (start_tx hb) = true
keeps_rx (start_answer hb) = false
keeps_rx poll = true
keeps_rx take_idle = true
keeps_rx take_rx = true
keeps_rx acknowledge = true
keeps_rx (policy p) = true

-- A capture that is ready stays so until the host takes it, acknowledges it or makes a start.
unfoldable pub keeps_capture : Call → Bool
keeps_capture (tick high) = false
keeps_capture (start_tx hb) = false
keeps_capture (start_answer hb) = false
keeps_capture poll = true
keeps_capture take_idle = true
keeps_capture take_rx = false
keeps_capture acknowledge = false
keeps_capture (policy p) = true

-- A host that lets a station send that many bits. It makes no tick in between. Once the station is Idle again, it starts nothing.
pub record LetsSend (bits : ℕ) (host : Host) : Type 0 where
  pub in_tx : (ticks : ℕ) → Each keeps_tx (host ticks)
  pub idle : (ticks : ℕ) → idle_at bits ≤ ticks → Each is_between (host ticks)

-- A host that lets a station hear a wave. The second tick of the wave starts Rx at the latest, and before it the host starts nothing. Later it starts
-- no answer. Once the station has heard the wave whole, the host leaves the capture ready.
pub record LetsHear (frame : List Bool) (host : Host) : Type 0 where
  pub idle : (ticks : ℕ) → ticks < 2 → Each is_between (host ticks)
  pub in_rx : (ticks : ℕ) → Each keeps_rx (host ticks)
  pub ready : (ticks : ℕ) → Whole frame ticks → Each keeps_capture (host ticks)
