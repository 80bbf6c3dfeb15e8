-- Document 01, "Machine": the states of a station, the levels that its ticks sample, and the level that it drives. Assumes nothing.
use Rattle.std.specs.Prelude.{ℕ, zero, suc, Bool, List, [], ◌∷◌, ◌++◌, ◌≡◌, length}
use Rattle.laws.specs.Pick.{pick}
use Rattle.machine.specs.declared.BusState.TheVariants as bus
use Rattle.fsm.specs.declared.DaliBitbangPhy.{DaliBitbangPhy}
use Rattle.fsm.specs.Ticking.{tick_of}
use Rattle.station_theorems.specs.Calls.{Call, tick, start_tx, start_answer, poll, take_idle, take_rx, acknowledge, policy, after}

-- the level that a station drives
abbrev pub drives : DaliBitbangPhy → Bool
drives s = s.core.bus.driven_high

-- the four states: Idle, Rx, Tx and Collision
abbrev pub IsIdle : DaliBitbangPhy → Type 0
IsIdle s = s.core.bus.bus_state ≡ bus.Idle

abbrev pub IsCapturing : DaliBitbangPhy → Type 0
IsCapturing s = s.core.bus.bus_state ≡ bus.Rx

abbrev pub IsSending : DaliBitbangPhy → Type 0
IsSending s = s.core.bus.bus_state ≡ bus.Tx

abbrev pub IsBreaking : DaliBitbangPhy → Type 0
IsBreaking s = s.core.bus.bus_state ≡ bus.CollisionTx

-- the station after n ticks; tick i, counted from 0, samples `level i`
unfoldable pub after_levels : ℕ → (ℕ → Bool) → DaliBitbangPhy → DaliBitbangPhy
after_levels zero level s = s
after_levels (suc n) level s = tick_of (after_levels n level s) (level n)

-- The same for a station alone on its line: each tick samples the level that the station drove before it.
unfoldable pub alone : ℕ → DaliBitbangPhy → DaliBitbangPhy
alone zero s = s
alone (suc n) s = tick_of (alone n s) (drives (alone n s))

-- how many of the first n levels are high in a row, counted back from the last of them
unfoldable pub highs_running : ℕ → (ℕ → Bool) → ℕ
highs_running zero level = 0
highs_running (suc n) level = pick (level n) (suc (highs_running n level)) 0

-- ---- ticks among other calls
-- A tick samples a level. No other call does.
unfoldable pub level_in : Call → List Bool
level_in (tick high) = high ∷ []
level_in (start_tx hb) = []
level_in (start_answer hb) = []
level_in poll = []
level_in take_idle = []
level_in take_rx = []
level_in acknowledge = []
level_in (policy p) = []

-- the levels that the ticks among these calls sample, in their order
unfoldable pub levels_in : List Call → List Bool
levels_in [] = []
levels_in (c ∷ cs) = level_in c ++ levels_in cs

-- how many of these calls are ticks
abbrev pub ticks_in : List Call → ℕ
ticks_in calls = length (levels_in calls)

-- The station is in Tx before these calls, and after each of them.
unfoldable pub StaysSending : List Call → DaliBitbangPhy → Type 0
StaysSending [] s = IsSending s
StaysSending (c ∷ cs) s = IsSending s × StaysSending cs (after c s)
