-- What the timed loop does to a station, and the one number that the clock compares with the Rust's. Assumes nothing.
use Rattle.std.specs.Prelude.{ℕ, zero, suc, ◌+◌, ◌*◌, ◌%◌, Bool, false, not, List, [], ◌∷◌, eqb, get_or}
use Rattle.laws.specs.Bit.{bit}
use Rattle.laws.specs.Pick.{pick}
use Rattle.halfbits.specs.declared.HalfBitBuffer.{HalfBitBuffer}
use Rattle.fsm.specs.Station.{last_event}
use Rattle.fsm.specs.Starting.{start_tx_of}
use Rattle.machine.specs.States.{is_idle}
use Rattle.fsm.specs.Ticking.{ticked}
use Rattle.fsm.specs.declared.DaliBitbangPhy.{DaliBitbangPhy}
use Rattle.timed_ticks.specs.declared.Pass.{Pass}

-- ---- one tick
-- the frame of the bytes A5, 3C and 0F
unfoldable pub frame : HalfBitBuffer
frame = record { «data» = 0xA6 ∷ 0x59 ∷ 0x96 ∷ 0xA9 ∷ 0x55 ∷ 0x6A ∷ 0x80 ∷ []; length = 54 }

-- A station that sends starts its frame again whenever it is Idle.
unfoldable pub starts_of : Bool → DaliBitbangPhy → Bool
starts_of sends s = pick sends (is_idle s.core.bus.bus_state) false

-- the station before its tick, after a start if there is one
unfoldable pub readied : Bool → DaliBitbangPhy → DaliBitbangPhy
readied sends s = pick (starts_of sends s) (start_tx_of s frame).station s

-- A station that sends is alone on its line and samples what it drives. Any other samples the given level, which is low if it is 0.
unfoldable pub level_of : Bool → Bool → ℕ → Bool
level_of sends driven level = pick sends driven (not (eqb level 0))

-- One tick gives the next station, and counts one more high if that drives high.
unfoldable pub one_more : Bool → Pass → ℕ → Pass
one_more sends p level =
    let s = readied sends p.station in
    let t = ticked s (level_of sends s.core.bus.driven_high level) in
    record { station = t.station; highs = p.highs + bit t.driven_high }

-- ---- one pass over the levels
-- one tick for each of these levels
unfoldable pub pass_from : Bool → Pass → List ℕ → Pass
pass_from sends p [] = p
pass_from sends p (level ∷ more) = pass_from sends (one_more sends p level) more

-- A pass begins with no highs counted.
unfoldable pub pass_of : Bool → DaliBitbangPhy → List ℕ → Pass
pass_of sends s levels = pass_from sends (record { station = s; highs = 0 }) levels

-- ---- all passes
-- After each pass the sum takes in the highs, the idle count, the last event's count, and one byte of that event, from one slot lower at each pass.
-- The remainder keeps the sum small.
unfoldable pub summed : ℕ → ℕ → Pass → ℕ
summed sum left p =
    let event = last_event p.station in
    sum % 4294967296 * 31 + (p.highs + p.station.core.bus.idlecnt + event.sample_count * 3 + get_or event.samples (left % 64) 0)

-- the sum after the passes that are left, from this station and this sum on
unfoldable pub timed_from : Bool → List ℕ → ℕ → DaliBitbangPhy → ℕ → ℕ
timed_from sends levels zero s sum = sum
timed_from sends levels (suc left) s sum =
    let p = pass_of sends s levels in
    timed_from sends levels left p.station (summed sum left p)
