-- Document 01, "Machine", Tx: the half-bits that a station sends, what it watches, and what each tick does. Assumes nothing.
use Rattle.std.specs.Prelude.{ℕ, ◌+◌, ◌-◌, ◌/◌, ◌%◌, ◌^◌, min, Bool, true, false, not, ◌&&◌, ◌||◌, List, eqb, leb, get_or}
use Rattle.laws.specs.Bit.{bit}
use Rattle.laws.specs.Packed.{packed}
use Rattle.laws.specs.Pick.{pick}
use Rattle.halfbits.specs.declared.HalfBitBuffer.{HalfBitBuffer}
use Rattle.machine.specs.Fields.{with_tx, with_bus_state, with_driven_high, with_tx_collision, with_tx_idle_after_break, with_tx_yielded, with_tx_sp_cnt, with_tx_armed}
use Rattle.machine.specs.BecomingIdle.{idled}
use Rattle.machine.specs.Idle.{idle_tick}
use Rattle.machine.specs.declared.BusState.TheVariants.{CollisionTx}
use Rattle.machine.specs.declared.CollisionPolicy.{CollisionPolicy}
use Rattle.machine.specs.declared.CollisionPolicy.TheVariants.{Auto, Off, On}
use Rattle.machine.specs.declared.Tx.{Tx}
use Rattle.machine.specs.declared.TxHb.{TxHb}
use Rattle.machine.specs.declared.Core.{Core}

-- ---- the half-bits
-- Half-bit number `at` of some bytes, from the top bit of the first byte down. A 1 pulls the line low, a 0 releases it. Past the last byte it is 0.
abbrev pub half_bit_in : List ℕ → ℕ → ℕ
half_bit_in bytes at = get_or bytes (at / 8) 0 / 2 ^ (7 - at % 8) % 2

-- A station keeps its half-bits as one number of 64 bits, the first in the top bit.
unfoldable pub half_bits_in : List ℕ → ℕ
half_bits_in bytes = packed 2 64 (half_bit_in bytes)

-- what a station keeps of a buffer: its half-bits and its length
unfoldable pub tx_hb_of : HalfBitBuffer → TxHb
tx_hb_of hb = record { tx_hb_bits = half_bits_in hb.«data»; tx_hb_len = hb.length }

-- The station releases the line in half-bit number `at`.
unfoldable pub releases_at : TxHb → ℕ → Bool
releases_at hb at = eqb (hb.tx_hb_bits / 2 ^ (63 - at) % 2) 0

-- ---- what a station watches
-- Auto watches every length but 22, that of a backward frame. Off watches none, and On watches all.
unfoldable pub watches_of : CollisionPolicy → ℕ → Bool
watches_of Auto len = not (eqb len 22)
watches_of Off len = false
watches_of On len = true

-- A clash is a low tick in a released half-bit of a frame that the station watches. It watches only the third and fourth ticks of a half-bit, when
-- `tx_sp_cnt` is 2 and 1.
unfoldable pub clash_of : Tx → CollisionPolicy → ℕ → Bool → Bool
clash_of tx policy len high =
    ((watches_of policy len && not (eqb tx.tx_high 0)) && not high) && (eqb tx.tx_sp_cnt 1 || eqb tx.tx_sp_cnt 2)

-- ---- which rule a tick follows: the first that fits
-- The rules: the station stays armed, yields, ends its frame, sees a clash, goes on with a half-bit, or drives the next one high or low.
pub data Step : Type 0 where
  Arm : Step
  Yield : Step
  End : Step
  Clash : Step
  Hold : Step
  Drive : Bool → Step

-- A low armed tick yields, unless the station sends an answer.
abbrev pub armed_step : Tx → Bool → Step
armed_step tx high = pick (not high && not tx.tx_answer) Yield Arm

-- The tests, in their order: the station is still armed; it has begun every half-bit, so it ends its frame; it sees a clash; a half-bit is not over;
-- the 7 bytes are used up before the length, so it ends its frame. If none holds, the next half-bit begins. By the second test the last half-bit
-- lasts one tick, and the station doesn't watch it.
unfoldable pub tx_step : Tx → CollisionPolicy → TxHb → Bool → Step
tx_step tx policy hb high =
    let at = tx.tx_hb_cnt in
    pick (not (eqb tx.tx_armed 0)) (armed_step tx high)
    (pick (leb hb.tx_hb_len at) End
    (pick (clash_of tx policy hb.tx_hb_len high) Clash
    (pick (not (eqb tx.tx_sp_cnt 0)) Hold
    (pick (leb 56 at) End
    (Drive (releases_at hb at))))))

-- the rule by which a half-bit goes on
unfoldable pub is_hold : Step → Bool
is_hold Arm = false
is_hold Yield = false
is_hold End = false
is_hold Clash = false
is_hold Hold = true
is_hold (Drive high) = false

-- ---- what each rule does
-- One armed tick is over.
unfoldable pub armed : Core → Core
armed c = with_tx_armed c (c.tx.tx_armed - 1)

-- The station gives up its frame and marks that it yielded. The same tick counts as Idle's first low tick.
unfoldable pub yielded : Core → Core
yielded c = idle_tick (idled (with_tx_yielded (with_tx_armed c 0) true)) false

-- The station marks a collision, for a poll to report, and clears the after-break mark. The break begins on the next tick.
unfoldable pub clashed : Core → Core
clashed c =
    with_bus_state
    (with_tx_idle_after_break
    (with_tx_collision
    (with_tx_sp_cnt c 0)
    (min (c.told.tx_collision + 1) 255))
    false)
    CollisionTx

-- One tick of the half-bit is over.
unfoldable pub held : Core → Core
held c = with_tx_sp_cnt c (c.tx.tx_sp_cnt - 1)

-- The station drives the level of the next half-bit and counts three more ticks for it.
unfoldable pub driven : Core → Bool → Core
driven c high =
    with_tx (with_driven_high c high) (record {
      tx_hb_cnt = (c.tx.tx_hb_cnt + 1) % 256;
      tx_sp_cnt = 3;
      tx_high = bit high;
      tx_armed = c.tx.tx_armed;
      tx_answer = c.tx.tx_answer;
    })

-- the core after a tick by this rule
unfoldable pub after_step : Step → Core → Core
after_step Arm c = armed c
after_step Yield c = yielded c
after_step End c = idled c
after_step Clash c = clashed c
after_step Hold c = held c
after_step (Drive high) c = driven c high

-- The station reads its policy at each tick.
unfoldable pub tx_tick : Core → TxHb → Bool → Core
tx_tick c hb high = after_step (tx_step c.tx c.collision_policy hb high) c
