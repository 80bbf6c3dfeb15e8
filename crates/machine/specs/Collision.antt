-- Document 01, "Machine", Collision: the break, and the sample after it. Assumes nothing.
use Rattle.std.specs.Prelude.{◌+◌, ◌%◌, Bool, false, ltb, leb}
use Rattle.laws.specs.Pick.{pick}
use Rattle.machine.specs.Fields.{with_driven_high, with_tx_idle_after_break, with_tx_sp_cnt}
use Rattle.machine.specs.BecomingIdle.{idled}
use Rattle.machine.specs.Idle.{idle_tick}
use Rattle.machine.specs.declared.Core.{Core}

-- The station samples the line after its break and becomes Idle. A high sample sets the after-break mark. A low sample clears it and counts as Idle's
-- first low tick.
unfoldable pub broke : Core → Bool → Core
broke c high =
    let idle = idled (with_tx_idle_after_break c high) in
    pick high idle (idle_tick idle false)

-- The break pulls the line low for 12 ticks. The 13th tick releases it, and the 14th samples it.
unfoldable pub collision_tick : Core → Bool → Core
collision_tick c high =
    let ticks = (c.tx.tx_sp_cnt + 1) % 256 in
    pick (leb 14 ticks) (broke (with_tx_sp_cnt c ticks) high) (with_driven_high (with_tx_sp_cnt c ticks) (ltb 12 ticks))
