-- What is so of a core, by its state. Assumes nothing.
use Prim.Native.Nat.{ℕ, ◌+◌, ◌*◌, ◌≤◌, ◌<◌}
use mathlib.Core.Bool.{Bool, true, false}
use mathlib.Core.Path.{◌≡◌, subst}
use Rattle.machine.specs.declared.BusState.{BusState}
use Rattle.machine.specs.declared.BusState.TheVariants as bus
use Rattle.machine.specs.declared.Runs.{Runs}
use Rattle.machine.specs.declared.Bus.{Bus}
use Rattle.machine.specs.declared.Rx.{Rx}
use Rattle.machine.specs.declared.RxState.{RxState}
use Rattle.machine.specs.declared.Told.{Told}
use Rattle.machine.specs.declared.Core.{Core}
use Rattle.station_theorems.specs.Invariants.{is_receiving}

-- ---- in any state
pub record Any (high low collision : ℕ) (yielded : Bool) : Type 0 where
  pub one_run : 0 < high → low ≡ 0
  pub collisions : collision ≤ 1
  pub either : 0 < collision → yielded ≡ false

abbrev pub AnyOf : Core → Type 0
AnyOf c = Any c.runs.high_run_ticks c.runs.low_run_ticks c.told.tx_collision c.told.tx_yielded

-- ---- by state
pub record InIdle (runs : Runs) (bus : Bus) (mark : RxState) : Type 0 where
  pub receiving : is_receiving mark ≡ false
  pub released : bus.driven_high ≡ true
  pub busy : bus.tx_busy ≡ false
  pub debounce : bus.rx_debounce ≤ 1
  pub fell : 0 < bus.rx_debounce → runs.high_run_ticks ≡ 0
  pub counted : runs.high_run_ticks ≤ bus.idlecnt

pub record InRx (runs : Runs) (bus : Bus) (rx : Rx) (mark : RxState) : Type 0 where
  pub receiving : is_receiving mark ≡ true
  pub released : bus.driven_high ≡ true
  pub busy : bus.tx_busy ≡ false
  pub debouncing : 0 < bus.rx_debounce
  pub idle : rx.rx_idle ≡ runs.high_run_ticks
  pub short : rx.rx_idle ≤ 15
  pub bits : rx.rx_bit_cnt ≤ 7
  pub place : rx.rx_pos ≤ 63
  pub enough : rx.rx_pos < 63 → rx.rx_idle + 2 ≤ rx.rx_pos * 8 + rx.rx_bit_cnt

pub record InTx (sends : Bool) (told : Told) : Type 0 where
  pub receiving : is_receiving told.rx_state ≡ false
  pub busy : sends ≡ true
  pub unmarked : told.tx_idle_after_break ≡ false
  pub clear : told.tx_collision ≡ 0
  pub unyielded : told.tx_yielded ≡ false

pub record InBreak (sends : Bool) (told : Told) : Type 0 where
  pub receiving : is_receiving told.rx_state ≡ false
  pub busy : sends ≡ true
  pub unmarked : told.tx_idle_after_break ≡ false
  pub unyielded : told.tx_yielded ≡ false

unfoldable pub In : BusState → Runs → Bus → Rx → Told → Type 0
In bus.Idle runs b rx told = InIdle runs b told.rx_state
In bus.Rx runs b rx told = InRx runs b rx told.rx_state
In bus.Tx runs b rx told = InTx b.tx_busy told
In bus.CollisionTx runs b rx told = InBreak b.tx_busy told

abbrev pub InOf : BusState → Core → Type 0
InOf b c = In b c.runs c.bus c.rx c.told

pub record Good (c : Core) : Type 0 where
  pub any : AnyOf c
  pub state : InOf c.bus.bus_state c

-- read off for a state that is known by an equation
pub in_state : {b : BusState} (c : Core) → Good c → c.bus.bus_state ≡ b → InOf b c
in_state c g e = subst (λ (x : BusState). InOf x c) e g.state
