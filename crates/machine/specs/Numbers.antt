-- The numbers of states, of a capture's marks and of policies, which are source document 000's (fsm.rs). Assumes nothing.
use Rattle.std.specs.Prelude.{ℕ}
use Rattle.machine.specs.declared.BusState.{BusState}
use Rattle.machine.specs.declared.BusState.TheVariants.{Idle, Rx, Tx, CollisionTx}
use Rattle.machine.specs.declared.RxState.{RxState}
use Rattle.machine.specs.declared.RxState.TheVariants.{Empty, Receiving, Completed}
use Rattle.machine.specs.declared.CollisionPolicy.{CollisionPolicy}
use Rattle.machine.specs.declared.CollisionPolicy.TheVariants.{Auto, Off, On}

-- The Rust gives these numbers. No state has 2.
abbrev pub bus_state_number : BusState → ℕ
bus_state_number Idle = 0
bus_state_number Rx = 1
bus_state_number Tx = 3
bus_state_number CollisionTx = 4

-- The Rust gives none, so it counts from 0.
abbrev pub rx_state_number : RxState → ℕ
rx_state_number Empty = 0
rx_state_number Receiving = 1
rx_state_number Completed = 2

-- The Rust gives these numbers.
abbrev pub collision_policy_number : CollisionPolicy → ℕ
collision_policy_number Auto = 0
collision_policy_number Off = 1
collision_policy_number On = 2
