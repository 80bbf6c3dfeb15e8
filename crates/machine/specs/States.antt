-- Document 01, "Machine": what calls ask about a state, and about the mark of a capture. Assumes nothing.
use Rattle.std.specs.Prelude.{Bool, true, false}
use Rattle.machine.specs.declared.BusState.{BusState}
use Rattle.machine.specs.declared.BusState.TheVariants.{Idle, Rx, Tx, CollisionTx}
use Rattle.machine.specs.declared.RxState.{RxState}
use Rattle.machine.specs.declared.RxState.TheVariants.{Empty, Receiving, Completed}

-- `start_tx` asks for Idle.
unfoldable pub is_idle : BusState → Bool
is_idle Idle = true
is_idle Rx = false
is_idle Tx = false
is_idle CollisionTx = false

-- `start_answer` asks for Idle or Rx, in which the station sends nothing.
unfoldable pub hears : BusState → Bool
hears Idle = true
hears Rx = true
hears Tx = false
hears CollisionTx = false

-- A poll asks for Tx.
unfoldable pub is_tx : BusState → Bool
is_tx Idle = false
is_tx Rx = false
is_tx Tx = true
is_tx CollisionTx = false

-- A station receives a capture in Rx and in no other state.
unfoldable pub is_rx : BusState → Bool
is_rx Idle = false
is_rx Rx = true
is_rx Tx = false
is_rx CollisionTx = false

-- The capture is complete, and nobody has taken it.
unfoldable pub is_completed : RxState → Bool
is_completed Empty = false
is_completed Receiving = false
is_completed Completed = true
