-- A station, its groups and a level as the values that a walk handles (walk's Data), and that a good station or core has good parts.
-- Assumes what the kit's walks assume (`Logic`).
use seplogic.Ra.Ura.{Ura}
use lib.Dec.{T}
use mir.Val.{Val, WT, has_ty}
use types.Logic.{Logic}
use denote.Enum.Laws as enum
use denote.Laws.{valss}
use denote.Struct.Struct.{AreAll}
use denote.Struct.Declared as declared
use denote.Struct.Laws.{spells, owes, owed}
use Rattle.walk.proofs.Data.{Data, Good, struct, truth}
use Rattle.capture.specs.declared.Samples.{Samples}
use Rattle.capture.specs.contracts.Samples as samples
use Rattle.capture.proofs.Samples.TheLaws as samples_laws
use Rattle.machine.specs.Fields.{with_rx}
use Rattle.machine.specs.declared.BusState.{BusState}
use Rattle.machine.specs.declared.Rx.{Rx}
use Rattle.machine.specs.declared.Core.{Core}
use Rattle.machine.specs.contracts.Core as core
use Rattle.machine.proofs.Core.TheLaws as core_laws
use Rattle.machine.specs.contracts.Tx as tx
use Rattle.machine.proofs.Tx.TheLaws as tx_laws
use Rattle.machine.specs.contracts.Runs as runs
use Rattle.machine.proofs.Runs.TheLaws as runs_laws
use Rattle.machine.specs.contracts.Bus as bus
use Rattle.machine.proofs.Bus.TheLaws as bus_laws
use Rattle.machine.specs.contracts.BusState as state
use Rattle.machine.proofs.BusState.TheLaws as state_laws
use Rattle.machine.specs.contracts.Rx as rx
use Rattle.machine.proofs.Rx.TheLaws as rx_laws
use Rattle.machine.specs.contracts.TxHb as hb
use Rattle.machine.proofs.TxHb.TheLaws as hb_laws
use Rattle.fsm.specs.Station.{with_core, with_rx_data}
use Rattle.fsm.specs.declared.DaliBitbangPhy.{DaliBitbangPhy}
use Rattle.fsm.specs.contracts.DaliBitbangPhy as phy
use Rattle.fsm.proofs.DaliBitbangPhy.TheLaws as phy_laws

abbrev pub state_val : BusState → Val
state_val = enum.val state.the_type state_laws.the_laws

module _ {M : Type 1} {𝓤 : Ura M} (𝓛 : Logic 𝓤) where
  abbrev pub level_data : Data 𝓛
  level_data = truth 𝓛

  abbrev pub Station : Data 𝓛
  Station = struct 𝓛 phy.the_type phy_laws.the_laws phy_laws.the_plain

  abbrev pub core_data : Data 𝓛
  core_data = struct 𝓛 core.the_type core_laws.the_laws core_laws.the_plain

  abbrev pub tx_data : Data 𝓛
  tx_data = struct 𝓛 tx.the_type tx_laws.the_laws tx_laws.the_plain

  abbrev pub runs_data : Data 𝓛
  runs_data = struct 𝓛 runs.the_type runs_laws.the_laws runs_laws.the_plain

  abbrev pub bus_data : Data 𝓛
  bus_data = struct 𝓛 bus.the_type bus_laws.the_laws bus_laws.the_plain

  abbrev pub rx_data : Data 𝓛
  rx_data = struct 𝓛 rx.the_type rx_laws.the_laws rx_laws.the_plain

  abbrev pub hb_data : Data 𝓛
  hb_data = struct 𝓛 hb.the_type hb_laws.the_laws hb_laws.the_plain

  abbrev pub bytes_data : Data 𝓛
  bytes_data = struct 𝓛 samples.the_type samples_laws.the_laws samples_laws.the_plain

  -- what is known of a station's fields: its core, its half-bits, its capture and what it keeps of its last event
  abbrev pub Fields : DaliBitbangPhy → Type 0
  Fields t = AreAll (declared.fields phy.the_type) ((phy.the_type).to t) (valss (declared.fields phy.the_type) (spells (phy.the_type).parts phy_laws.the_laws) ((phy.the_type).to t))

  pub station_owes : (t : DaliBitbangPhy) → Good Station t → Fields t
  station_owes t is = owed phy.the_type phy_laws.the_laws t _ is

  pub station_owed : (t : DaliBitbangPhy) → Fields t → Good Station t
  station_owed t h = owes phy.the_type phy_laws.the_laws t h

  -- and of a core's groups: its Tx, its Bus, its Rx and its Runs
  pub tx_of : (d : Core) → Good core_data d → Good tx_data d.tx
  tx_of d is = (owed core.the_type core_laws.the_laws d _ is).1.1.1.0

  pub bus_of : (d : Core) → Good core_data d → Good bus_data d.bus
  bus_of d is = (owed core.the_type core_laws.the_laws d _ is).1.1.0

  pub rx_of : (d : Core) → Good core_data d → Good rx_data d.rx
  rx_of d is = (owed core.the_type core_laws.the_laws d _ is).1.1.1.1.0

  pub runs_of : (d : Core) → Good core_data d → Good runs_data d.runs
  runs_of d is = (owed core.the_type core_laws.the_laws d _ is).1.1.1.1.1.0

  pub state_of : (d : Core) → Good core_data d → T (has_ty state_laws.mir (state_val d.bus.bus_state)) × WT (state_val d.bus.bus_state)
  state_of d is = ((enum.lawful state.the_type state_laws.the_laws 𝓛 tt).typed d.bus.bus_state _ (owed bus.the_type bus_laws.the_laws d.bus _ (bus_of d is)).1.0).0

  -- a station of the core d and the capture bytes, that has all else of t; and a core with another Rx
  pub station_of : (t : DaliBitbangPhy) → Fields t → (d : Core) → Good core_data d → (bytes : Samples) → Good bytes_data bytes → Good Station (with_core (with_rx_data t bytes) d)
  station_of t fields d is-d bytes is-bytes = station_owed (with_core (with_rx_data t bytes) d) (is-d, (fields.1.0, (is-bytes, fields.1.1.1)))

  pub core_of : (d : Core) → Good core_data d → (x : Rx) → Good rx_data x → Good core_data (with_rx d x)
  core_of d is x is_x =
      let g = owed core.the_type core_laws.the_laws d _ is in
      owes core.the_type core_laws.the_laws (with_rx d x) (g.0, (g.1.0, (g.1.1.0, (g.1.1.1.0, (is_x, g.1.1.1.1.1)))))
