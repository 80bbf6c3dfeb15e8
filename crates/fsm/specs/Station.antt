-- Document 01, "Machine": the last event of a station, a new station, and a station with one part changed. Assumes nothing.
use Rattle.std.specs.Prelude.{ℕ, true, false, List, replicate}
use Rattle.capture.specs.declared.Samples.{Samples}
use Rattle.capture.specs.Samples.{bytes_of, samples_of}
use Rattle.event.specs.declared.RxCompletedEvent.{RxCompletedEvent}
use Rattle.event.specs.Event.{event_of}
use Rattle.machine.specs.declared.BusState.TheVariants.{Idle}
use Rattle.machine.specs.declared.RxState.TheVariants.{Empty}
use Rattle.machine.specs.declared.CollisionPolicy.TheVariants.{Auto}
use Rattle.machine.specs.declared.Core.{Core}
use Rattle.machine.specs.declared.Rx.{Rx}
use Rattle.machine.specs.declared.TxHb.{TxHb}
use Rattle.fsm.specs.declared.DaliBitbangPhy.{DaliBitbangPhy}

-- the 64 bytes of the last complete capture
abbrev pub last_bytes : DaliBitbangPhy → List ℕ
last_bytes s = bytes_of s.event_data

-- its count
abbrev pub last_count : DaliBitbangPhy → ℕ
last_count s = s.event_rx.rx_pos

-- the silence before it
abbrev pub last_silence : DaliBitbangPhy → ℕ
last_silence s = s.event_rx.rx_pre_idle

-- its event
abbrev pub last_event : DaliBitbangPhy → RxCompletedEvent
last_event s = event_of (last_bytes s) (last_count s) (last_silence s)

-- A new station is Idle and drives high. Its policy is Auto, nothing is marked, and all counts are 0.
unfoldable pub new_core : Core
new_core = record {
  tx = record { tx_hb_cnt = 0; tx_sp_cnt = 0; tx_high = 0; tx_armed = 0; tx_answer = false };
  collision_policy = Auto;
  runs = record { high_run_ticks = 0; low_run_ticks = 0 };
  bus = record { idlecnt = 0; bus_state = Idle; rx_debounce = 0; driven_high = true; tx_busy = false };
  rx = record { rx_pos = 0; rx_byte = 0; rx_bit_cnt = 0; rx_idle = 0; rx_pre_idle = 0 };
  told = record { tx_pre_idle = 0; rx_state = Empty; tx_collision = 0; tx_idle_after_break = false; tx_yielded = false };
}

-- 64 bytes, all of them 0
abbrev pub no_samples : Samples
no_samples = samples_of (replicate 64 0)

-- A new station has captured nothing and has nothing to send.
unfoldable pub new_station : DaliBitbangPhy
new_station = record {
  core = new_core;
  tx_hb = record { tx_hb_bits = 0; tx_hb_len = 0 };
  rx_data = no_samples;
  event_data = no_samples;
  event_rx = new_core.rx;
}

-- ---- a station with one part changed, and nothing else
-- another core
abbrev pub with_core : DaliBitbangPhy → Core → DaliBitbangPhy
with_core s core = record {
  core = core;
  tx_hb = s.tx_hb;
  rx_data = s.rx_data;
  event_data = s.event_data;
  event_rx = s.event_rx;
}

-- other half-bits to send
abbrev pub with_tx_hb : DaliBitbangPhy → TxHb → DaliBitbangPhy
with_tx_hb s hb = record {
  core = s.core;
  tx_hb = hb;
  rx_data = s.rx_data;
  event_data = s.event_data;
  event_rx = s.event_rx;
}

-- other bytes in the capture under way
abbrev pub with_rx_data : DaliBitbangPhy → Samples → DaliBitbangPhy
with_rx_data s samples = record {
  core = s.core;
  tx_hb = s.tx_hb;
  rx_data = samples;
  event_data = s.event_data;
  event_rx = s.event_rx;
}

-- another last event: its capture, and how far that had come when it ended
abbrev pub with_event : DaliBitbangPhy → Samples → Rx → DaliBitbangPhy
with_event s samples rx = record {
  core = s.core;
  tx_hb = s.tx_hb;
  rx_data = s.rx_data;
  event_data = samples;
  event_rx = rx;
}
