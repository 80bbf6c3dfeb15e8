-- Document 01, "Machine", Rx: a sample, the end of a capture, a tick, and the two samples that begin a capture. Assumes nothing.
use Rattle.std.specs.Prelude.{ℕ, ◌+◌, ◌*◌, ◌%◌, min, Bool, false, ◌≡◌, eqb, ltb}
use Rattle.laws.specs.Bit.{bit}
use Rattle.laws.specs.Pick.{pick}
use Rattle.capture.specs.declared.Samples.{Samples}
use Rattle.capture.specs.Samples.{with_byte}
use Rattle.machine.specs.Fields.{with_rx, with_rx_state}
use Rattle.machine.specs.BecomingIdle.{idled}
use Rattle.machine.specs.Idle.{entered}
use Rattle.machine.specs.declared.RxState.TheVariants.{Completed}
use Rattle.machine.specs.declared.Rx.{Rx}
use Rattle.machine.specs.declared.Core.{Core}
use Rattle.fsm.specs.Station.{with_core, with_rx_data, with_event}
use Rattle.fsm.specs.declared.DaliBitbangPhy.{DaliBitbangPhy}

-- ---- one sample
-- A new sample goes to the low end of its byte, so the first of eight ends up in the top bit.
abbrev pub shifted : Rx → Bool → ℕ
shifted r high = r.rx_byte % 128 * 2 + bit high

-- how many samples running are high, up to 255
unfoldable pub high_run : Rx → Bool → ℕ
high_run r high = pick high (min (r.rx_idle + 1) 255) 0

-- the next sample is the eighth of its byte
abbrev pub eighth : Rx → Bool
eighth r = eqb r.rx_bit_cnt 7

-- The eighth sample moves the position on, but never past 63.
abbrev pub filled_up : Rx → Bool → Rx
filled_up r high = record {
  rx_pos = min (r.rx_pos + 1) 63;
  rx_byte = shifted r high;
  rx_bit_cnt = 0;
  rx_idle = high_run r high;
  rx_pre_idle = r.rx_pre_idle;
}

-- Any other sample leaves the position and counts in its byte.
abbrev pub shifted_in : Rx → Bool → Rx
shifted_in r high = record {
  rx_pos = r.rx_pos;
  rx_byte = shifted r high;
  rx_bit_cnt = (r.rx_bit_cnt + 1) % 256;
  rx_idle = high_run r high;
  rx_pre_idle = r.rx_pre_idle;
}

-- how far the capture has come after one more sample
unfoldable pub sampled : Rx → Bool → Rx
sampled r high = pick (eighth r) (filled_up r high) (shifted_in r high)

-- The eighth sample writes its byte at the position. All bytes past the 63rd go to slot 63.
unfoldable pub filled : Samples → Rx → Bool → Samples
filled samples r high = pick (eighth r) (with_byte samples (min r.rx_pos 63) (shifted r high)) samples

-- ---- the end
-- The capture goes on while fewer than sixteen samples running are high.
abbrev pub goes_on : Rx → Bool
goes_on r = ltb r.rx_idle 16

-- The count is one more than the position, for the byte that ends the capture. The capture is complete, and the station becomes Idle.
unfoldable pub finished : Core → Rx → Core
finished c r =
    idled
    (with_rx_state
    (with_rx c (record {
      rx_pos = min (r.rx_pos + 1) 65535;
      rx_byte = r.rx_byte;
      rx_bit_cnt = r.rx_bit_cnt;
      rx_idle = r.rx_idle;
      rx_pre_idle = r.rx_pre_idle;
    }))
    Completed)

-- The capture becomes the last event: its 64 bytes, its count and the silence before it. Bytes past the count stay as earlier captures left them.
unfoldable pub notified : DaliBitbangPhy → Core → Samples → DaliBitbangPhy
notified s c samples = with_event (with_rx_data (with_core s c) samples) samples c.rx

-- ---- a tick
-- The core `c` has counted its runs, and `r` and `samples` have this tick's sample. The sixteenth high running ends the capture with 0xFF at the
-- position. The samples of a part-filled byte are lost.
unfoldable pub went_on : DaliBitbangPhy → Core → Rx → Samples → DaliBitbangPhy
went_on s c r samples =
    pick (goes_on r)
    (with_rx_data (with_core s (with_rx c r)) samples)
    (notified s (finished c r) (with_byte samples r.rx_pos 255))

-- Each tick in Rx takes one sample.
unfoldable pub rx_tick : DaliBitbangPhy → Core → Bool → DaliBitbangPhy
rx_tick s c high = went_on s c (sampled c.rx high) (filled s.rx_data c.rx high)

-- ---- the first two samples
-- a capture without a sample, after this silence
abbrev pub none_sampled : ℕ → Rx
none_sampled silence = record {
  rx_pos = 0;
  rx_byte = 0;
  rx_bit_cnt = 0;
  rx_idle = 0;
  rx_pre_idle = silence;
}

-- When Idle starts Rx, the capture stands as if Rx had taken two low samples.
abbrev pub ReplaysTwoLows : Type 0
ReplaysTwoLows = (c : Core) → (entered c).rx ≡ sampled (sampled (none_sampled (min c.bus.idlecnt 255)) false) false
