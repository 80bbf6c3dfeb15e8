-- Document 01, "Bench table": the kinds of rows, and what a row of each kind says. Each kind speaks of definitions that public promises cite, and so
-- of what the proved calls return. Assumes nothing.
use Rattle.std.specs.Prelude.{ℕ, ◌+◌, Bool, true, false, List, ◌++◌, ◌≡◌, pos, length, get_or, take, None, Ok}
use Rattle.weight.specs.Weight.{weight_of}
use Rattle.lengths.specs.Lengths.{holds, set_of}
use Rattle.halfbits.specs.Wave.{high}
use Rattle.halfbits.specs.Encoding.{frame_of, encoded_of}
use Rattle.window.specs.Window.{window_of}
use Rattle.window.specs.Phase.{phase_of}
use Rattle.search.specs.Search.{new_of, run_of}
use Rattle.event.specs.declared.RxCompletedEvent.{RxCompletedEvent}
use Rattle.event.specs.Event.{event_of}
use Rattle.fsm.specs.declared.DaliBitbangPhy.{DaliBitbangPhy}
use Rattle.fsm.specs.Station.{new_station}
use Rattle.fsm.specs.Calls.{took_rx}
use Rattle.rx_decode.specs.Reading.{sniffed_of, found_in, low_run_of, held_of}
use Rattle.bench_line.specs.Line.{new_line_of}
use Rattle.station_theorems.specs.Ticks.{after_levels}
use Rattle.frames.specs.ReadAs.{IsReady, taken}
use Rattle.line_theorems.specs.OnLine.{Sender, Breaks}
use Rattle.line_theorems.specs.TwoSenders.{both_on}

-- ---- what rows speak of
-- a new station after it has sampled these levels and then that many high ones
abbrev pub hearing : List Bool → ℕ → DaliBitbangPhy
hearing levels highs = after_levels (length levels + highs) (λ tick. get_or levels tick high) new_station

-- the event of a capture of these bytes, with any other bytes past its count
abbrev pub event_with : List ℕ → List ℕ → RxCompletedEvent
event_with bytes behind = event_of (bytes ++ behind) (length bytes) 0

-- ---- the kinds of rows
-- a row of the table
pub data Row : Type 0 where
  -- a sample byte and its weight
  weighs : (sample weight : ℕ) → Row
  -- a set of these lengths, and a length that it holds
  lengths_hold : (lengths : List ℕ) (one : ℕ) → Row
  -- a set of these lengths, which holds no length at all
  lengths_hold_nothing : (lengths : List ℕ) → Row
  -- a byte, and the seven bytes and the length that the encoder writes for its 8 bits
  encodes : (byte : ℕ) (store : List ℕ) (half_bits : ℕ) → Row
  -- levels with sixteen high ticks behind them, and the count and the bytes of their capture
  captures : (levels : List Bool) (count : ℕ) (bytes : List ℕ) → Row
  -- levels with sixteen high ticks behind them, and the score of the sniffed reading of their capture
  scores : (levels : List Bool) (score : ℕ) → Row
  -- levels that make no capture, however many high ticks follow
  captures_nothing : (levels : List Bool) → Row
  -- a capture, and the length and the score of its phase 0
  reads_at_phase_0 : (capture : List ℕ) (bits score : ℕ) → Row
  -- a capture, the preferred lengths of a search that finds nothing in it, and the steps that the search takes
  finds_nothing : (capture lengths : List ℕ) (steps : ℕ) → Row
  -- a capture, its longest low run in ticks, and whether that is a held line
  runs_low : (capture : List ℕ) (ticks : ℕ) (held : Bool) → Row
  -- Two senders start between the same two ticks, on a new line of two stations. For one of them: the tick at which it sees the clash, the tick at
  -- which it samples after its break, and the level that it samples.
  clashes : (one other : Sender) (number sees samples : ℕ) (found : Bool) → Row

-- ---- what a row says
-- What a row says of the definitions. It holds for every byte, maximum or number of ticks that the row leaves open.
unfoldable pub SaysRow : Row → Type 0
SaysRow (weighs sample weight) = weight_of sample ≡ weight
SaysRow (lengths_hold lengths one) = holds (set_of lengths) one ≡ true
SaysRow (lengths_hold_nothing lengths) = (any : ℕ) → holds (set_of lengths) any ≡ false
SaysRow (encodes byte store half_bits) =
    (second third : ℕ)
    → encoded_of 8 (frame_of 8 byte second third) ≡ Ok (record { «data» = store; length = half_bits })
SaysRow (captures levels count bytes) =
    let s = hearing levels 16 in
    IsReady s × ((taken s).sample_count ≡ count) × (take count (taken s).samples ≡ bytes)
SaysRow (scores levels score) = (sniffed_of (found_in (taken (hearing levels 16)))).score ≡ score
SaysRow (captures_nothing levels) =
    (highs : ℕ) → (took_rx (hearing levels highs)).answer ≡ None
SaysRow (reads_at_phase_0 capture bits score) =
    (behind : List ℕ) (most : ℕ)
    → let d = phase_of (window_of (capture ++ behind) (length capture)) most (pos 0) in (d.bit_len ≡ bits) × (d.score ≡ score)
SaysRow (finds_nothing capture lengths steps) =
    (behind : List ℕ) → run_of (new_of (set_of lengths)) (window_of (capture ++ behind) (length capture)) ≡ record { found = None; steps = steps }
SaysRow (runs_low capture ticks held) =
    (behind : List ℕ) → (low_run_of (event_with capture behind) ≡ ticks) × (held_of (event_with capture behind) ≡ held)
-- (a sender samples fourteen ticks after the tick that sees the clash)
SaysRow (clashes one other number sees samples found) =
    Breaks (both_on (new_line_of 2) one other) number sees found × (sees + 14 ≡ samples)
