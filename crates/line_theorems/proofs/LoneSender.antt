-- One sender alone (specs/LoneSender, specs/AnyOrder). Assumes nothing.
use Prim.Native.Nat.{ℕ, ◌+◌, ◌-◌, ◌<◌, ◌≤◌}
use native.Mathlib.Omega.{arith}
use native.Mathlib.Decide.{ℕ_discrete}
use mathlib.Core.Logic.{◌⊎◌, inl, inr}
use mathlib.Core.Path.{◌≡◌, sym, subst}
use Rattle.fsm.specs.declared.DaliBitbangPhy.{DaliBitbangPhy}
use Rattle.bench_line.specs.declared.BenchLine.{BenchLine}
use Rattle.bench_line.specs.Line.{stations_on, station_at}
use Rattle.station_theorems.specs.Ticks.{IsIdle}
use Rattle.frames.specs.Sends.{idle_at, Sends}
use Rattle.frames.proofs.Sending.{sends}
use Rattle.line_theorems.specs.Reached.{ReachedLine}
use Rattle.line_theorems.specs.OnLine.{ticks_on, AllIdle, Sender, frame_in, IsSender, started_on}
use Rattle.line_theorems.specs.LoneSender.{complete_at, LoneSender, LoneSenderFrom}
use Rattle.line_theorems.specs.AnyOrder.{LoneSenderInAnyOrder}
use Rattle.line_theorems.proofs.Asking.{On}
use Rattle.line_theorems.proofs.Telling.{Clashes, keeps_ok, Event, keeps_frame, says_sent, holds_event}
use Rattle.line_theorems.proofs.Starting.{bits_in, many_bits, few_bits, fits, same_stations, reached_on, at_other, answers, ready}
use Rattle.line_theorems.proofs.Agreeing.{last_complete, sender_sent, listener_holds, all_rest}

module _ (l : BenchLine) (reached : ReachedLine l) (idle : AllIdle l) (a : Sender) (is : IsSender l a) where
  abbrev line : BenchLine
  line = (started_on l a).line

  sending : Sends (bits_in a) (station_at line a.number)
  sending = sends (bits_in a) _ (fits l a is) _ (ready l a is reached (idle a.number is.on))

  listening : (n : ℕ) → n < stations_on l → (n ≡ a.number → ⊥) → IsIdle (station_at line n)
  listening n on apart = subst (λ (s : DaliBitbangPhy). IsIdle s) (sym (at_other l a is n apart)) (idle n on)

  role : (n : ℕ) → n < stations_on line → IsIdle (station_at line n) ⊎ Sends (bits_in a) (station_at line n)
  role n on = go (ℕ_discrete n a.number)
    where
      go : Dec (n ≡ a.number) → IsIdle (station_at line n) ⊎ Sends (bits_in a) (station_at line n)
      go (yes e) = inr (subst (λ m. Sends (bits_in a) (station_at line m)) (sym e) sending)
      go (no apart) = inl (listening n (omega (arith, on, same_stations l a is)) apart)

  sender_on : a.number < stations_on line
  sender_on = omega (arith, is.on, same_stations l a is)

  heard : (ticks : ℕ) → complete_at (bits_in a) ≤ ticks → (n : ℕ) → n < stations_on l → (n ≡ a.number → ⊥) → On n (Event (frame_in a)) (ticks_on ticks line)
  heard ticks complete n on apart =
      let e : ticks ≡ 4 + (ticks - 4) = omega arith in
      subst (λ t. On n (Event (frame_in a)) (ticks_on t line)) (sym e)
      (listener_holds line (reached_on l a is reached) (frame_in a) is.are_bytes role a.number sender_on sending (ticks - 4) n
      (omega (arith, on, same_stations l a is)) (listening n on apart) (omega arith))

  sent : (ticks : ℕ) → idle_at a.bits ≤ ticks → On a.number (Clashes 0) (ticks_on ticks line)
  sent ticks late =
      sender_sent line (reached_on l a is reached) (frame_in a) is.are_bytes role a.number sender_on sending ticks a.number sender_on sending
      (omega (arith, late, many_bits l a is))

  -- No event takes longer than 220 ticks, and no sender 217.
  module _ (ticks : ℕ) (late : 230 ≤ ticks) where
    all_heard : complete_at (bits_in a) ≤ ticks
    all_heard = omega (arith, last_complete (bits_in a), few_bits l a is)

    all_sent : idle_at a.bits ≤ ticks
    all_sent = omega (arith, many_bits l a is, few_bits l a is)

    rests : AllIdle (ticks_on ticks line)
    rests =
        let e : ticks ≡ 4 + (ticks - 4) = omega arith in
        subst (λ t. AllIdle (ticks_on t line)) (sym e)
        (all_rest line (reached_on l a is reached) (frame_in a) is.are_bytes role a.number sender_on sending (ticks - 4)
        (omega (arith, all_heard)) (omega (arith, few_bits l a is)))

pub lone_sender_from : LoneSenderFrom
lone_sender_from l reached idle a is ticks = (
  λ complete n on apart. holds_event (frame_in a) n _ (heard l reached idle a is ticks complete n on apart),
  λ late. says_sent a.number _ (sent l reached idle a is ticks late),
)

pub lone_sender : LoneSender
lone_sender l reached idle a is = record {
  started = answers l a is reached (idle a.number is.on);
  heard = λ ticks late n on apart. holds_event (frame_in a) n _ (heard l reached idle a is ticks (all_heard l reached idle a is ticks late) n on apart);
  sent = λ ticks late. says_sent a.number _ (sent l reached idle a is ticks (all_sent l reached idle a is ticks late));
  rests = rests l reached idle a is;
}

-- in any order (specs/AnyOrder)
pub lone_sender_in_any_order : LoneSenderInAnyOrder
lone_sender_in_any_order l reached idle a is ticks late = (
  keeps_ok a.number _ (sent l reached idle a is ticks (all_sent l reached idle a is ticks late)),
  λ n on apart.
      keeps_frame (frame_in a) n _ (rests l reached idle a is ticks late) (heard l reached idle a is ticks (all_heard l reached idle a is ticks late) n on apart),
)
