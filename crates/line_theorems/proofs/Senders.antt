-- New lines, and senders of any bytes, which the theorems are shown of. Assumes nothing.
use Prim.Native.Nat.{ℕ, zero, suc, ◌<◌}
use native.Mathlib.Omega.{arith}
use mathlib.Core.Logic.{◌⊎◌, inl}
use mathlib.Core.Path.{◌≡◌, refl, sym, ap, subst}
use lib.ListN.{length}
use Rattle.laws.specs.Pick.{pick}
use Rattle.halfbits.specs.Frame.{Frame, bytes_of, AreBytes}
use Rattle.halfbits.specs.Encoding.{is_bit_count, frame_of}
use Rattle.fsm.specs.declared.DaliBitbangPhy.{DaliBitbangPhy}
use Rattle.fsm.specs.Station.{new_core, new_station}
use Rattle.bench_line.specs.declared.BenchLine.{BenchLine}
use Rattle.bench_line.specs.Line.{stations_on, station_at, new_line_of}
use Rattle.bench_line.specs.Refusals.{is_count}
use Rattle.station_theorems.specs.Ticks.{IsIdle}
use Rattle.frames.specs.Sends.{Start}
use Rattle.line_theorems.specs.Reached.{ReachedLine, new_line}
use Rattle.line_theorems.specs.OnLine.{AllIdle, Sender, IsSender}
use Rattle.line_theorems.specs.TwoSenders.{Watches}

-- ---- a new line
new_station_at : (count n : ℕ) → station_at (new_line_of count) n ≡ new_station
unfolding new_line_of
new_station_at count zero = refl
new_station_at count (suc zero) = refl
new_station_at count (suc (suc zero)) = refl
new_station_at count (suc (suc (suc zero))) = refl
new_station_at count (suc (suc (suc (suc n)))) = refl

pub new_all_idle : (count : ℕ) → AllIdle (new_line_of count)
unfolding new_station new_core
new_all_idle count n on = subst (λ (s : DaliBitbangPhy). IsIdle s) (sym (new_station_at count n)) refl

pub two_reached : ReachedLine (new_line_of 2)
unfolding is_count pick
two_reached = new_line 2 refl

pub four_reached : ReachedLine (new_line_of 4)
unfolding is_count pick
four_reached = new_line 4 refl

-- ---- senders
abbrev pub sends_8 : ℕ → Start → ℕ → Sender
sends_8 number by first = record { number = number; by = by; bits = 8; first = first; second = 0; third = 0 }

abbrev pub sends_16 : ℕ → Start → ℕ → ℕ → Sender
sends_16 number by first second = record { number = number; by = by; bits = 16; first = first; second = second; third = 0 }

abbrev pub sends_24 : ℕ → Start → ℕ → ℕ → ℕ → Sender
sends_24 number by first second third = record { number = number; by = by; bits = 24; first = first; second = second; third = third }

-- any bytes
are_1 : (x : ℕ) → x < 256 → AreBytes (bytes_of (frame_of 8 x 0 0))
unfolding bytes_of frame_of pick
are_1 x h zero = h
are_1 x h (suc i) = omega arith

are_2 : (x y : ℕ) → x < 256 → y < 256 → AreBytes (bytes_of (frame_of 16 x y 0))
unfolding bytes_of frame_of pick
are_2 x y h k zero = h
are_2 x y h k (suc zero) = k
are_2 x y h k (suc (suc i)) = omega arith

are_3 : (x y z : ℕ) → x < 256 → y < 256 → z < 256 → AreBytes (bytes_of (frame_of 24 x y z))
unfolding bytes_of frame_of pick
are_3 x y z h k m zero = h
are_3 x y z h k m (suc zero) = k
are_3 x y z h k m (suc (suc zero)) = m
are_3 x y z h k m (suc (suc (suc i))) = omega arith

module _ (l : BenchLine) where
  pub is_8 : (n : ℕ) (by : Start) (x : ℕ) → n < stations_on l → x < 256 → IsSender l (sends_8 n by x)
  unfolding is_bit_count pick
  is_8 n by x on h = record { on = on; counts = refl; are_bytes = are_1 x h }

  pub is_16 : (n : ℕ) (by : Start) (x y : ℕ) → n < stations_on l → x < 256 → y < 256 → IsSender l (sends_16 n by x y)
  unfolding is_bit_count pick
  is_16 n by x y on h k = record { on = on; counts = refl; are_bytes = are_2 x y h k }

  pub is_24 : (n : ℕ) (by : Start) (x y z : ℕ) → n < stations_on l → x < 256 → y < 256 → z < 256 → IsSender l (sends_24 n by x y z)
  unfolding is_bit_count pick
  is_24 n by x y z on h k m = record { on = on; counts = refl; are_bytes = are_3 x y z h k m }

pub watching : (count : ℕ) (a : Sender) → (a.bits ≡ 16) ⊎ (a.bits ≡ 24) → Watches (new_line_of count) a
unfolding new_station new_core
watching count a long = record { long = long; policy = inl (ap (λ (s : DaliBitbangPhy). s.core.collision_policy) (new_station_at count a.number)) }

-- as many bytes as a frame has
unfoldable pub bytes_in : Frame → ℕ
bytes_in frame = length (bytes_of frame)
