-- The theorems hold of new lines: one sender is heard, and two agree or clash. Assumes nothing.
use Prim.Native.Nat.{ℕ, ◌<◌}
use native.Mathlib.Omega.{arith}
use mathlib.Core.Logic.{◌⊎◌, inl, inr}
use mathlib.Core.Path.{◌≡◌, refl, ap}
use lib.ListN.{get_or}
use Rattle.laws.specs.Pick.{pick}
use Rattle.halfbits.specs.Frame.{Frame, bytes_of}
use Rattle.halfbits.specs.Encoding.{frame_of}
use Rattle.bench_line.specs.declared.BenchLine.{BenchLine}
use Rattle.bench_line.specs.Line.{new_line_of}
use Rattle.frames.specs.Sends.{Start}
use Rattle.line_theorems.specs.OnLine.{frame_in, Sender}
use Rattle.line_theorems.specs.LoneSender.{Alone}
use Rattle.line_theorems.specs.TwoSenders.{Pair, both_on, Agreed, Clashed}
use Rattle.line_theorems.specs.Retry.{Retries}
use Rattle.line_theorems.proofs.LoneSender.{lone_sender}
use Rattle.line_theorems.proofs.EqualFrames.{equal_frames}
use Rattle.line_theorems.proofs.DifferentFrames.{different_frames}
use Rattle.line_theorems.proofs.Retry.{retry}
use Rattle.line_theorems.proofs.Senders.{new_all_idle, two_reached, four_reached, sends_16, sends_24, is_16, is_24, watching, bytes_in}

-- ---- one sender on a new line of four
pub new_line_hears : (x y z : ℕ) → x < 256 → y < 256 → z < 256 → (by : Start) → Alone (new_line_of 4) (sends_24 2 by x y z)
unfolding new_line_of
new_line_hears x y z h k m by = lone_sender (new_line_of 4) four_reached (new_all_idle 4) (sends_24 2 by x y z) (is_24 (new_line_of 4) 2 by x y z (omega arith) h k m)

-- ---- two senders on a new line
-- Any bytes on a line of four, in the hands of stations 3 and 1: frames that are equal, and 16 bits that are the beginning of 24.
module _ (x y z : ℕ) (h : x < 256) (k : y < 256) (m : z < 256) (by other-by : Start) where
  equal_pair : Pair (new_line_of 4) (sends_16 3 by x y) (sends_16 1 other-by x y)
  unfolding new_line_of
  equal_pair = record {
    one = is_16 (new_line_of 4) 3 by x y (omega arith) h k;
    other = is_16 (new_line_of 4) 1 other-by x y (omega arith) h k;
    one_watches = watching 4 (sends_16 3 by x y) (inl refl);
    other_watches = watching 4 (sends_16 1 other-by x y) (inl refl);
    apart = λ e. let none : ⊥ = omega (arith, e) in none;
  }

  pub equal_agree : Agreed (new_line_of 4) (sends_16 3 by x y) (sends_16 1 other-by x y)
  equal_agree = equal_frames (new_line_of 4) four_reached (new_all_idle 4) (sends_16 3 by x y) (sends_16 1 other-by x y) equal_pair refl

  longer_pair : Pair (new_line_of 4) (sends_16 3 by x y) (sends_24 1 other-by x y z)
  unfolding new_line_of
  longer_pair = record {
    one = is_16 (new_line_of 4) 3 by x y (omega arith) h k;
    other = is_24 (new_line_of 4) 1 other-by x y z (omega arith) h k m;
    one_watches = watching 4 (sends_16 3 by x y) (inl refl);
    other_watches = watching 4 (sends_24 1 other-by x y z) (inr refl);
    apart = λ e. let none : ⊥ = omega (arith, e) in none;
  }

  differ_in_bytes : frame_in (sends_16 3 by x y) ≡ frame_in (sends_24 1 other-by x y z) → ⊥
  unfolding bytes_in bytes_of frame_of pick
  differ_in_bytes e = let none : ⊥ = omega (arith, ap bytes_in e) in none

  abbrev begun : BenchLine
  begun = both_on (new_line_of 4) (sends_16 3 by x y) (sends_24 1 other-by x y z)

  pub beginning_clashes : (j : ℕ) × (Clashed begun (sends_16 3 by x y) (sends_24 1 other-by x y z) j ⊎ Clashed begun (sends_24 1 other-by x y z) (sends_16 3 by x y) j)
  beginning_clashes =
      different_frames (new_line_of 4) four_reached (new_all_idle 4) (sends_16 3 by x y) (sends_24 1 other-by x y z) longer_pair differ_in_bytes

  pub beginning_retries : (j : ℕ) × (Retries begun (sends_16 3 by x y) (sends_24 1 other-by x y z) j ⊎ Retries begun (sends_24 1 other-by x y z) (sends_16 3 by x y) j)
  beginning_retries = retry (new_line_of 4) four_reached (new_all_idle 4) (sends_16 3 by x y) (sends_24 1 other-by x y z) longer_pair differ_in_bytes

-- On a line of two, with no listener: any frames that differ in their first byte.
first_in : Frame → ℕ
first_in frame = get_or (bytes_of frame) 0 0

module _ (x y u v : ℕ) (h : x < 256) (k : y < 256) (p : u < 256) (q : v < 256) (apart : x ≡ u → ⊥) (by other-by : Start) where
  abbrev zeroth : Sender
  zeroth = sends_16 0 by x y

  abbrev next : Sender
  next = sends_16 1 other-by u v

  two_pair : Pair (new_line_of 2) zeroth next
  unfolding new_line_of
  two_pair = record {
    one = is_16 (new_line_of 2) 0 by x y (omega arith) h k;
    other = is_16 (new_line_of 2) 1 other-by u v (omega arith) p q;
    one_watches = watching 2 zeroth (inl refl);
    other_watches = watching 2 next (inl refl);
    apart = λ e. let none : ⊥ = omega (arith, e) in none;
  }

  pub two_retry : (j : ℕ) × (Retries (both_on (new_line_of 2) zeroth next) zeroth next j ⊎ Retries (both_on (new_line_of 2) zeroth next) next zeroth j)
  unfolding first_in bytes_of frame_of pick
  two_retry = retry (new_line_of 2) two_reached (new_all_idle 2) zeroth next two_pair (λ e. apart (ap first_in e))
