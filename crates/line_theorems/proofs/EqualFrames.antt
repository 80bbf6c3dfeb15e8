-- Two senders of equal frames (specs/TwoSenders, specs/AnyOrder). Assumes nothing.
use Prim.Native.Nat.{ℕ, ◌+◌, ◌-◌, ◌<◌, ◌≤◌}
use native.Mathlib.Omega.{arith}
use native.Mathlib.Decide.{ℕ_discrete}
use mathlib.Core.List.{[], ◌∷◌}
use mathlib.Core.Logic.{◌⊎◌, inl, inr}
use mathlib.Core.Path.{◌≡◌, refl, sym, subst}
use Rattle.halfbits.specs.Frame.{frame_bits}
use Rattle.bench_line.specs.declared.BenchLine.{BenchLine}
use Rattle.bench_line.specs.Line.{stations_on, station_at}
use Rattle.station_theorems.specs.Ticks.{IsIdle}
use Rattle.frames.specs.Sends.{Sends}
use Rattle.frames.proofs.Sending.{sends}
use Rattle.line_theorems.specs.Reached.{ReachedLine, poll, take_rx, acknowledge, line_after_all, Each, starts_nothing}
use Rattle.line_theorems.specs.OnLine.{ticks_on, AllIdle, Sender, frame_in, InARow}
use Rattle.line_theorems.specs.TwoSenders.{Pair, both_on, EqualFrames}
use Rattle.line_theorems.specs.AnyOrder.{EqualFramesInAnyOrder}
use Rattle.line_theorems.proofs.Starting.{bits_in, few_bits}
use Rattle.line_theorems.proofs.Asking.{distinct, On}
use Rattle.line_theorems.proofs.Telling.{Clashes, keeps_ok, Event, keeps_frame}
use Rattle.line_theorems.proofs.Agreeing.{last_complete, sender_sent, listener_holds, all_rest}
use Rattle.line_theorems.proofs.BothStarted.{both_reached, same, one_ready, other_ready, listening}

-- ---- equal frames
module _ (l : BenchLine) (reached : ReachedLine l) (idle : AllIdle l) (a b : Sender) (pair : Pair l a b) (equal : frame_in a ≡ frame_in b) where
  abbrev Sends-frame : ℕ → Type 0
  Sends-frame n = Sends (bits_in a) (station_at (both_on l a b) n)

  one_sends : Sends-frame a.number
  one_sends = let r = one_ready l reached idle a b pair in sends (bits_in a) _ r.fits _ r.sender

  other_sends : Sends-frame b.number
  other_sends =
      let r = other_ready l reached idle a b pair in
      subst (λ frame. Sends (frame_bits frame) (station_at (both_on l a b) b.number)) (sym equal) (sends (bits_in b) _ r.fits _ r.sender)

  role : (n : ℕ) → n < stations_on (both_on l a b) → IsIdle (station_at (both_on l a b) n) ⊎ Sends-frame n
  role n on = go (ℕ_discrete n a.number) (ℕ_discrete n b.number)
    where
      go : Dec (n ≡ a.number) → Dec (n ≡ b.number) → IsIdle (station_at (both_on l a b) n) ⊎ Sends-frame n
      go (yes e) either = inr (subst Sends-frame (sym e) one_sends)
      go (no d) (yes e) = inr (subst Sends-frame (sym e) other_sends)
      go (no d) (no c) = inl (listening l reached idle a b pair n on d c)

  module _ (ticks : ℕ) (late : 230 ≤ ticks) where
    abbrev now : BenchLine
    now = ticks_on ticks (both_on l a b)

    -- the four armed ticks, and those of the wave
    abbrev waves : ℕ
    waves = ticks - 4

    ticks_are : 4 + waves ≡ ticks
    ticks_are = omega arith

    sent : (n : ℕ) → n < stations_on (both_on l a b) → Sends-frame n → On n (Clashes 0) now
    sent n on sends-n =
        sender_sent (both_on l a b) (both_reached l reached idle a b pair) (frame_in a) pair.one.are_bytes role a.number (one_ready l reached idle a b pair).on one_sends ticks
        n on sends-n (omega (arith, few_bits l a pair.one))

    one_ok : On a.number (Clashes 0) now
    one_ok = sent a.number (one_ready l reached idle a b pair).on one_sends

    other_ok : On b.number (Clashes 0) now
    other_ok = sent b.number (other_ready l reached idle a b pair).on other_sends

    holds : (n : ℕ) → n < stations_on l → (n ≡ a.number → ⊥) → (n ≡ b.number → ⊥) → On n (Event (frame_in a)) now
    holds n on from-a from-b =
        let here : n < stations_on (both_on l a b) = omega (arith, on, same l reached idle a b pair) in
        subst (λ t. On n (Event (frame_in a)) (ticks_on t (both_on l a b))) ticks_are
        (listener_holds (both_on l a b) (both_reached l reached idle a b pair) (frame_in a) pair.one.are_bytes role a.number (one_ready l reached idle a b pair).on one_sends waves
        n here (listening l reached idle a b pair n here from-a from-b) (omega (arith, few_bits l a pair.one, last_complete (bits_in a))))

    rest : AllIdle now
    rest =
        subst (λ t. AllIdle (ticks_on t (both_on l a b))) ticks_are
        (all_rest (both_on l a b) (both_reached l reached idle a b pair) (frame_in a) pair.one.are_bytes role a.number (one_ready l reached idle a b pair).on one_sends waves
        (omega (arith, few_bits l a pair.one, last_complete (bits_in a))) (omega (arith, few_bits l a pair.one)))

-- a poll is none of the takes
not_taken : (m n : ℕ) → poll m ≡ take_rx n → ⊥
not_taken m n e = distinct (cc)

not_acknowledged : (m n : ℕ) → poll m ≡ acknowledge n → ⊥
not_acknowledged m n e = distinct (cc)

pub equal_frames_in_any_order : EqualFramesInAnyOrder
equal_frames_in_any_order l reached idle a b pair equal ticks late = (
  keeps_ok a.number _ (one_ok l reached idle a b pair equal ticks late),
  keeps_ok b.number _ (other_ok l reached idle a b pair equal ticks late),
  λ n on from-a from-b. keeps_frame (frame_in a) n _ (rest l reached idle a b pair equal ticks late) (holds l reached idle a b pair equal ticks late n on from-a from-b),
)

pub equal_frames : EqualFrames
unfolding InARow line_after_all Each starts_nothing
equal_frames l reached idle a b pair equal = record {
  sent = λ ticks late.
      let (one, other, _) = equal_frames_in_any_order l reached idle a b pair equal ticks late in
      (one [] tt, (other (poll a.number ∷ []) (refl, tt), tt));
  heard = λ ticks late n on from-a from-b.
      let (one, other, listeners) = equal_frames_in_any_order l reached idle a b pair equal ticks late in
      let held = listeners n on from-a from-b (poll a.number ∷ poll b.number ∷ []) (refl, (refl, tt))
      (not_taken a.number n, (not_taken b.number n, tt)) (not_acknowledged a.number n, (not_acknowledged b.number n, tt)) in
      (one [] tt, (other (poll a.number ∷ []) (refl, tt), (held, tt)));
  rests = rest l reached idle a b pair equal;
}
