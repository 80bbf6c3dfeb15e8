-- Senders of one frame, one or more of them: every listener holds it, and no sender has a clash to tell. Assumes nothing.
use Prim.Native.Nat.{ℕ, suc, ◌+◌, ◌-◌, ◌*◌, ◌<◌, ◌≤◌}
use native.Mathlib.Omega.{arith}
use native.Mathlib.Decide.{dec_lt}
use mathlib.Core.Bool.{Bool, true, false}
use mathlib.Core.List.{List}
use mathlib.Core.Logic.{◌⊎◌, inl, inr}
use mathlib.Core.Path.{◌≡◌, sym, ◌∙◌, ap, subst}
use lib.Dec.{ltb}
use lib.ListN.{length}
use borrow.Author.Tests.{lt-ltb, le-ltb}
use Rattle.laws.specs.Pick.{pick}
use Rattle.laws.proofs.Picked.{on_true, on_false}
use Rattle.halfbits.specs.Frame.{Frame, bytes_of, frame_bits, AreBytes}
use Rattle.halfbits.specs.Wave.{high, level_at}
use Rattle.halfbits.proofs.Levels.{bit_of}
use Rattle.fsm.specs.declared.DaliBitbangPhy.{DaliBitbangPhy}
use Rattle.machine.specs.States.{hears}
use Rattle.bench_line.specs.declared.BenchLine.{BenchLine}
use Rattle.bench_line.specs.Line.{stations_on, station_at}
use Rattle.station_theorems.specs.Ticks.{drives, IsIdle, after_levels, alone}
use Rattle.frames.specs.Sends.{idle_at, Sends}
use Rattle.frames.specs.ReadAs.{Whole, IsReady, taken, ReadAs}
use Rattle.frames.proofs.Waving.{low_in, low_in_bounds, last_low, last_falls, after_last, highs_all}
use Rattle.frames.proofs.Framing.{wave_to_frame}
use Rattle.line_theorems.specs.Reached.{ReachedLine}
use Rattle.line_theorems.specs.OnLine.{ticks_on, AllIdle}
use Rattle.line_theorems.specs.LoneSender.{last_pull, complete_at}
use Rattle.line_theorems.proofs.Lines.{line_invariants}
use Rattle.line_theorems.proofs.Hearing.{levels, ticks_reached, same_count, on_line, heard_more, heard_same, heard_reached, quiet}
use Rattle.line_theorems.proofs.AsOne.{Drives, heard_as_one, hears_itself}
use Rattle.line_theorems.proofs.Asking.{On}
use Rattle.line_theorems.proofs.Telling.{Clashes, nothing_to_tell, Event}

-- ---- what a lone sender's levels are: three armed ticks, and the wave from tick 4 on
abbrev pub sent_level : List Bool → ℕ → Bool
sent_level bits t = pick (ltb t 4) high (level_at bits (t - 4))

module _ (bits : List Bool) where
  pub armed_level : (t : ℕ) → t < 4 → sent_level bits t ≡ high
  armed_level t h = on_true (lt-ltb t 4 h) _ _

  pub wave_level : (t : ℕ) → sent_level bits (4 + t) ≡ level_at bits t
  wave_level t = on_false (le-ltb (4 + t) 4 (omega arith)) _ _ ∙ ap (level_at bits) (let e : 4 + t - 4 ≡ t = omega arith in e)

  pub drives_wave : (ticks : ℕ) {s : DaliBitbangPhy} → Sends bits s → Drives (sent_level bits) ticks s
  drives_wave ticks {s} sends t h = go (dec_lt t 4)
    where
      go : Dec (t < 4) → drives (alone t s) ≡ sent_level bits t
      go (yes early) = sends.armed t early ∙ sym (armed_level t early)
      go (no late) =
          let e : t ≡ 4 + (t - 4) = omega (arith, late) in
          ap (λ n. drives (alone n s)) e ∙ sends.wave (t - 4) ∙ sym (wave_level (t - 4)) ∙ ap (sent_level bits) (sym e)

  -- the last half-bit that pulls low ends with the last low tick
  last_pull_lem : 4 * last_pull bits + 3 ≡ last_low bits
  unfolding pick
  last_pull_lem = go (bit_of bits (length bits))
    where
      go : (b : Bool) → 4 * pick b (2 * length bits) (2 * length bits + 1) + 3 ≡ 8 * length bits + low_in b
      go true = omega arith
      go false = omega arith

  -- sixteen high ticks later the wave has been heard whole
  complete_is : complete_at bits ≡ last_low bits + 21
  complete_is = omega (arith, last_pull_lem)

  pub last_complete : complete_at bits ≤ 8 * length bits + 28
  last_complete = omega (arith, complete_is, low_in_bounds (bit_of bits (length bits)))

  whole : (t : ℕ) → complete_at bits ≤ 4 + t → Whole bits t
  whole t h =
      let e : t ≡ suc (last_low bits) + (t - suc (last_low bits)) = omega (arith, complete_is) in
      let highs = highs_all (level_at bits) (last_low bits) (last_falls bits) (t - suc (last_low bits)) (λ k p. after_last bits k) in
      rw e (omega (arith, highs, complete_is))

-- ---- a line on which all that don't listen send these bits
module _ (l : BenchLine) (reached : ReachedLine l) (frame : Frame) (are : AreBytes (bytes_of frame))
    (roles : (n : ℕ) → n < stations_on l → IsIdle (station_at l n) ⊎ Sends (frame_bits frame) (station_at l n))
    (one : ℕ) (on : one < stations_on l) (sends : Sends (frame_bits frame) (station_at l one)) where
  abbrev bits : List Bool
  bits = frame_bits frame

  module _ (ticks : ℕ) where
    driven : (n : ℕ) → n < stations_on l → (hears (station_at l n).core.bus.bus_state ≡ true) ⊎ Drives (sent_level bits) ticks (station_at l n)
    unfolding hears
    driven n h = go (roles n h)
      where
        go : IsIdle (station_at l n) ⊎ Sends bits (station_at l n) → (hears (station_at l n).core.bus.bus_state ≡ true) ⊎ Drives (sent_level bits) ticks (station_at l n)
        go (inl idle) = inl (ap hears idle)
        go (inr s) = inr (drives_wave bits ticks s)

    line_level : (t : ℕ) → t < ticks → levels l t ≡ sent_level bits t
    line_level = heard_as_one l reached (sent_level bits) ticks driven one on (drives_wave bits ticks sends)

    sender_alone : (n : ℕ) → n < stations_on l → Sends bits (station_at l n) → station_at (ticks_on ticks l) n ≡ alone ticks (station_at l n)
    sender_alone n h s =
        on_line l reached n h ticks
        ∙ hears_itself l reached (sent_level bits) ticks driven one on (drives_wave bits ticks sends) ticks (omega arith) (station_at l n) (drives_wave bits ticks s)

    pub sender_sent : (n : ℕ) → n < stations_on l → Sends bits (station_at l n) → idle_at (length bits) ≤ ticks → On n (Clashes 0) (ticks_on ticks l)
    sender_sent n h s late = record {
      reached = ticks_reached ticks l reached;
      on = omega (arith, h, same_count ticks l);
      is = subst (λ (s : DaliBitbangPhy). Clashes 0 s) (sym (sender_alone n h s)) (nothing_to_tell (alone ticks (station_at l n)) (s.idle ticks late) (s.sent ticks late));
    }

  -- four high ticks, and then the wave
  module _ (t n : ℕ) (h : n < stations_on l) (idle : IsIdle (station_at l n)) (complete : complete_at bits ≤ 4 + t) where
    abbrev waiting : DaliBitbangPhy
    waiting = after_levels 4 (levels l) (station_at l n)

    hears_wave : station_at (ticks_on (4 + t) l) n ≡ after_levels t (level_at bits) waiting
    hears_wave =
        on_line l reached n h (4 + t) ∙ heard_more 4 t (levels l) (station_at l n)
        ∙ heard_same t (λ i. levels l (4 + i)) (level_at bits) waiting (λ i p. line_level (4 + t) (4 + i) (omega arith) ∙ wave_level bits i)

    read : let after = after_levels t (level_at bits) waiting in IsIdle after × IsReady after × ReadAs frame (taken after)
    read =
        wave_to_frame frame are waiting (heard_reached 4 (levels l) (station_at l n) ((line_invariants l reached).reached n h))
        (quiet 4 (levels l) (station_at l n) idle (λ i p. line_level (4 + t) i (omega arith) ∙ armed_level bits i p)) t (whole bits t complete)

    listener_rests : IsIdle (station_at (ticks_on (4 + t) l) n)
    listener_rests = subst (λ (s : DaliBitbangPhy). IsIdle s) (sym hears_wave) read.0

    pub listener_holds : On n (Event frame) (ticks_on (4 + t) l)
    listener_holds = record {
      reached = ticks_reached (4 + t) l reached;
      on = omega (arith, h, same_count (4 + t) l);
      is = subst (λ (s : DaliBitbangPhy). Event frame s) (sym hears_wave) (record { ready = read.1; read = read.2 });
    }

  -- In the end all are Idle again.
  pub all_rest : (t : ℕ) → complete_at bits ≤ 4 + t → idle_at (length bits) ≤ 4 + t → AllIdle (ticks_on (4 + t) l)
  all_rest t complete late n on = let here : n < stations_on l = omega (arith, on, same_count (4 + t) l) in go here (roles n here)
    where
      go : n < stations_on l → IsIdle (station_at l n) ⊎ Sends bits (station_at l n) → IsIdle (station_at (ticks_on (4 + t) l) n)
      go here (inl idle) = listener_rests t n here idle complete
      go here (inr s) = subst (λ (x : DaliBitbangPhy). IsIdle x) (sym (sender_alone (4 + t) n here s)) (s.idle (4 + t) late)
