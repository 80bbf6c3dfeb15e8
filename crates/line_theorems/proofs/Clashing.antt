-- Two senders whose half-bits first differ at one place: from there on, tick by tick. Assumes nothing.
use Prim.Native.Nat.{ℕ, zero, suc, ◌+◌, ◌-◌, ◌*◌, ◌/◌, ◌%◌, ◌<◌, ◌≤◌}
use native.Mathlib.Omega.{arith}
use native.Mathlib.Decide.{dec_lt, ℕ_discrete}
use mathlib.Core.Bool.{Bool, true, false, not}
use mathlib.Core.List.{List}
use mathlib.Core.Logic.{◌⊎◌, inl, inr}
use mathlib.Core.Path.{◌≡◌, refl, sym, ◌∙◌, ap, subst}
use lib.ListN.{length}
use borrow.Author.Tests.{le-ltb}
use Rattle.laws.specs.Pick.{pick}
use Rattle.halfbits.specs.Wave.{high, low, level_at}
use Rattle.halfbits.specs.HalfBits.{pulls, half_bits_of}
use Rattle.halfbits.proofs.Levels.{not_not, half_bits_are_the_wave}
use Rattle.machine.specs.declared.CollisionPolicy.{CollisionPolicy}
use Rattle.machine.specs.Sending.{watches_of}
use Rattle.fsm.specs.declared.DaliBitbangPhy.{DaliBitbangPhy}
use Rattle.machine.specs.States.{hears}
use Rattle.bench_line.specs.declared.BenchLine.{BenchLine}
use Rattle.bench_line.specs.Line.{stations_on, station_at}
use Rattle.station_theorems.specs.Ticks.{drives, IsIdle, IsSending, after_levels, alone, IsBreaking}
use Rattle.frames.specs.Sends.{FitsBuffer}
use Rattle.frames.proofs.SendingTicks.{Sender}
use Rattle.frames.proofs.Sending.{waving, sends}
use Rattle.line_theorems.specs.Reached.{ReachedLine}
use Rattle.line_theorems.specs.OnLine.{ticks_on, Breaks}
use Rattle.line_theorems.specs.Clash.{driven_at}
use Rattle.line_theorems.proofs.Hearing.{levels, on_line, heard_more, Listens, listens_on, Settles, settles_on}
use Rattle.line_theorems.proofs.AsOne.{high_at, low_at, listening, still_listening, Drives, hears_itself}
use Rattle.line_theorems.proofs.Breaking.{break_level, Begun, Broken, pulls_four, pulls_over, breaks, ends}
use Rattle.line_theorems.proofs.Agreeing.{sent_level, armed_level, wave_level, drives_wave}
use Rattle.line_theorems.proofs.Differing.{never_three, in_winner, near_loser}

-- a station of the line that is started with these bits, and watches
pub record Ready (l : BenchLine) (number : ℕ) (bits : List Bool) (policy : CollisionPolicy) : Type 0 where
  pub on : number < stations_on l
  pub fits : FitsBuffer bits
  pub watched : watches_of policy (half_bits_of (length bits)) ≡ true
  pub sender : Sender bits policy 3 0 0 high (station_at l number)

-- a half-bit's level
driven_level : (bits : List Bool) (j : ℕ) → level_at bits (4 * j) ≡ not (pulls bits j)
unfolding pulls
driven_level bits j = sym (not_not (level_at bits (4 * j)))

-- low from the first tick of a break to the twelfth
pulls_in_break : (n : ℕ) → 0 < n → n ≤ 12 → break_level n ≡ low
pulls_in_break zero some most = absurd (let none : ⊥ = omega arith in none)
pulls_in_break (suc n) some most = le-ltb 12 (suc n) (omega arith)

-- ---- what a break says of a station of the line
module _ (l : BenchLine) (reached : ReachedLine l) {number : ℕ} (on : number < stations_on l) where
  abbrev now : ℕ → DaliBitbangPhy
  now t = after_levels t (levels l) (station_at l number)

  on_the_line : (P : DaliBitbangPhy → Type 0) (t : ℕ) → P (now t) → P (station_at (ticks_on t l) number)
  on_the_line P t p = subst P (sym (on_line l reached number on t)) p

  pub as_breaks : {clash : ℕ} {found : Bool} → Broken (levels l) (station_at l number) clash → levels l (clash + 13) ≡ found → Breaks l number clash found
  as_breaks {clash} {found} b left = record {
    sends = λ t h. on_the_line (λ s. IsSending s) t (b.sends t h);
    breaks = λ t h k.
        let e : t ≡ clash + (t - clash) = omega arith in
        on_the_line (λ s. IsBreaking s) t (subst (λ i. IsBreaking (now i)) (sym e) (b.breaking (t - clash) (omega arith)).state);
    left = left;
    idle = on_the_line (λ s. IsIdle s) (clash + 14) (ends (levels l) (station_at l number) left b).0;
    mark = on_the_line (λ s. s.core.told.tx_idle_after_break ≡ found) (clash + 14) (ends (levels l) (station_at l number) left b).1.marked;
  }

  -- From its sample on it listens, with the clash to tell and what it found.
  pub listens_after : {clash : ℕ} {found : Bool} → Broken (levels l) (station_at l number) clash → levels l (clash + 13) ≡ found
      → (t : ℕ) → clash + 14 ≤ t → Listens 1 found false (now t)
  listens_after {clash} {found} b left t late =
      let e : t ≡ clash + 14 + (t - (clash + 14)) = omega arith in
      subst (λ i. Listens 1 found false (now i)) (sym e)
      (subst (λ (s : DaliBitbangPhy). Listens 1 found false s) (sym (heard_more (clash + 14) (t - (clash + 14)) (levels l) (station_at l number)))
      (listens_on (t - (clash + 14)) _ (ends (levels l) (station_at l number) left b).1))

-- ---- the clash
module _ (l : BenchLine) (reached : ReachedLine l) {lo wi : ℕ} {loser winner : List Bool} {lp wp : CollisionPolicy}
    (L : Ready l lo loser lp) (W : Ready l wi winner wp)
    (others : (n : ℕ) → n < stations_on l → (n ≡ lo → ⊥) → (n ≡ wi → ⊥) → IsIdle (station_at l n))
    (j : ℕ) (same : (i : ℕ) → i < j → pulls loser i ≡ pulls winner i) (released : pulls loser j ≡ false) (pulled : pulls winner j ≡ true) where
  -- both drive one level up to there
  same_level : (t : ℕ) → t < driven_at j → sent_level winner t ≡ sent_level loser t
  same_level t h = go (dec_lt t 4)
    where
      go : Dec (t < 4) → sent_level winner t ≡ sent_level loser t
      go (yes early) = armed_level winner t early ∙ sym (armed_level loser t early)
      go (no late) =
          let p : ℕ = t - 4 in
          let e : t ≡ 4 + p = omega (arith, late) in
          ap (sent_level winner) e ∙ wave_level winner p ∙ half_bits_are_the_wave winner p ∙ ap not (sym (same (p / 4) (omega (arith, late))))
          ∙ sym (half_bits_are_the_wave loser p) ∙ sym (wave_level loser p) ∙ ap (sent_level loser) (sym e)

  loser_drives : Drives (sent_level loser) (driven_at j) (station_at l lo)
  loser_drives = drives_wave loser (driven_at j) (sends loser lp L.fits _ L.sender)

  winner_drives : Drives (sent_level loser) (driven_at j) (station_at l wi)
  winner_drives t h = drives_wave winner (driven_at j) (sends winner wp W.fits _ W.sender) t h ∙ same_level t h

  abbrev Hears : ℕ → Type 0
  Hears n = hears (station_at l n).core.bus.bus_state ≡ true

  roles : (n : ℕ) → n < stations_on l → Hears n ⊎ Drives (sent_level loser) (driven_at j) (station_at l n)
  unfolding hears
  roles n on = go (ℕ_discrete n lo) (ℕ_discrete n wi)
    where
      go : Dec (n ≡ lo) → Dec (n ≡ wi) → Hears n ⊎ Drives (sent_level loser) (driven_at j) (station_at l n)
      go (yes e) either = inr (subst (λ m. Drives (sent_level loser) (driven_at j) (station_at l m)) (sym e) loser_drives)
      go (no d) (yes e) = inr (subst (λ m. Drives (sent_level loser) (driven_at j) (station_at l m)) (sym e) winner_drives)
      go (no d) (no c) = inl (ap hears (others n on d c))

  -- each has sent its half-bits, and drives this one
  begun : (n : ℕ) (bits : List Bool) (policy : CollisionPolicy) → Ready l n bits policy → Drives (sent_level loser) (driven_at j) (station_at l n) → j ≤ 2 * length bits + 3
      → (driven : Bool) → level_at bits (4 * j) ≡ driven → Begun (levels l) (station_at l n) bits policy (driven_at j) (suc j) driven
  begun n bits policy R d near driven e =
      let itself : (t : ℕ) → t ≤ driven_at j → after_levels t (levels l) (station_at l n) ≡ alone t (station_at l n)
      = λ t h. hears_itself l reached (sent_level loser) (driven_at j) roles lo L.on loser_drives t h (station_at l n) d in
      let count : 4 * j / 4 + 1 ≡ suc j = omega arith in
      let left : 3 - 4 * j % 4 ≡ 3 = omega arith in
      let wave = waving bits policy R.fits (station_at l n) R.sender (4 * j) (omega arith) in
      record {
        sends = λ t h. subst (λ (s : DaliBitbangPhy). IsSending s) (sym (itself t (omega arith))) ((sends bits policy R.fits _ R.sender).sending t (omega arith));
        sender = subst (λ (s : DaliBitbangPhy). Sender bits policy 0 (suc j) 3 driven s) (sym (itself (driven_at j) (omega arith))) (rw (count, left, e) at wave);
      }

  abbrev at : ℕ → ℕ
  at n = driven_at j + n

  -- The loser has released it, and the winner pulls it.
  loser_begun : Begun (levels l) (station_at l lo) loser lp (driven_at j) (suc j) high
  loser_begun = begun lo loser lp L loser_drives (near_loser loser winner j same released pulled) high (driven_level loser j ∙ ap not released)

  winner_begun : Begun (levels l) (station_at l wi) winner wp (driven_at j) (suc j) low
  winner_begun =
      let inside = in_winner loser winner j same released pulled in
      begun wi winner wp W winner_drives (omega arith) low (driven_level winner j ∙ ap not pulled)

  loser_broken : Broken (levels l) (station_at l lo) (at 2)
  loser_broken =
      let near = near_loser loser winner j same released pulled in
      let inside = in_winner loser winner j same released pulled in
      breaks (levels l) (station_at l lo) L.fits (omega arith) (omega arith) L.watched
      (low_at l reached (at 1) wi W.on (pulls_four (levels l) (station_at l wi) W.fits (omega arith) (omega arith) winner_begun 1 (omega arith))) loser_begun

  -- and pulls in its turn
  loser_pulls : (n t : ℕ) → t ≡ at 2 + n → 0 < n → n ≤ 12 → levels l t ≡ low
  loser_pulls n t e some most = rw e (low_at l reached (at 2 + n) lo L.on ((loser_broken.breaking n (omega arith)).line ∙ pulls_in_break n some most))

  -- The winner goes on to the next half-bit that it releases, and sees the clash there.
  winner_next : Begun (levels l) (station_at l wi) winner wp (at 4) (suc j + 1) (not (pulls winner (suc j)))
  winner_next =
      let inside = in_winner loser winner j same released pulled in
      subst (Begun (levels l) (station_at l wi) winner wp (at 4) (suc j + 1)) (driven_level winner (suc j))
      (pulls_over (levels l) (station_at l wi) W.fits (omega arith) (omega arith) winner_begun)

  winner_broken : (next : Bool) → pulls winner (suc j) ≡ next → Broken (levels l) (station_at l wi) (pick next (at 10) (at 6))
  unfolding pick
  winner_broken false e =
      let inside = in_winner loser winner j same released pulled in
      let tick : at 4 + 2 ≡ at 6 = omega arith in
      subst (λ t. Broken (levels l) (station_at l wi) t) tick
      (breaks (levels l) (station_at l wi) W.fits (omega arith) (omega arith) W.watched (loser_pulls 3 (at 4 + 1) (omega arith) (omega arith) (omega arith))
      (subst (Begun (levels l) (station_at l wi) winner wp (at 4) (suc j + 1)) (ap not e) winner_next))
  winner_broken true e =
      let inside = in_winner loser winner j same released pulled in
      let tick : at 4 + 4 + 2 ≡ at 10 = omega arith in
      let place : suc j + 1 ≡ suc (suc j) = omega arith in
      let over = pulls_over (levels l) (station_at l wi) W.fits (omega arith) (omega arith)
      (subst (Begun (levels l) (station_at l wi) winner wp (at 4) (suc j + 1)) (ap not e) winner_next) in
      subst (λ t. Broken (levels l) (station_at l wi) t) tick
      (breaks (levels l) (station_at l wi) W.fits (omega arith) (omega arith) W.watched (loser_pulls 7 (at 4 + 4 + 1) (omega arith) (omega arith) (omega arith))
      (subst (Begun (levels l) (station_at l wi) winner wp (at 4 + 4) (suc j + 1 + 1))
      (driven_level winner (suc j + 1) ∙ ap not (ap (pulls winner) place ∙ never_three winner j pulled e)) over))

  -- ---- the samples
  module _ (e : ℕ) (from-four : 4 ≤ e) (to-eight : e ≤ 8) (clash : ℕ) (clash-is : clash ≡ at 2 + e) (broken : Broken (levels l) (station_at l wi) clash) where
    -- the loser's falls into the winner's break
    loser_finds : levels l (at 2 + 13) ≡ low
    loser_finds =
        let t : at 2 + 13 ≡ clash + (13 - e) = omega arith in
        rw t (low_at l reached (clash + (13 - e)) wi W.on ((broken.breaking (13 - e) (omega arith)).line ∙ pulls_in_break (13 - e) (omega arith) (omega arith)))

    -- and when the winner samples, nobody pulls any more
    winner_finds : levels l (clash + 13) ≡ high
    unfolding hears
    winner_finds = high_at l reached (clash + 13) (λ n on. go n on (ℕ_discrete n wi) (ℕ_discrete n lo))
      where
        go : (n : ℕ) → n < stations_on l → Dec (n ≡ wi) → Dec (n ≡ lo) → drives (after_levels (clash + 13) (levels l) (station_at l n)) ≡ high
        go n on (yes e) either = subst (λ m. drives (after_levels (clash + 13) (levels l) (station_at l m)) ≡ high) (sym e) (broken.breaking 13 (omega arith)).line
        go n on (no d) (yes e) =
            subst (λ m. drives (after_levels (clash + 13) (levels l) (station_at l m)) ≡ high) (sym e)
            (listening l reached (clash + 13) lo L.on (listens_after l reached L.on loser_broken loser_finds (clash + 13) (omega arith)).hearing)
        go n on (no d) (no c) = listening l reached (clash + 13) n on (still_listening l reached (clash + 13) n (ap hears (others n on c d)))

    -- nor later
    nobody_pulls : (t : ℕ) → clash + 13 ≤ t → levels l t ≡ high
    unfolding hears
    nobody_pulls t late = go (dec_lt (clash + 13) t)
      where
        driven : clash + 14 ≤ t → (n : ℕ) → n < stations_on l → Dec (n ≡ wi) → Dec (n ≡ lo) → hears (after_levels t (levels l) (station_at l n)).core.bus.bus_state ≡ true
        driven later n on (yes e) either =
            subst (λ m. hears (after_levels t (levels l) (station_at l m)).core.bus.bus_state ≡ true) (sym e) (listens_after l reached W.on broken winner_finds t later).hearing
        driven later n on (no d) (yes e) =
            subst (λ m. hears (after_levels t (levels l) (station_at l m)).core.bus.bus_state ≡ true) (sym e)
            (listens_after l reached L.on loser_broken loser_finds t (omega arith)).hearing
        driven later n on (no d) (no c) = still_listening l reached t n (ap hears (others n on c d))

        go : Dec (clash + 13 < t) → levels l t ≡ high
        go (yes later) = high_at l reached t (λ n on. listening l reached t n on (driven (omega (arith, later)) n on (ℕ_discrete n wi) (ℕ_discrete n lo)))
        go (no now) = let e : clash + 13 ≡ t = omega (arith, now) in subst (λ i. levels l i ≡ high) e winner_finds

    -- So sixteen ticks later all are Idle.
    settles : (t : ℕ) → clash + 14 ≤ t → (n : ℕ) → n < stations_on l → Settles (clash + 29 - t) (after_levels t (levels l) (station_at l n))
    unfolding hears
    settles t late n on = go (ℕ_discrete n wi) (ℕ_discrete n lo)
      where
        from : (m since left : ℕ) → t ≡ since + m → clash + 13 ≤ since → left - m ≡ clash + 29 - t → (number : ℕ)
            → Settles left (after_levels since (levels l) (station_at l number)) → Settles (clash + 29 - t) (after_levels t (levels l) (station_at l number))
        from m since left e after same number s =
            subst (λ i. Settles i (after_levels t (levels l) (station_at l number))) same
            (subst (λ i. Settles (left - m) (after_levels i (levels l) (station_at l number))) (sym e)
            (subst (λ (x : DaliBitbangPhy). Settles (left - m) x) (sym (heard_more since m (levels l) (station_at l number)))
            (settles_on m left (λ i. levels l (since + i)) _ s (λ i h. nobody_pulls (since + i) (omega (arith, after))))))

        hearing_from : (number : ℕ) → hears (after_levels (clash + 13) (levels l) (station_at l number)).core.bus.bus_state ≡ true
            → Settles (clash + 29 - t) (after_levels t (levels l) (station_at l number))
        hearing_from number h = from (t - (clash + 13)) (clash + 13) 16 (omega (arith, late)) (omega arith) (omega (arith, late)) number (inr (h, omega arith))

        go : Dec (n ≡ wi) → Dec (n ≡ lo) → Settles (clash + 29 - t) (after_levels t (levels l) (station_at l n))
        go (yes e) either =
            subst (λ m. Settles (clash + 29 - t) (after_levels t (levels l) (station_at l m))) (sym e)
            (from (t - (clash + 14)) (clash + 14) 15 (omega (arith, late)) (omega arith) (omega (arith, late)) wi
            (inl (ends (levels l) (station_at l wi) winner_finds broken).0))
        go (no d) (yes e) =
            subst (λ m. Settles (clash + 29 - t) (after_levels t (levels l) (station_at l m))) (sym e)
            (hearing_from lo (listens_after l reached L.on loser_broken loser_finds (clash + 13) (omega arith)).hearing)
        go (no d) (no c) = hearing_from n (still_listening l reached (clash + 13) n (ap hears (others n on c d)))

  -- ---- all of it
  -- the ticks, and what each tells after its break
  pub record Over (clash : ℕ) : Type 0 where
    pub loser_breaks : Breaks l lo (at 2) low
    pub winner_breaks : Breaks l wi clash high
    pub loser_first : at 2 ≤ clash
    pub loser_listens : (t : ℕ) → clash + 14 ≤ t → Listens 1 low false (after_levels t (levels l) (station_at l lo))
    pub winner_listens : (t : ℕ) → clash + 14 ≤ t → Listens 1 high false (after_levels t (levels l) (station_at l wi))
    pub all_settle : (t : ℕ) → clash + 14 ≤ t → (n : ℕ) → n < stations_on l → Settles (clash + 29 - t) (after_levels t (levels l) (station_at l n))

  over : (e clash : ℕ) → 4 ≤ e → e ≤ 8 → clash ≡ at 2 + e → Broken (levels l) (station_at l wi) clash → Over clash
  over e clash from to is broken = record {
    loser_breaks = as_breaks l reached L.on loser_broken (loser_finds e from to clash is broken);
    winner_breaks = as_breaks l reached W.on broken (winner_finds e from to clash is broken);
    loser_first = omega arith;
    loser_listens = λ t late. listens_after l reached L.on loser_broken (loser_finds e from to clash is broken) t (omega arith);
    winner_listens = λ t late. listens_after l reached W.on broken (winner_finds e from to clash is broken) t (omega arith);
    all_settle = settles e from to clash is broken;
  }

  pub clashes : Over (pick (pulls winner (suc j)) (at 10) (at 6))
  unfolding pick
  clashes = go (pulls winner (suc j)) refl
    where
      go : (next : Bool) → pulls winner (suc j) ≡ next → Over (pick next (at 10) (at 6))
      go true e = over 8 (at 10) (omega arith) (omega arith) (omega arith) (winner_broken true e)
      go false e = over 4 (at 6) (omega arith) (omega arith) (omega arith) (winner_broken false e)
