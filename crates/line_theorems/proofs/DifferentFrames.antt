-- Two senders of different frames (specs/TwoSenders, specs/Clash, specs/AnyOrder). Assumes nothing.
use Prim.Native.Nat.{ℕ, suc, ◌+◌, ◌-◌, ◌<◌, ◌≤◌}
use native.Mathlib.Omega.{arith}
use mathlib.Core.Bool.{Bool, true, false}
use mathlib.Core.List.{[], ◌∷◌}
use mathlib.Core.Logic.{◌⊎◌, inl, inr, ⊎_elim}
use mathlib.Core.Path.{◌≡◌, refl, sym, ◌∙◌, ap, subst}
use lib.ListN.{length}
use Rattle.laws.specs.Pick.{pick}
use Rattle.halfbits.specs.declared.HalfBitBuffer.{HalfBitBuffer}
use Rattle.halfbits.specs.HalfBits.{pulls}
use Rattle.halfbits.specs.Wave.{high, low}
use Rattle.machine.specs.declared.CollisionPolicy.{CollisionPolicy}
use Rattle.fsm.specs.declared.DaliBitbangPhy.{DaliBitbangPhy}
use Rattle.bench_line.specs.declared.BenchLine.{BenchLine}
use Rattle.bench_line.specs.Line.{stations_on, station_at}
use Rattle.station_theorems.specs.Ticks.{IsIdle, after_levels}
use Rattle.frames.proofs.OneFrame.{one_wave_one_frame}
use Rattle.line_theorems.specs.Reached.{ReachedLine, poll, take_idle, line_after_all, Each, starts_nothing}
use Rattle.line_theorems.specs.OnLine.{ticks_on, AllIdle, Sender, frame_in, buffer_in, IsSender, Breaks, InARow}
use Rattle.line_theorems.specs.TwoSenders.{Pair, both_on, pulls_in, FirstDifference, Clashed, DifferentFrames}
use Rattle.line_theorems.specs.Clash.{driven_at, clash_at, ClashTicks}
use Rattle.line_theorems.specs.AnyOrder.{KeepsClash, DifferentFramesInAnyOrder}
use Rattle.line_theorems.proofs.Starting.{bits_in, few_bits, fits, buffer_is}
use Rattle.line_theorems.proofs.Hearing.{levels, ticks_reached, same_count, on_line, Listens, Settles, settles_later}
use Rattle.line_theorems.proofs.Asking.{distinct, On, Settling, settled_line}
use Rattle.line_theorems.proofs.Telling.{keeps_clash}
use Rattle.line_theorems.proofs.Differing.{pulls_in_lem, differ, by_216}
use Rattle.line_theorems.proofs.Clashing.{Ready, clashes}
use Rattle.line_theorems.proofs.BothStarted.{as_long, both_reached, one_ready, other_ready, listening}

-- ---- different frames
-- the tick at which the winner sees the clash
abbrev winner_at : HalfBitBuffer → ℕ → ℕ
winner_at hb j = pick (pulls_in hb (suc j)) (driven_at j + 10) (driven_at j + 6)

-- all that becomes of the two
pub record Settled (l : BenchLine) (winner loser : Sender) (j : ℕ) : Type 0 where
  pub winner_breaks : Breaks l winner.number (winner_at (buffer_in winner) j) high
  pub loser_breaks : Breaks l loser.number (driven_at j + 2) low
  pub in_time : winner_at (buffer_in winner) j + 14 ≤ 216
  pub loser_first : driven_at j + 2 ≤ winner_at (buffer_in winner) j
  pub winner_tells : (ticks : ℕ) → 230 ≤ ticks → On winner.number (Listens 1 true false) (ticks_on ticks l)
  pub loser_tells : (ticks : ℕ) → 230 ≤ ticks → On loser.number (Listens 1 false false) (ticks_on ticks l)
  pub settles : (ticks : ℕ) → 230 ≤ ticks → Settling (231 - ticks) (ticks_on ticks l)

-- a sender whose store has the half-bits of its bits
pub record Side (l : BenchLine) (c : Sender) : Type 0 where
  pub policy : CollisionPolicy
  pub ready_on : Ready l c.number (bits_in c) policy
  pub long : (length (bits_in c) ≡ 16) ⊎ (length (bits_in c) ≡ 24)
  pub few : length (bits_in c) ≤ 24
  pub pulls_are : (i : ℕ) → pulls_in (buffer_in c) i ≡ pulls (bits_in c) i

-- what is so of a station that has ticked so many times, on the line
on_now : (l : BenchLine) → ReachedLine l → (n : ℕ) → n < stations_on l → (P : DaliBitbangPhy → Type 0) (t : ℕ) → P (after_levels t (levels l) (station_at l n)) → On n P (ticks_on t l)
on_now l reached n on P t p = record { reached = ticks_reached t l reached; on = omega (arith, on, same_count t l); is = subst P (sym (on_line l reached n on t)) p }

module _ (l : BenchLine) (reached : ReachedLine l) (wi lo : Sender) (W : Side l wi) (L : Side l lo)
    (others : (n : ℕ) → n < stations_on l → (n ≡ lo.number → ⊥) → (n ≡ wi.number → ⊥) → IsIdle (station_at l n))
    (j : ℕ) (same : (i : ℕ) → i < j → pulls_in (buffer_in lo) i ≡ pulls_in (buffer_in wi) i)
    (released : pulls_in (buffer_in lo) j ≡ false) (pulled : pulls_in (buffer_in wi) j ≡ true) where
  same_pulls : (i : ℕ) → i < j → pulls (bits_in lo) i ≡ pulls (bits_in wi) i
  same_pulls i h = sym (L.pulls_are i) ∙ same i h ∙ W.pulls_are i

  lo_releases : pulls (bits_in lo) j ≡ false
  lo_releases = sym (L.pulls_are j) ∙ released

  wi_pulls : pulls (bits_in wi) j ≡ true
  wi_pulls = sym (W.pulls_are j) ∙ pulled

  settled : Settled l wi lo j
  settled =
      let next = W.pulls_are (suc j) in
      let over = rw (sym next) at (clashes l reached L.ready_on W.ready_on others j same_pulls lo_releases wi_pulls) in
      let early = rw (sym next) at (by_216 (bits_in lo) (bits_in wi) j same_pulls lo_releases wi_pulls L.long W.few) in
      record {
        winner_breaks = over.winner_breaks;
        loser_breaks = over.loser_breaks;
        in_time = early;
        loser_first = over.loser_first;
        winner_tells = λ t late. on_now l reached wi.number W.ready_on.on (Listens 1 true false) t (over.winner_listens t (omega (arith, early, late)));
        loser_tells = λ t late. on_now l reached lo.number L.ready_on.on (Listens 1 false false) t (over.loser_listens t (omega (arith, early, late)));
        settles = λ t late. record {
          reached = ticks_reached t l reached;
          settles = λ n on.
              let here : n < stations_on l = omega (arith, on, same_count t l) in
              (on_now l reached n here (λ s. Settles (231 - t) s) t
              (settles_later (winner_at (buffer_in wi) j + 29 - t) (231 - t) (omega (arith, early)) (after_levels t (levels l) (station_at l n)) (over.all_settle t (omega (arith, early, late)) n here))).is;
        };
      }

-- a poll is none of the takes
no_take : (m n : ℕ) → poll m ≡ take_idle n → ⊥
no_take m n e = distinct (cc)

-- ---- who is who
module _ (l : BenchLine) (reached : ReachedLine l) (idle : AllIdle l) (a b : Sender) (pair : Pair l a b) where
  abbrev here : BenchLine
  here = both_on l a b

  store_pulls : (c : Sender) → IsSender l c → (i : ℕ) → pulls_in (buffer_in c) i ≡ pulls (bits_in c) i
  store_pulls c is i = ap (λ (hb : HalfBitBuffer). pulls_in hb i) (buffer_is l c is) ∙ pulls_in_lem (bits_in c) i (fits l c is)

  one_side : Side here a
  one_side = record {
    policy = _;
    ready_on = one_ready l reached idle a b pair;
    long = as_long l a pair.one pair.one_watches;
    few = few_bits l a pair.one;
    pulls_are = store_pulls a pair.one;
  }

  other_side : Side here b
  other_side = record {
    policy = _;
    ready_on = other_ready l reached idle a b pair;
    long = as_long l b pair.other pair.other_watches;
    few = few_bits l b pair.other;
    pulls_are = store_pulls b pair.other;
  }

  -- the half-bit's levels, and so the winner and the loser
  pub record Won (winner loser : Sender) (j : ℕ) : Type 0 where
    pub first_difference : FirstDifference (buffer_in winner) (buffer_in loser) j
    pub pulled : pulls_in (buffer_in winner) j ≡ true
    pub released : pulls_in (buffer_in loser) j ≡ false
    pub settled_so : Settled here winner loser j

  module _ (j : ℕ) (d : FirstDifference (buffer_in a) (buffer_in b) j) where
    by_levels : (x y : Bool) → pulls_in (buffer_in a) j ≡ x → pulls_in (buffer_in b) j ≡ y → Won a b j ⊎ Won b a j
    by_levels true true e f = absurd (d.differs (e ∙ sym f))
    by_levels false false e f = absurd (d.differs (e ∙ sym f))
    by_levels true false e f = inl (record {
      first_difference = d;
      pulled = e;
      released = f;
      settled_so = settled here (both_reached l reached idle a b pair) a b one_side other_side
          (λ n on from-b from-a. listening l reached idle a b pair n on from-a from-b) j (λ i h. sym (d.same i h)) f e;
    })
    by_levels false true e f = inr (record {
      first_difference = record { same = λ i h. sym (d.same i h); differs = λ same. d.differs (sym same) };
      pulled = f;
      released = e;
      settled_so = settled here (both_reached l reached idle a b pair) b a other_side one_side (listening l reached idle a b pair) j d.same e f;
    })

    pub who_won : Won a b j ⊎ Won b a j
    who_won = by_levels (pulls_in (buffer_in a) j) (pulls_in (buffer_in b) j) refl refl

  -- Where the frames differ, so do their half-bits somewhere.
  pub first_difference : (frame_in a ≡ frame_in b → ⊥) → (j : ℕ) × FirstDifference (buffer_in a) (buffer_in b) j
  first_difference different =
      let (j, d) = differ (bits_in a) (bits_in b) (λ one. different (one_wave_one_frame (frame_in a) (frame_in b) pair.one.are_bytes pair.other.are_bytes one)) in (
        j,
        record {
          same = λ i h. store_pulls a pair.one i ∙ d.same i h ∙ sym (store_pulls b pair.other i);
          differs = λ e. d.here (sym (store_pulls a pair.one j) ∙ e ∙ store_pulls b pair.other j);
        },
      )

  -- each of the two, by what it pulled there
  winner_ticks : {winner loser : Sender} {j : ℕ} → Won winner loser j
      → Breaks here winner.number (clash_at (buffer_in winner) j) (pulls_in (buffer_in winner) j)
  unfolding pick
  winner_ticks w = rw w.pulled w.settled_so.winner_breaks

  loser_ticks : {winner loser : Sender} {j : ℕ} → Won winner loser j
      → Breaks here loser.number (clash_at (buffer_in loser) j) (pulls_in (buffer_in loser) j)
  unfolding pick
  loser_ticks w = rw w.released w.settled_so.loser_breaks

  module _ (ticks : ℕ) (late : 230 ≤ ticks) where
    winner_keeps : {winner loser : Sender} {j : ℕ} → Won winner loser j → KeepsClash true winner.number (ticks_on ticks here)
    winner_keeps {winner} w = keeps_clash winner.number true (ticks_on ticks here) (w.settled_so.winner_tells ticks late)

    loser_keeps : {winner loser : Sender} {j : ℕ} → Won winner loser j → KeepsClash false loser.number (ticks_on ticks here)
    loser_keeps {winner} {loser} w = keeps_clash loser.number false (ticks_on ticks here) (w.settled_so.loser_tells ticks late)

  pub clashed : {winner loser : Sender} {j : ℕ} → (winner.number ≡ loser.number → ⊥) → Won winner loser j → Clashed here winner loser j
  unfolding InARow line_after_all Each starts_nothing
  clashed {winner} {loser} {j} apart w =
      let s = w.settled_so in
      record {
        first_difference = w.first_difference;
        pulled = w.pulled;
        released = w.released;
        winner_sampled = (winner_at (buffer_in winner) j, s.in_time, s.winner_breaks);
        loser_sampled = (driven_at j + 2, omega (arith, s.in_time, s.loser_first), s.loser_breaks);
        told = λ ticks late.
            let wins = winner_keeps ticks late w in
            let loses = loser_keeps ticks late w in (
              wins.knows [] tt tt,
              (
                loses.knows (poll winner.number ∷ []) (refl, tt) (λ e. apart (cc), tt),
                (
                  wins.finds (poll winner.number ∷ poll loser.number ∷ []) (refl, (refl, tt))
                      (no_take winner.number winner.number, (no_take loser.number winner.number, tt)),
                  (
                    loses.finds (poll winner.number ∷ poll loser.number ∷ take_idle winner.number ∷ []) (refl, (refl, (refl, tt)))
                        (no_take winner.number loser.number, (no_take loser.number loser.number, (λ e. apart (cc), tt))),
                    tt,
                  ),
                ),
              ),
            );
        rests = λ ticks late.
            let none : 231 - ticks ≡ 0 = omega arith in
            settled_line (ticks_on ticks here) (subst (λ n. Settling n (ticks_on ticks here)) none (s.settles ticks (omega arith)));
      }

-- ---- the theorems
pub clash_ticks : ClashTicks
clash_ticks l reached idle a b pair j d =
    ⊎_elim (λ w. (winner_ticks l reached idle a b pair w, loser_ticks l reached idle a b pair w))
    (λ w. (loser_ticks l reached idle a b pair w, winner_ticks l reached idle a b pair w)) (who_won l reached idle a b pair j d)

pub different_frames : DifferentFrames
different_frames l reached idle a b pair different =
    let (j, d) = first_difference l reached idle a b pair different in (
      j,
      ⊎_elim (λ w. inl (clashed l reached idle a b pair pair.apart w)) (λ w. inr (clashed l reached idle a b pair (λ e. pair.apart (sym e)) w))
          (who_won l reached idle a b pair j d),
    )

pub different_frames_in_any_order : DifferentFramesInAnyOrder
different_frames_in_any_order l reached idle a b pair j d ticks late =
    ⊎_elim (λ w. (rw w.pulled (winner_keeps l reached idle a b pair ticks late w), rw w.released (loser_keeps l reached idle a b pair ticks late w)))
    (λ w. (rw w.released (loser_keeps l reached idle a b pair ticks late w), rw w.pulled (winner_keeps l reached idle a b pair ticks late w)))
    (who_won l reached idle a b pair j d)
