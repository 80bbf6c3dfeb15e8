-- What one tick, and the calls of a host, do to a station that sends, or rests, and hears itself alone. Assumes nothing.
use Prim.Native.Nat.{ℕ, suc, ◌+◌, ◌-◌, ◌*◌, ◌/◌, ◌%◌, ◌^◌, ◌<◌}
use native.Mathlib.Omega.{arith}
use mathlib.Core.Bool.{Bool, true, false, not, ◌&&◌, and-false, ◌||◌}
use mathlib.Core.List.{List}
use mathlib.Core.Path.{◌≡◌, refl, sym, ◌∙◌, ap}
use lib.Dec.{eqb}
use lib.ListN.{length}
use borrow.Author.Tests.{le-leb, lt-leb, eq-eqb, ne_eqb}
use Rattle.laws.specs.Bit.{bit}
use Rattle.laws.specs.Packed.{packed}
use Rattle.laws.specs.Pick.{pick}
use Rattle.laws.proofs.Digits.{packed_digit, bit_lt}
use Rattle.laws.proofs.Picked.{on_true, on_false}
use Rattle.laws.proofs.Tabulated.{get_d_tabulate}
use Rattle.halfbits.specs.Wave.{high, low, level_at}
use Rattle.halfbits.specs.HalfBits.{pulls, store_of, half_bits_of, buffer_of}
use Rattle.halfbits.proofs.Levels.{not_not}
use Rattle.laws.proofs.Joined.{and_off}
use Rattle.machine.proofs.Store.{releases_loaded}
use Rattle.machine.specs.declared.CollisionPolicy.{CollisionPolicy}
use Rattle.machine.specs.declared.Tx.{Tx}
use Rattle.machine.specs.Runs.{runs_counted}
use Rattle.machine.specs.BecomingIdle.{idled}
use Rattle.machine.specs.Idle.{idle_tick, silent, fell}
use Rattle.machine.specs.Sending.{Step, Arm, End, Hold, Drive, clash_of, releases_at, tx_step, armed, held, driven, after_step, tx_tick, half_bit_in, tx_hb_of, watches_of}
use Rattle.fsm.specs.declared.DaliBitbangPhy.{DaliBitbangPhy}
use Rattle.fsm.specs.Station.{with_core}
use Rattle.fsm.specs.Ticking.{tick_in, tick_of}
use Rattle.station_theorems.specs.Ticks.{drives, IsIdle, IsSending}
use Rattle.station_theorems.specs.Calls.{Call, after_all, is_between}
use Rattle.station_theorems.proofs.Between.{Same}
use Rattle.frames.specs.Sends.{FitsBuffer}
use Rattle.frames.specs.Hosts.{Each, keeps_tx}
use Rattle.frames.proofs.Between.{Clear, all_kept, all_clear, all_in_tx}

-- ---- a half-bit of the store
is_zero : (b : Bool) → eqb (bit b) 0 ≡ not b
is_zero true = refl
is_zero false = refl

-- what the sender reads there is the level of the wave
pub read_back : (bits : List Bool) (j : ℕ) → j < 56 → eqb (half_bit_in (store_of bits) j) 0 ≡ level_at bits (4 * j)
unfolding store_of pulls
read_back bits j h =
    let byte : ℕ → ℕ = λ i. packed 2 8 (λ k. bit (pulls bits (8 * i + k))) in
    let digit : ℕ → ℕ = λ k. bit (pulls bits (8 * (j / 8) + k)) in
    let place : 8 * (j / 8) + j % 8 ≡ j = omega arith in
    ap (λ x. eqb (x / 2 ^ (7 - j % 8) % 2) 0) (get_d_tabulate 7 (j / 8) byte 0 (omega arith))
    ∙ ap (λ x. eqb x 0) (packed_digit 2 8 (j % 8) (7 - j % 8) digit (omega arith) (λ k. bit_lt (pulls bits (8 * (j / 8) + k))))
    ∙ ap (λ k. eqb (bit (pulls bits k)) 0) place
    ∙ is_zero (pulls bits j)
    ∙ not_not (level_at bits (4 * j))

pub reads_wave : (bits : List Bool) (j : ℕ) → j < 56 → releases_at (tx_hb_of (buffer_of bits)) j ≡ level_at bits (4 * j)
unfolding buffer_of
reads_wave bits j h = releases_loaded (buffer_of bits) j (omega arith) ∙ read_back bits j h

-- ---- a station that sends
-- a tick of one that hears itself
abbrev pub next : DaliBitbangPhy → DaliBitbangPhy
next s = tick_of s (drives s)

-- It sends these bits under this policy: so many ticks are armed, so many half-bits are begun, so many ticks of the last of them are left,
-- and this is the level that it drives.
pub record Sender (bits : List Bool) (policy : CollisionPolicy) (ticks half-bits left : ℕ) (level : Bool) (s : DaliBitbangPhy) : Type 0 where
  pub state : IsSending s
  pub store : s.tx_hb ≡ tx_hb_of (buffer_of bits)
  pub loads : s.tx_hb.tx_hb_len ≡ half_bits_of (length bits)
  pub watch : s.core.collision_policy ≡ policy
  pub arms : s.core.tx.tx_armed ≡ ticks
  pub begun : s.core.tx.tx_hb_cnt ≡ half-bits
  pub spaces : s.core.tx.tx_sp_cnt ≡ left
  pub line : drives s ≡ level
  -- a half-bit is watched where it is released
  pub pulled : level ≡ low → s.core.tx.tx_high ≡ 0
  pub released : 0 < half-bits → level ≡ high → s.core.tx.tx_high ≡ 1
  pub clear : Clear s

abbrev pub rule_of : DaliBitbangPhy → Bool → Step
rule_of s sampled = tx_step s.core.tx s.core.collision_policy s.tx_hb sampled

abbrev pub clashes : DaliBitbangPhy → Bool → Bool
clashes s sampled = clash_of s.core.tx s.core.collision_policy s.tx_hb.tx_hb_len sampled

pub by_rule : (s : DaliBitbangPhy) (sampled : Bool) {rule : Step} → IsSending s → rule_of s sampled ≡ rule
    → tick_of s sampled ≡ with_core s (after_step rule (runs_counted s.core sampled))
unfolding tick_of tick_in pick tx_tick runs_counted
by_rule s sampled e f = rw (e, f)

-- whatever is sampled on a half-bit that is pulled, it is no clash
pub pulled_calm : (tx : Tx) (policy : CollisionPolicy) (len : ℕ) (sampled : Bool) → tx.tx_high ≡ 0 → clash_of tx policy len sampled ≡ false
unfolding clash_of
pulled_calm tx policy len sampled pulled =
    let unwatched : (watches_of policy len && not (eqb tx.tx_high 0)) ≡ false
    = ap (λ b. watches_of policy len && not b) (eq-eqb tx.tx_high 0 pulled) ∙ and-false (watches_of policy len) in
    and_off (and_off unwatched (not sampled)) (eqb tx.tx_sp_cnt 1 || eqb tx.tx_sp_cnt 2)

-- a sender's own level is no clash, whatever the policy
no_clash : (tx : Tx) (policy : CollisionPolicy) (len : ℕ) (level : Bool) → (level ≡ low → tx.tx_high ≡ 0) → clash_of tx policy len level ≡ false
unfolding clash_of
no_clash tx policy len true pulled = and_off (and-false (watches_of policy len && not (eqb tx.tx_high 0))) (eqb tx.tx_sp_cnt 1 || eqb tx.tx_sp_cnt 2)
no_clash tx policy len false pulled = pulled_calm tx policy len false (pulled refl)

some_left : (n : ℕ) → eqb (suc n) 0 ≡ false
some_left n = ne_eqb (suc n) 0 (λ e. omega (arith, e))

module _ {bits : List Bool} {policy : CollisionPolicy} where
  pub own_level : {ticks j left : ℕ} {level : Bool} {s : DaliBitbangPhy} → Sender bits policy ticks j left level s → clashes s (drives s) ≡ false
  own_level {s = s} a = no_clash s.core.tx _ _ (drives s) (λ e. a.pulled (sym a.line ∙ e))

  pub arm : {ticks : ℕ} {s : DaliBitbangPhy} → Sender bits policy (suc ticks) 0 0 high s → Sender bits policy ticks 0 0 high (next s)
  unfolding after_step armed runs_counted tx_step
  arm {ticks} {s} a =
      let rule : rule_of s (drives s) ≡ Arm = on_true (ap (λ n. not (eqb n 0)) a.arms ∙ ap not (some_left ticks)) _ _ ∙ on_false (and_off (ap not a.line) _) _ _ in
      rw (by_rule s (drives s) a.state rule)
      (record {
        state = a.state;
        store = a.store;
        loads = a.loads;
        watch = a.watch;
        arms = omega arith;
        begun = a.begun;
        spaces = a.spaces;
        line = a.line;
        pulled = a.pulled;
        released = a.released;
        clear = a.clear;
      })

  module _ (fits : FitsBuffer bits) {j : ℕ} (more : j < half_bits_of (length bits)) {level : Bool} {s : DaliBitbangPhy} (sampled : Bool)
      (none : clashes s sampled ≡ false) where
    -- not armed, not every half-bit is begun, and no clash
    holds_or_drives : {left : ℕ} → Sender bits policy 0 j left level s → rule_of s sampled ≡ pick (not (eqb left 0)) Hold (Drive (level_at bits (4 * j)))
    unfolding tx_step
    holds_or_drives {left} a =
        let drives_wave = on_false (lt-leb 56 j (omega arith)) _ _ ∙ ap Drive (ap (λ hb. releases_at hb j) a.store ∙ reads_wave bits j (omega arith)) in
        on_false (ap (λ n. not (eqb n 0)) a.arms) _ _
        ∙ on_false (lt-leb s.tx_hb.tx_hb_len s.core.tx.tx_hb_cnt (omega arith)) _ _
        ∙ on_false none _ _
        ∙ rw (a.spaces, a.begun) (ap (λ rule. pick (not (eqb left 0)) Hold rule) drives_wave)

    pub hold : {left : ℕ} → Sender bits policy 0 j (suc left) level s → Sender bits policy 0 j left level (tick_of s sampled)
    unfolding after_step held runs_counted
    hold {left} a =
        rw (by_rule s sampled a.state (holds_or_drives a ∙ on_true (ap not (some_left left)) _ _))
        (record {
          state = a.state;
          store = a.store;
          loads = a.loads;
          watch = a.watch;
          arms = a.arms;
          begun = a.begun;
          spaces = omega arith;
          line = a.line;
          pulled = a.pulled;
          released = a.released;
          clear = a.clear;
        })

    pub drive : Sender bits policy 0 j 0 level s → Sender bits policy 0 (j + 1) 3 (level_at bits (4 * j)) (tick_of s sampled)
    unfolding after_step driven runs_counted
    drive a =
        rw (by_rule s sampled a.state (holds_or_drives a ∙ on_false refl _ _))
        (record {
          state = a.state;
          store = a.store;
          loads = a.loads;
          watch = a.watch;
          arms = a.arms;
          begun = omega arith;
          spaces = refl;
          line = refl;
          pulled = λ e. ap bit e;
          released = λ _ e. ap bit e;
          clear = a.clear;
        })

-- ---- an Idle station that leaves the line high, with nothing to tell
abbrev pub Rests : DaliBitbangPhy → Type 0
Rests s = IsIdle s × (drives s ≡ high) × Clear s

-- every half-bit is begun
pub finish : {bits : List Bool} {policy : CollisionPolicy} {left : ℕ} {level : Bool} {s : DaliBitbangPhy}
    → Sender bits policy 0 (half_bits_of (length bits)) left level s → Rests (next s)
unfolding after_step idled tx_step runs_counted
finish {s = s} a =
    let all = le-leb s.tx_hb.tx_hb_len s.core.tx.tx_hb_cnt (omega arith) in
    let rule : rule_of s (drives s) ≡ End = on_false (ap (λ n. not (eqb n 0)) a.arms) _ _ ∙ on_true all _ _ in
    rw (by_rule s (drives s) a.state rule) (refl, refl, a.clear)

pub rest : (s : DaliBitbangPhy) → Rests s → Rests (next s)
unfolding tick_of tick_in pick idle_tick silent fell runs_counted
rest s r = rw (r.0, r.1) (refl, refl, r.2)

-- ---- the calls of a host
-- what is left as it was sends as before, under the policy that it has now
moved : {bits : List Bool} {policy : CollisionPolicy} {ticks j left : ℕ} {level : Bool} {s t : DaliBitbangPhy}
    → Same s t → Clear t → Sender bits policy ticks j left level s → Sender bits t.core.collision_policy ticks j left level t
moved k clear a = record {
  state = ap (λ b. b.bus_state) k.bus ∙ a.state;
  store = k.halfbits ∙ a.store;
  loads = ap (λ hb. hb.tx_hb_len) k.halfbits ∙ a.loads;
  watch = refl;
  arms = ap (λ tx. tx.tx_armed) k.tx ∙ a.arms;
  begun = ap (λ tx. tx.tx_hb_cnt) k.tx ∙ a.begun;
  spaces = ap (λ tx. tx.tx_sp_cnt) k.tx ∙ a.spaces;
  line = ap (λ b. b.driven_high) k.bus ∙ a.line;
  pulled = λ e. ap (λ tx. tx.tx_high) k.tx ∙ a.pulled e;
  released = λ some e. ap (λ tx. tx.tx_high) k.tx ∙ a.released some e;
  clear = clear;
}

pub sends_on : {bits : List Bool} {policy : CollisionPolicy} {ticks j left : ℕ} {level : Bool} (cs : List Call) {s : DaliBitbangPhy} → Each keeps_tx cs
    → Sender bits policy ticks j left level s → let t = after_all cs s in Sender bits t.core.collision_policy ticks j left level t
sends_on cs {s} each a = let (k, clear) = all_in_tx cs s each a.state a.clear in moved k clear a

pub rests_on : (cs : List Call) (s : DaliBitbangPhy) → Each is_between cs → Rests s → Rests (after_all cs s)
rests_on cs s each r =
    let k = all_kept cs s each in
    (ap (λ b. b.bus_state) k.bus ∙ r.0, ap (λ b. b.driven_high) k.bus ∙ r.1, all_clear cs s each r.2)
