-- Why a tick in Tx takes the step that it takes. Assumes nothing.
use Prim.Native.Nat.{◌≤◌, ◌<◌}
use mathlib.Core.Bool.{Bool, true, false, not, ◌&&◌, false≢true}
use mathlib.Core.Logic.{◌⊎◌, inl, inr}
use mathlib.Core.Path.{◌≡◌, refl}
use lib.Dec.{leb, eqb}
use borrow.Author.Tests.{eqb-true, leb-true, leb-false}
use Rattle.laws.proofs.Joined.{is}
use Rattle.laws.proofs.Picked.{cases}
use Rattle.machine.specs.declared.Tx.{Tx}
use Rattle.machine.specs.declared.CollisionPolicy.{CollisionPolicy}
use Rattle.machine.specs.declared.TxHb.{TxHb}
use Rattle.machine.specs.Sending.{Step, Arm, Yield, End, Clash, Hold, Drive, clash_of, releases_at, tx_step}

both_low : (high answer : Bool) → (not high && not answer) ≡ true → high ≡ false
both_low true answer e = absurd (false≢true e)
both_low false answer e = refl

-- the step x drives the half-bit that is next
pub record Drew (tx : Tx) (hb : TxHb) (x : Step) : Type 0 where
  pub unarmed : tx.tx_armed ≡ 0
  pub more : tx.tx_hb_cnt < hb.tx_hb_len
  pub out : x ≡ Drive (releases_at hb tx.tx_hb_cnt)

module _ (tx : Tx) (policy : CollisionPolicy) (hb : TxHb) (high : Bool) where
  unfoldable pub Why : Step → Type 0
  Why Arm = Unit {0}
  Why Yield = high ≡ false
  Why End = (hb.tx_hb_len ≤ tx.tx_hb_cnt) ⊎ ((tx.tx_hb_cnt < hb.tx_hb_len) × (56 ≤ tx.tx_hb_cnt))
  Why Clash = clash_of tx policy hb.tx_hb_len high ≡ true
  Why Hold = Unit {0}
  Why (Drive out) = Drew tx hb (Drive out)

  pub why : Why (tx_step tx policy hb high)
  unfolding Why tx_step
  why =
      cases Why (not (eqb tx.tx_armed 0))
      (λ _. cases Why (not high && not tx.tx_answer) (both_low high tx.tx_answer) (λ _. tt))
      (λ un. cases Why (leb hb.tx_hb_len tx.tx_hb_cnt) (λ all. inl (leb-true _ _ all))
      (λ more. cases Why (clash_of tx policy hb.tx_hb_len high) (λ clash. clash)
      (λ _. cases Why (not (eqb tx.tx_sp_cnt 0)) (λ _. tt)
      (λ _. cases Why (leb 56 tx.tx_hb_cnt) (λ used. inr (leb-false _ _ more, leb-true _ _ used))
      (λ _. record { unarmed = eqb-true _ _ (is _ un); more = leb-false _ _ more; out = refl })))))
