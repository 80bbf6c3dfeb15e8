-- Which of Tx's rules is that of a half-bit that is not over yet (`is_hold`). Assumes nothing.
use mathlib.Core.Bool.{true, false≢true}
use mathlib.Core.Path.{◌≡◌, refl}
use Rattle.machine.specs.Sending.{Step, Arm, Yield, End, Clash, Hold, Drive, is_hold}

-- Only the rule of a half-bit that goes on is.
pub is_hold_lem : (x : Step) → is_hold x ≡ true → x ≡ Hold
unfolding is_hold
is_hold_lem Arm e = absurd (false≢true e)
is_hold_lem Yield e = absurd (false≢true e)
is_hold_lem End e = absurd (false≢true e)
is_hold_lem Clash e = absurd (false≢true e)
is_hold_lem Hold e = refl
is_hold_lem (Drive high) e = absurd (false≢true e)
