-- `text::hex::fill` meets its contract. Assumes nothing.
use native.Mathlib.Omega.{arith}
use Rattle.text.proofs.HexLaws.{bytes_on, top_small, low_small, still_hex, all_spelled, known_value}
use Rattle.text.proofs.hex.fill.Goals as goal

pub overflow_mul-bytes : goal.overflow_mul-bytes
overflow_mul-bytes c =
    let at = c.loop-i in
    let top = top_small _ at.i (omega arith) at.invariant.hex in
    let high = known_value _ c.digit_value.ensures top _ c.unwrap_or-high.ensures in
    record { fits = omega arith }

pub overflow_add-bytes : goal.overflow_add-bytes
overflow_add-bytes c =
    let at = c.loop-i in
    let top = top_small _ at.i (omega arith) at.invariant.hex in
    let under = low_small _ at.i (omega arith) at.invariant.hex in
    let high = known_value _ c.digit_value.ensures top _ c.unwrap_or-high.ensures in
    let low = known_value _ c.digit_value-in-loop-i.ensures under _ c.unwrap_or-low.ensures in
    record { fits = omega arith }

pub loop-i-preserved : goal.loop-i-preserved
loop-i-preserved c =
    let at = c.loop-i in
    let high = known_value _ c.digit_value.ensures (top_small _ at.i (omega arith) at.invariant.hex) _ c.unwrap_or-high.ensures in
    let low = known_value _ c.digit_value-in-loop-i.ensures (low_small _ at.i (omega arith) at.invariant.hex) _ c.unwrap_or-low.ensures in
    record {
      filled = bytes_on c.args.field.now at.i (omega arith) _ _ high low at.bytes (omega arith) at.invariant.filled;
      hex = still_hex _ at.i (omega arith) at.invariant.hex;
    }

pub returns : goal.returns
returns c = let at = c.loop-i in all_spelled _ at.bytes at.i (omega arith) (omega arith) at.invariant.filled
