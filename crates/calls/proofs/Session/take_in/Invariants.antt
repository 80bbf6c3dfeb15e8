-- `calls::Session::take_in` is safe and ends: each turn takes a byte at least. Assumes nothing.
use Rattle.std.proofs.Common.{◌-◌, length}
use Rattle.calls.proofs.Session.take_in.Given as goal

abbrev pub decreases-loop-from : goal.decreases-loop-from
decreases-loop-from l = length l.chunk - l.from
