-- `text::decimals::well_begun` meets its contract. Assumes nothing.
use native.Mathlib.Omega.{arith}
use Rattle.text.proofs.DecimalLaws.{none_begun, one_begun, more_begun}
use Rattle.text.proofs.decimals.well_begun.Goals as goal

pub returns-in-empty : goal.returns-in-empty
returns-in-empty c = none_begun _ (omega arith)

pub returns-in-len1 : goal.returns-in-len1
returns-in-len1 c = one_begun _ (omega arith)

pub returns-in-len1-up : goal.returns-in-len1-up
returns-in-len1-up c = more_begun _ (λ e. omega arith) (λ e. omega arith)
