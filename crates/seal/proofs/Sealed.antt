-- Where a mark comes from. No proof stands nearer to the seal than this file, and here too a mark is had from `mark` alone. Assumes nothing.
use Rattle.seal.specs.Seal.{Mark, mark}

from_the_seal : {A : Type 0} (happened : A) → Mark happened
from_the_seal happened = mark happened
