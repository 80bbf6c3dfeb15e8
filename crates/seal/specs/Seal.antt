-- A mark stands for something that happened outside the program. Only this file sees what a mark is made of, so a proof can get one only from `mark`.
-- And a crate that does not name this one can't name `mark`: there a mark comes from a call or not at all. Assumes nothing.

-- the mark that this has happened
pub Mark : {A : Type 0} → A → Type 0
Mark happened = Unit {0}

-- Only the crate that makes the calls of the outside may use this.
pub mark : {A : Type 0} (happened : A) → Mark happened
unfolding Mark
mark happened = tt
