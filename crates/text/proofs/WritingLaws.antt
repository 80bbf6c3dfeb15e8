-- Laws of a text that is written where it has room. Assumes nothing.
use Prim.Native.Nat.{ℕ, suc, ◌+◌, ◌-◌, ◌≤◌, ◌<◌}
use native.Mathlib.Decide.{dec_lt}
use native.Mathlib.Nat.{add-zero}
use native.Mathlib.Omega.{arith}
use mathlib.Core.Bool.{Bool, true, false}
use mathlib.Core.List.{List, [], ◌∷◌, ◌++◌, append_assoc}
use mathlib.Core.Path.{◌≡◌, sym, ap, ◌∙◌}
use lib.Dec.{leb}
use lib.ListN.{length, take, drop, set, length-append}
use lib.Seq.{sets, sets-eq, length-sets, set_comm, drop-drop}
use borrow.Rule.Slice.PartMut.{put_mid}
use borrow.Author.Tests.{le-leb, lt-leb, leb-true}
use Rattle.laws.proofs.Picked.{on_true, on_false}
use Rattle.text.specs.Writing.{room_at, place_after, buffer_after}

-- ---- what a writer tells
-- a text was stored in `before` from a place on and nothing else was, which left `after`; `next` is the place past it
abbrev pub Stored : List ℕ → ℕ → List ℕ → List ℕ → ℕ → Type 0
Stored text place before after next = (next ≡ place + length text) × (after ≡ sets before place text)

-- the same where there was so much room; else nothing was done
abbrev pub Written : ℕ → List ℕ → ℕ → List ℕ → List ℕ → ℕ → Type 0
Written room text place before after next = (next ≡ place_after room text place before) × (after ≡ buffer_after room text place before)

-- what a writer promises of a text that only needs room for itself
abbrev pub Past : List ℕ → ℕ → List ℕ → List ℕ → ℕ → Type 0
Past text place before after next = Written (length text) text place before after next

-- ---- the room
-- a difference that does not fall below 0 is tested as a sum
pub without : (a b n : ℕ) → b ≤ n → leb a (n - b) ≡ leb (a + b) n
without a b n h = split (dec_lt (n - b) a)
  where
    split : Dec (n - b < a) → leb a (n - b) ≡ leb (a + b) n
    split (yes over) = lt-leb a (n - b) over ∙ sym (lt-leb (a + b) n (omega arith))
    split (no within) = le-leb a (n - b) (omega arith) ∙ sym (le-leb (a + b) n (omega arith))

-- what a test of the room says
pub enough : (room place : ℕ) (buffer : List ℕ) {test : Bool} → test ≡ room_at room place buffer → test ≡ true → place + room ≤ length buffer
enough room place buffer e t = leb-true (place + room) (length buffer) (sym e ∙ t)

-- ---- a text where there is room, and where there is none
module _ (room : ℕ) (text : List ℕ) (place : ℕ) (buffer : List ℕ) where
  pub place_moves : room_at room place buffer ≡ true → place_after room text place buffer ≡ place + length text
  unfolding place_after
  place_moves t = on_true t _ _

  pub buffer_filled : room_at room place buffer ≡ true → buffer_after room text place buffer ≡ sets buffer place text
  unfolding buffer_after
  buffer_filled t = on_true t _ _

  pub place_stays : room_at room place buffer ≡ false → place_after room text place buffer ≡ place
  unfolding place_after
  place_stays t = on_false t _ _

  pub buffer_stays : room_at room place buffer ≡ false → buffer_after room text place buffer ≡ buffer
  unfolding buffer_after
  buffer_stays t = on_false t _ _

  module _ (fits : place + room ≤ length buffer) where
    pub place_fits : place_after room text place buffer ≡ place + length text
    place_fits = place_moves (le-leb (place + room) (length buffer) fits)

    pub buffer_fits : buffer_after room text place buffer ≡ sets buffer place text
    buffer_fits = buffer_filled (le-leb (place + room) (length buffer) fits)

    pub stored : {after : List ℕ} {next : ℕ} → Written room text place buffer after next → Stored text place buffer after next
    stored w = (w.0 ∙ place_fits, w.1 ∙ buffer_fits)

    pub written : {after : List ℕ} {next : ℕ} → Stored text place buffer after next → Written room text place buffer after next
    written s = (s.0 ∙ sym place_fits, s.1 ∙ sym buffer_fits)

-- what a writer does by its test of the room
pub ruleset room_tests = (place_moves, buffer_filled, place_stays, buffer_stays)

-- ---- one text behind another
-- in one run of stores
pub sets_append : (buffer : List ℕ) (place : ℕ) (text more : List ℕ) → sets buffer place (text ++ more) ≡ sets (sets buffer place text) (place + length text) more
sets_append buffer place [] more = ap (λ (k : ℕ). sets buffer k more) (sym (add-zero place))
sets_append buffer place (byte ∷ text) more =
    sets_append (set buffer place byte) (suc place) text more
    ∙ ap (λ (k : ℕ). sets (sets (set buffer place byte) (suc place) text) k more) (omega arith)

-- where both have room
pub then : (text more : List ℕ) (place : ℕ) (before : List ℕ) {middle after : List ℕ} {next last : ℕ} → place + length (text ++ more) ≤ length before
    → Stored text place before middle next → Past more next middle after last → Stored (text ++ more) place before after last
then text more place before {middle} {after} {next} {last} fits a b =
    let both = length-append text more in
    let kept_length : length middle ≡ length before = ap length a.1 ∙ length-sets before place text in
    let n : next ≡ place + length text = a.0 in
    let behind = stored (length more) more next middle (omega arith) b in
    (behind.0 ∙ omega arith, behind.1 ∙ rw (a.1, n) (sym (sets_append before place text more)))

-- ---- a text that is copied whole
pub copied : (buffer text : List ℕ) (place : ℕ) → place + length text ≤ length buffer → {new : List ℕ} → new ≡ text
    → put_mid place (place + length text - place) buffer new ≡ sets buffer place text
copied buffer text place fits e =
    let size : place + length text - place ≡ length text = omega arith in
    rw (size, e, sets-eq text buffer place fits, drop-drop (length text) place buffer) (sym (append_assoc (take place buffer) text (drop (place + length text) buffer)))

-- ---- a text that is stored from its end
pub sets_back : (buffer : List ℕ) (place byte : ℕ) (text : List ℕ) → sets (set buffer (place + length text) byte) place text ≡ sets buffer place (text ++ (byte ∷ []))
sets_back buffer place byte [] = ap (λ (k : ℕ). set buffer k byte) (add-zero place)
sets_back buffer place byte (first ∷ text) =
    let e : place + suc (length text) ≡ suc place + length text = omega arith in
    rw (e, set_comm buffer (suc place + length text) place byte first (λ h. omega arith)) (sets_back (set buffer place first) (suc place) byte text)
