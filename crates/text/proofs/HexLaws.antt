-- Laws of hex: what a field is read as, what is written of bytes and numbers, and that it is read back. Assumes nothing.
use Prim.Native.Nat.{ℕ, zero, suc, ◌+◌, ◌*◌, ◌-◌, ◌/◌, ◌%◌, ◌^◌, ◌≤◌, ◌<◌}
use native.Mathlib.Nat.{pow-suc, pow-le-pow_right, div-lt_iff_lt-mul}
use native.Mathlib.Numerals.{add-one}
use native.Mathlib.Omega.{arith}
use mathlib.Core.Bool.{Bool, true, false, ◌&&◌, and-false}
use mathlib.Core.List.{List, [], ◌∷◌, ◌++◌, append-nil}
use mathlib.Core.Path.{◌≡◌, refl, sym, ap, ◌∙◌}
use lib.Dec.{eqb, ltb, leb, eqb→eq}
use lib.ListN.{length, get_or, take, drop, set, drop_of_length-le}
use lib.Seq.{sets, drop-cons, take_all, take-suc-set, append_snoc}
use borrow.Author.Tests.{lt-ltb, le-ltb, ltb-true, le-leb, lt-leb, eq-eqb, eqb-true, ne_eqb}
use Rattle.laws.specs.Pick.{pick}
use Rattle.laws.proofs.Below.{below}
use Rattle.laws.proofs.Picked.{on_true, on_false}
use Rattle.std.specs.Prelude.{Option, Some, None, unwrap_or}
use Rattle.std.specs.List.{list_all}
use Rattle.text.specs.Letters.{letter}
use Rattle.text.specs.Decimals.{is_digit}
use Rattle.text.specs.Hex.{digit_value, hex_digit, all_hex, bytes_of, is_hex, filled_by, hex_of, hexes_of, hex_value_from, hex_number_in, hex_digits_of}
use Rattle.text.specs.ReadBack.{AllBytes, HexBack, HexNumbersBack}
use Rattle.text.proofs.Digits.{Sums, Lasts, value_behind, length_lasts}
use Rattle.text.specs.Code.{hex_digit_in}
use Rattle.text.proofs.DecimalLaws.{both_true, picked_none, picked_some, a_digit, below_digits, above_digits}

-- ---- each way in which the code answers on a digit
module _ (byte : ℕ) where
  digit_some : {value : ℕ} → value ≡ digit_value byte → value < 16 → Some value ≡ hex_digit_in byte
  unfolding hex_digit_in
  digit_some e small = rw e (sym (on_true (lt-ltb (digit_value byte) 16 (omega arith)) _ _))

  digit_none : 16 ≡ digit_value byte → None ≡ hex_digit_in byte
  unfolding hex_digit_in
  digit_none e = sym (on_false (le-ltb (digit_value byte) 16 (omega arith)) _ _)

  pub hex_decimal : letter "0" ≤ byte → byte ≤ letter "9" → Some (byte - letter "0") ≡ hex_digit_in byte
  unfolding digit_value
  hex_decimal low high = digit_some (sym (on_true (a_digit byte low high) _ _)) (omega arith)

  pub hex_letter : letter "a" ≤ byte → byte ≤ letter "f" → Some (byte - letter "a" + 10) ≡ hex_digit_in byte
  unfolding digit_value
  hex_letter low high =
      digit_some
      (sym (on_false (above_digits byte (omega arith)) _ _ ∙ on_false (le-ltb byte (letter "a") low) _ _ ∙ on_false (le-ltb (letter "f") byte high) _ _))
      (omega arith)

  pub hex_low : byte < letter "0" → None ≡ hex_digit_in byte
  unfolding digit_value
  hex_low low = digit_none (sym (on_false (below_digits byte low) _ _ ∙ on_true (lt-ltb byte (letter "a") (omega arith)) _ _))

  pub hex_between : letter "9" < byte → byte < letter "a" → None ≡ hex_digit_in byte
  unfolding digit_value
  hex_between low high = digit_none (sym (on_false (above_digits byte low) _ _ ∙ on_true (lt-ltb byte (letter "a") high) _ _))

  pub hex_high : letter "f" < byte → None ≡ hex_digit_in byte
  unfolding digit_value
  hex_high high =
      digit_none
      (sym (on_false (above_digits byte (omega arith)) _ _ ∙ on_false (le-ltb byte (letter "a") (omega arith)) _ _ ∙ on_true (lt-ltb (letter "f") byte high) _ _))

  -- what such an answer says of the byte
  module _ {r : Option ℕ} (e : r ≡ hex_digit_in byte) where
    pub no_hex_read : r ≡ None → ltb (digit_value byte) 16 ≡ false
    unfolding hex_digit_in
    no_hex_read b = picked_none (digit_value byte) (ltb (digit_value byte) 16) (sym b ∙ e)

    pub hex_read : (digit : ℕ) → r ≡ Some digit → (ltb (digit_value byte) 16 ≡ true) × (digit ≡ digit_value byte) × (digit < 16)
    unfolding hex_digit_in
    hex_read digit b =
        let was = picked_some (digit_value byte) (ltb (digit_value byte) 16) digit (sym b ∙ e) in
        (was.0, sym was.1, omega (arith, was.1, ltb-true (digit_value byte) 16 was.0))

pub ruleset hex_digits = (hex_decimal, hex_letter, hex_low, hex_between, hex_high)

-- what stands for no digit is 16, as in the definition of a digit's value
or_step : (t : Bool) (value : ℕ) → ltb value 16 ≡ t → ltb (unwrap_or (pick t (Some value) None) 16) 16 ≡ t
unfolding pick
or_step true value e = e
or_step false value e = refl

pub all_below : (field : List ℕ) → list_all (λ byte. ltb (unwrap_or (hex_digit_in byte) 16) 16) field ≡ all_hex field
unfolding all_hex hex_digit_in
all_below [] = refl
all_below (byte ∷ field) = rw (or_step (ltb (digit_value byte) 16) (digit_value byte) refl, all_below field)

-- ---- a turn of the loop over the digits
module _ (f : List ℕ) (i : ℕ) where
  pub hex_on : i < length f → {t : Bool} → ltb (digit_value (get_or f i 0)) 16 ≡ t → all_hex (drop i f) ≡ (t && all_hex (drop (i + 1) f))
  unfolding all_hex
  hex_on h e = rw (drop-cons f i 0, e, add-one i)

  pub hex_end : length f ≤ i → all_hex (drop i f) ≡ true
  unfolding all_hex
  hex_end h = rw drop_of_length-le

-- ---- the digits of so many bytes
module _ (count : ℕ) (f : List ℕ) where
  pub other_length : (length f ≡ 2 * count → ⊥) → false ≡ is_hex count f
  unfolding is_hex
  other_length n = sym (rw (ne_eqb (length f) (2 * count) n))

  pub right_length : length f ≡ 2 * count → all_hex f ≡ is_hex count f
  unfolding is_hex
  right_length e = sym (rw (eq-eqb (length f) (2 * count) e))

  pub hex_says : is_hex count f ≡ true → (length f ≡ 2 * count) × (all_hex f ≡ true)
  unfolding is_hex
  hex_says t = let parts = both_true (eqb (length f) (2 * count)) (all_hex f) t in (eqb-true _ _ parts.0, parts.1)

pub length_bytes : (f : List ℕ) → length (bytes_of f) ≡ length f / 2
unfolding bytes_of
length_bytes [] = refl
length_bytes (top ∷ []) = refl
length_bytes (top ∷ (low ∷ f)) = omega (arith, length_bytes f)

-- ---- a turn of the loop over the pairs of digits
-- a digit that is one
pub known_digit : (byte : ℕ) {r : Option ℕ} → r ≡ hex_digit_in byte → digit_value byte < 16 → r ≡ Some (digit_value byte)
unfolding hex_digit_in
known_digit byte e small = e ∙ on_true (lt-ltb (digit_value byte) 16 small) _ _

-- and what is computed in place of its value if it were none
pub known_value : (byte : ℕ) {r : Option ℕ} → r ≡ hex_digit_in byte → digit_value byte < 16 → (value : ℕ) → value ≡ unwrap_or r 16 → value ≡ digit_value byte
known_value byte e small value v = v ∙ ap (λ (r : Option ℕ). unwrap_or r 16) (known_digit byte e small)

pair : (h : List ℕ) (i : ℕ) → 2 * i + 1 < length h → drop (2 * i) h ≡ get_or h (2 * i) 0 ∷ (get_or h (2 * i + 1) 0 ∷ drop (2 * (i + 1)) h)
pair h i more =
    let e : 2 * (i + 1) ≡ suc (2 * i + 1) = omega arith in
    let l : 2 * i < length h = omega arith in
    rw (e, drop-cons h (2 * i) 0, ← add-one (2 * i), drop-cons h (2 * i + 1) 0)

bytes_pair : (top low : ℕ) (rest : List ℕ) → bytes_of (top ∷ (low ∷ rest)) ≡ (digit_value top * 16 + digit_value low) ∷ bytes_of rest
unfolding bytes_of
bytes_pair top low rest = refl

module _ (h : List ℕ) (i : ℕ) (more : 2 * i + 1 < length h) where
  pub bytes_on : (top low : ℕ) → top ≡ digit_value (get_or h (2 * i) 0) → low ≡ digit_value (get_or h (2 * i + 1) 0)
      → (s : List ℕ) → i < length s → take i s ++ bytes_of (drop (2 * i) h) ≡ bytes_of h
      → take (i + 1) (set s i (top * 16 + low)) ++ bytes_of (drop (2 * (i + 1)) h) ≡ bytes_of h
  bytes_on top low et el s here e =
      rw (add-one i, take-suc-set s i (top * 16 + low), append_snoc, et, el) (rw (pair h i more, bytes_pair, add-one i) at e)

  module _ (e : all_hex (drop (2 * i) h) ≡ true) where
    pair_says : (digit_value (get_or h (2 * i) 0) < 16) × (digit_value (get_or h (2 * i + 1) 0) < 16) × (all_hex (drop (2 * (i + 1)) h) ≡ true)
    unfolding all_hex
    pair_says =
        let all = both_true _ _ (rw (pair h i more) at e) in
        let low = both_true _ _ all.1 in
        (ltb-true _ 16 all.0, ltb-true _ 16 low.0, low.1)

    pub top_small : digit_value (get_or h (2 * i) 0) < 16
    top_small = pair_says.0

    pub low_small : digit_value (get_or h (2 * i + 1) 0) < 16
    low_small = pair_says.1

    pub still_hex : all_hex (drop (2 * (i + 1)) h) ≡ true
    still_hex = pair_says.2

pub all_spelled : (h s : List ℕ) (i : ℕ) → length s ≤ i → length h ≡ 2 * length s → take i s ++ bytes_of (drop (2 * i) h) ≡ bytes_of h → s ≡ bytes_of h
unfolding bytes_of
all_spelled h s i all len took =
    let none : drop (2 * i) h ≡ [] = drop_of_length-le h {i = 2 * i} (omega arith) in
    sym (take_all i s all) ∙ sym (append-nil (take i s)) ∙ ap (λ (l : List ℕ). take i s ++ bytes_of l) (sym none) ∙ took

-- ---- each way in which the code answers on a buffer that is filled whole
module _ (f b : List ℕ) where
  pub not_filled : {r : Bool} → r ≡ is_hex (length b) f → r ≡ false → (false ≡ is_hex (length b) f) × (b ≡ filled_by f b)
  unfolding filled_by
  not_filled {r} e t = let other = sym e ∙ t in (sym other, sym (on_false other _ _))

  pub is_filled : {r : Bool} → r ≡ is_hex (length b) f → r ≡ true → {after : List ℕ} → after ≡ bytes_of f → (true ≡ is_hex (length b) f) × (after ≡ filled_by f b)
  unfolding filled_by
  is_filled {r} e t s = let hex = sym e ∙ t in (sym hex, s ∙ sym (on_true hex _ _))

-- ---- each way in which the code answers on a number of so many digits
pub hexes : Sums 16 digit_value hex_value_from
unfolding hex_value_from
hexes = record { none = λ n. refl; next = λ n byte text. refl }

module _ (width : ℕ) (f : List ℕ) where
  no_hex : (leb width 16 && eqb (length f) width && all_hex f) ≡ false → None ≡ hex_number_in width f
  unfolding hex_number_in
  no_hex e = sym (on_false e _ _)

  pub hex_wide : 16 < width → None ≡ hex_number_in width f
  hex_wide h = no_hex (rw (lt-leb width 16 h))

  pub hex_other : (length f ≡ width → ⊥) → None ≡ hex_number_in width f
  hex_other n = no_hex (rw (ne_eqb (length f) width n, and-false (leb width 16)))

  pub hex_odd : all_hex f ≡ false → None ≡ hex_number_in width f
  hex_odd e = no_hex (rw e (and-false (leb width 16 && eqb (length f) width)))

  pub hex_number : width ≤ 16 → length f ≡ width → all_hex f ≡ true → (n : ℕ) → n ≡ hex_value_from 0 f → Some n ≡ hex_number_in width f
  unfolding hex_number_in
  hex_number small len all n e =
      ap Some e ∙ sym (on_true (rw (le-leb width 16 small, eq-eqb (length f) width len, all)) _ _)

-- i digits come to less than 16 ^ i
pub hexes_below : (i n d : ℕ) → n < 16 ^ i → d ≤ 15 → n * 16 + d < 16 ^ (i + 1)
hexes_below i n d h l = rw (add-one i, pow-suc) (omega arith)

-- one digit more than fifteen has room in 64 bits
pub fifteen : (i n : ℕ) → i < 16 → n < 16 ^ i → n < 16 ^ 15
fifteen i n h l = let few : i ≤ 15 = omega arith in let more : 16 ^ i ≤ 16 ^ 15 = pow-le-pow_right {n = 16} (omega arith) few in omega arith

-- ---- bytes, written two digits each
pub length_hexes : (s : List ℕ) → length (hexes_of s) ≡ 2 * length s
unfolding hexes_of hex_of
length_hexes [] = refl
length_hexes (b ∷ s) = omega (arith, length_hexes s)

module _ (buffer all bytes : List ℕ) (end i : ℕ) where
  pub hexes_on : {top low : ℕ} → i < length bytes → top ≡ hex_digit (get_or bytes i 0 / 16) → low ≡ hex_digit (get_or bytes i 0 % 16)
      → sets buffer end (hexes_of (drop i bytes)) ≡ all → sets (set (set buffer end top) (end + 1) low) (end + 2) (hexes_of (drop (i + 1) bytes)) ≡ all
  unfolding hexes_of hex_of
  hexes_on h t l e =
      let two : end + 2 ≡ suc (suc end) = omega arith in
      rw (t, l, two, add-one end, add-one i) (ap (λ (r : List ℕ). sets buffer end (hexes_of r)) (sym (drop-cons bytes i 0 h)) ∙ e)

  pub hexes_end : length bytes ≤ i → sets buffer end (hexes_of (drop i bytes)) ≡ all → buffer ≡ all
  unfolding hexes_of
  hexes_end h e = ap (λ (r : List ℕ). sets buffer end (hexes_of r)) (sym (drop_of_length-le bytes h)) ∙ e

-- ---- the last digits of a number
pub last_hexes : Lasts 16 (λ n. hex_digit (n % 16)) hex_digits_of
unfolding hex_digits_of
last_hexes = record { none = λ n. refl; more = λ count n. refl }

pub length_hex_digits : (width n : ℕ) → length (hex_digits_of width n) ≡ width
length_hex_digits = length_lasts last_hexes

-- ---- what is written is read back
digit_back : (n : ℕ) → n < 16 → digit_value (hex_digit n) ≡ n
unfolding digit_value is_digit hex_digit pick
digit_back n h = eqb→eq _ _ (below (λ n. eqb (digit_value (hex_digit n)) n) 16 tt n h)

module _ (b : ℕ) (h : b < 256) where
  top_back : digit_value (hex_digit (b / 16)) ≡ b / 16
  top_back = digit_back (b / 16) (omega arith)

  low_back : digit_value (hex_digit (b % 16)) ≡ b % 16
  low_back = digit_back (b % 16) (omega arith)

pub hexes_hex : (s : List ℕ) → AllBytes s → all_hex (hexes_of s) ≡ true
unfolding all_hex hexes_of hex_of
hexes_hex [] h = refl
hexes_hex (b ∷ s) h =
    rw (
      top_back b (h 0),
      low_back b (h 0),
      lt-ltb (b / 16) 16 (omega (arith, h 0)),
      lt-ltb (b % 16) 16 (omega arith),
      hexes_hex s (λ i. h (suc i)),
    )

pub hexes_bytes : (s : List ℕ) → AllBytes s → bytes_of (hexes_of s) ≡ s
unfolding bytes_of hexes_of hex_of
hexes_bytes [] h = refl
hexes_bytes (b ∷ s) h =
    let whole : b / 16 * 16 + b % 16 ≡ b = omega arith in
    rw (top_back b (h 0), low_back b (h 0), whole, hexes_bytes s (λ i. h (suc i)))

pub hex_back : HexBack
hex_back bytes buffer h len =
    let hex = sym (right_length (length buffer) (hexes_of bytes) (omega (arith, length_hexes bytes, len))) ∙ hexes_hex bytes h in
    (hex, sym (is_filled (hexes_of bytes) buffer (sym hex) refl (sym (hexes_bytes bytes h))).1)

hex_behind : (digit : ℕ) (text : List ℕ) → digit_value digit < 16 → all_hex text ≡ true → all_hex (text ++ (digit ∷ [])) ≡ true
unfolding all_hex
hex_behind digit [] d e = rw (lt-ltb (digit_value digit) 16 d)
hex_behind digit (byte ∷ text) d e =
    let parts = both_true (ltb (digit_value byte) 16) (all_hex text) e in rw parts.0 (hex_behind digit text d parts.1)

last_value : (n : ℕ) → digit_value (hex_digit (n % 16)) ≡ n % 16
last_value n = digit_back (n % 16) (omega arith)

digits_hex : (width n : ℕ) → all_hex (hex_digits_of width n) ≡ true
unfolding all_hex
digits_hex zero n = ap all_hex (last_hexes.none n)
digits_hex (suc width) n =
    ap all_hex (last_hexes.more width n)
    ∙ hex_behind (hex_digit (n % 16)) (hex_digits_of width (n / 16)) (omega (arith, last_value n)) (digits_hex width (n / 16))

digits_value : (width n : ℕ) → n < 16 ^ width → hex_value_from 0 (hex_digits_of width n) ≡ n
digits_value zero n h = ap (hex_value_from 0) (last_hexes.none n) ∙ hexes.none 0 ∙ omega arith
digits_value (suc width) n h =
    let front : n / 16 < 16 ^ width = (div-lt_iff_lt-mul {k = 16} {x = n} {y = 16 ^ width} (omega arith)).1 (rw pow-suc at h) in
    ap (hex_value_from 0) (last_hexes.more width n)
    ∙ value_behind hexes 0 (hex_digit (n % 16)) (hex_digits_of width (n / 16))
    ∙ omega (arith, digits_value width (n / 16) front, last_value n)

pub hex_numbers_back : HexNumbersBack
hex_numbers_back width n small h =
    sym (hex_number width (hex_digits_of width n) small (length_hex_digits width n) (digits_hex width n) n (sym (digits_value width n h)))
