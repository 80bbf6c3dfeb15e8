-- Document 01, "The bench reader": the fields of a text, and how they are joined. A text is its bytes. Assumes nothing.
use Rattle.std.specs.Prelude.{ℕ, suc, List, [], ◌∷◌, ◌++◌, eqb, length, get_or}
use Rattle.laws.specs.Pick.{pick}

-- one byte more in front of the first part
unfoldable pub grow : ℕ → List (List ℕ) → List (List ℕ)
grow byte [] = (byte ∷ []) ∷ []
grow byte (part ∷ parts) = (byte ∷ part) ∷ parts

-- Every mark parts the text. `none` is the list of parts that an empty text has.
unfoldable pub parted_at : ℕ → List (List ℕ) → List ℕ → List (List ℕ)
parted_at mark none [] = none
parted_at mark none (byte ∷ bytes) = pick (eqb byte mark) ([] ∷ parted_at mark none bytes) (grow byte (parted_at mark none bytes))

-- ---- reading
-- A mark stands between each two fields, so an empty text has one field, which is empty.
abbrev pub fields_at : ℕ → List ℕ → List (List ℕ)
fields_at mark text = parted_at mark ([] ∷ []) text

-- how many fields the text has
abbrev pub count_at : ℕ → List ℕ → ℕ
count_at mark text = length (fields_at mark text)

-- field n, counted from 0; a field that isn't there reads as an empty one
abbrev pub field_at : ℕ → ℕ → List ℕ → List ℕ
field_at mark n text = get_or (fields_at mark text) n []

-- how many bytes stand before the first mark, or in the whole text if it has none
unfoldable pub bytes_before : ℕ → List ℕ → ℕ
bytes_before mark [] = 0
bytes_before mark (byte ∷ bytes) = pick (eqb byte mark) 0 (suc (bytes_before mark bytes))

-- ---- writing
-- the fields with a mark between each two
unfoldable pub joined_by : ℕ → List (List ℕ) → List ℕ
joined_by mark [] = []
joined_by mark (field ∷ []) = field
joined_by mark (field ∷ next ∷ rest) = field ++ (mark ∷ joined_by mark (next ∷ rest))
