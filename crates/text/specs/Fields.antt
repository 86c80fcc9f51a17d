-- Defines how a line falls into fields at its commas. A line is the list of its bytes.
use Rattle.std.specs.Prelude.{◌≡◌, ℕ, cond, ◌≢◌, List, [], ◌∷◌, ◌++◌, drop, Some, None, Option, ◌==◌}
use Rattle.std.specs.List.{AllByRecursion, slice_split}
use Rattle.text.specs.declared.Rest.{Rest}

-- The byte that parts fields.
abbrev pub comma : ℕ
comma = 44

-- The bytes that are left of a line from a place on.
abbrev pub bytes_left : Rest → List ℕ
bytes_left rest = drop rest.place rest.line.now

-- The first field: the bytes before the first comma, or all of them.
abbrev pub field_of : List ℕ → List ℕ
field_of [] = []
field_of (b ∷ bs) = cond (b == comma) [] (b ∷ field_of bs)

-- What follows the first comma, if there is one.
abbrev pub rest_of : List ℕ → Option (List ℕ)
rest_of [] = None
rest_of (b ∷ bs) = cond (b == comma) (Some bs) (rest_of bs)

-- All fields of a line, in order: one more than it has commas.
abbrev pub fields : List ℕ → List (List ℕ)
fields line = slice_split (λ b. b == comma) line

-- The fields of a rest: none where there is no rest, one or more where there is one, be it empty.
abbrev pub fields_left : Option (List ℕ) → List (List ℕ)
fields_left None = []
fields_left (Some bs) = fields bs

-- The fields, each with a comma in front.
abbrev pub after_commas : List (List ℕ) → List ℕ
after_commas [] = []
after_commas (f ∷ fs) = comma ∷ (f ++ after_commas fs)

-- The fields with a comma between each two.
abbrev pub comma_joined : List (List ℕ) → List ℕ
comma_joined [] = []
comma_joined (f ∷ fs) = f ++ after_commas fs

-- A line is these fields, at least one, with commas between them and none inside.
pub record Parted (line : List ℕ) (fs : List (List ℕ)) : Type 0 where
  pub some : fs ≢ []
  pub joins : comma_joined fs ≡ line
  pub comma_free : AllByRecursion (AllByRecursion (λ b. b ≢ comma)) fs

-- A line is parted into its fields, and in no other way.
pub record PartsOneWay (line : List ℕ) : Type 0 where
  pub parted : Parted line (fields line)
  pub only : (fs : List (List ℕ)) → Parted line fs → fs ≡ fields line
