-- Defines what a line of the day asks for.
use Rattle.std.specs.Prelude.{ℕ, ◌+◌, cond, List, [], ◌∷◌, length, Some, None, codes, Option, ◌==◌, slice_index, option_map, option_and_then, unwrap_or}
use Rattle.std.specs.Str.{bytes_eq}
use Rattle.text.specs.Fields.{field_of, rest_of}
use Rattle.text.specs.Numbers.{numbers_of}
use Rattle.console.specs.declared.command.Rule.{Rule}
use Rattle.console.specs.declared.command.Rule.TheVariants.{Passengers, Parcels}
use Rattle.console.specs.declared.command.Word.{Word}
use Rattle.console.specs.declared.command.Word.TheVariants as word

-- what a line may ask for
pub data Asked : Type 0 where
  nothing : Asked
  unclear : Asked
  table : (places : ℕ) → (seconds : List ℕ) → Asked
  grid : (columns rows east south : ℕ) → Asked
  rule : Rule → Asked
  quote : (from to : ℕ) → (figures : List ℕ) → Asked

-- the word that a field is, if it is one
abbrev pub word_of : List ℕ → Option Word
word_of field =
    cond (bytes_eq field (codes "table")) (Some word.Table)
    (cond (bytes_eq field (codes "grid")) (Some word.Grid)
    (cond (bytes_eq field (codes "rule")) (Some word.Rule)
    (cond (bytes_eq field (codes "quote")) (Some word.Quote)
    None)))

-- the rule of that name, if there is one
abbrev pub rule_of : List ℕ → Option Rule
rule_of name =
    cond (bytes_eq name (codes "passengers")) (Some Passengers)
    (cond (bytes_eq name (codes "parcels")) (Some Parcels)
    None)

-- the six figures from a position on
abbrev pub figures_at : ℕ → List ℕ → List ℕ
figures_at i n = slice_index n i ∷ slice_index n (i + 1) ∷ slice_index n (i + 2) ∷ slice_index n (i + 3) ∷ slice_index n (i + 4) ∷ slice_index n (i + 5) ∷ []

-- what so many numbers ask for, and no other count of them
abbrev pub exactly : {A : Type 0} → ℕ → List ℕ → A → Option A
exactly count n ask = cond (length n == count) (Some ask) None

-- a number of places, and the seconds from each to each
abbrev pub as_table : List ℕ → Option Asked
as_table [] = None
as_table (places ∷ seconds) = Some (table places seconds)

-- columns and rows, and the seconds to the next of each
abbrev pub as_grid : List ℕ → Option Asked
as_grid n = exactly 4 n (grid (slice_index n 0) (slice_index n 1) (slice_index n 2) (slice_index n 3))

-- two places and six figures
abbrev pub as_quote : List ℕ → Option Asked
as_quote n = exactly 8 n (quote (slice_index n 0) (slice_index n 1) (figures_at 2 n))

-- the rule's name
abbrev pub as_rule : Option (List ℕ) → Option Asked
as_rule rest = option_map rule (option_and_then rule_of rest)

-- what a word asks for with the fields after it, if they are understood
abbrev pub worded : Word → Option (List ℕ) → Option Asked
worded word.Table rest = option_and_then as_table (numbers_of rest)
worded word.Grid rest = option_and_then as_grid (numbers_of rest)
worded word.Rule rest = as_rule rest
worded word.Quote rest = option_and_then as_quote (numbers_of rest)

-- what the first field asks for with the fields after it, if it is a word
abbrev pub headed : Option Word → Option (List ℕ) → Option Asked
headed None rest = None
headed (Some w) rest = worded w rest

-- an empty line, and one that begins with '#', asks for nothing; one that is not understood is unclear
abbrev pub asked : List ℕ → Asked
asked [] = nothing
asked (b ∷ bs) = cond (b == 35) nothing (unwrap_or (headed (word_of (field_of (b ∷ bs))) (rest_of (b ∷ bs))) unclear)
