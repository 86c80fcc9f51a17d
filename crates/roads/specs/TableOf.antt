-- Defines what is known of a table of roads: its places, its trips, and what it was made of.
use Rattle.std.specs.Prelude.{◌≡◌, ℕ, List, vec_items}
use Rattle.roads.specs.declared.table.RoadTable.{RoadTable}
use Rattle.roads.specs.Tables.{LawfulTable, table_trip}

-- how many places a table has
abbrev pub table_places : RoadTable → ℕ
table_places t = t.places

-- the entries of a table, row by row
abbrev pub table_entries : RoadTable → List ℕ
table_entries t = vec_items t.seconds

-- the seconds between two places of a table
abbrev pub table_seconds : RoadTable → ℕ → ℕ → ℕ
table_seconds t = table_trip t.places (table_entries t)

-- the numbers make a lawful table, and t is the table of them
pub record TableOf (places : ℕ) (seconds : List ℕ) (t : RoadTable) : Type 0 where
  pub lawful : LawfulTable places seconds
  pub same_places : table_places t ≡ places
  pub same_entries : table_entries t ≡ seconds
