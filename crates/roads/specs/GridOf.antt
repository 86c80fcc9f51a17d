-- Defines what is known of a grid: its places, its trips, and the numbers that it was made of.
use Rattle.std.specs.Prelude.{◌≡◌, ℕ, ◌*◌, None}
use Rattle.roads.specs.declared.grid.Grid.{Grid}
use Rattle.roads.specs.Grids.{grid_trip, grid_fault}

-- the numbers that a grid was made of
abbrev pub grid_columns : Grid → ℕ
grid_columns g = g.columns

abbrev pub grid_rows : Grid → ℕ
grid_rows g = g.rows

abbrev pub grid_east : Grid → ℕ
grid_east g = g.east

abbrev pub grid_south : Grid → ℕ
grid_south g = g.south

-- how many places a grid has
abbrev pub grid_places : Grid → ℕ
grid_places g = g.columns * g.rows

-- the seconds between two places of a grid
abbrev pub grid_seconds : Grid → ℕ → ℕ → ℕ
grid_seconds g = grid_trip g.columns g.east g.south

-- the numbers have no fault, and g is the grid of them
pub record GridOf (columns rows east south : ℕ) (g : Grid) : Type 0 where
  pub sound : grid_fault columns rows east south ≡ None
  pub same_columns : g.columns ≡ columns
  pub same_rows : g.rows ≡ rows
  pub same_east : g.east ≡ east
  pub same_south : g.south ≡ south
