-- Defines the places and the trips of roads of either kind.
use Rattle.std.specs.Prelude.{ℕ}
use Rattle.roads.specs.declared.any.AnyRoads.{AnyRoads}
use Rattle.roads.specs.declared.any.AnyRoads.TheVariants.{Table, Grid}
use Rattle.roads.specs.GridOf.{grid_places, grid_seconds}
use Rattle.roads.specs.TableOf.{table_places, table_seconds}

-- how many places there are
abbrev pub any_places : AnyRoads → ℕ
any_places (Table t) = table_places t
any_places (Grid g) = grid_places g

-- the seconds between two places
abbrev pub any_seconds : AnyRoads → ℕ → ℕ → ℕ
any_seconds (Table t) = table_seconds t
any_seconds (Grid g) = grid_seconds g
