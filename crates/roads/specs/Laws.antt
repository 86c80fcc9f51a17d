-- Shows that a table and a grid, by what their types keep, are lawful roads.
use Rattle.roads.specs.Roads.{Lawful}
use Rattle.roads.specs.declared.grid.Grid.{Grid}
use Rattle.roads.specs.declared.table.RoadTable.{RoadTable}
use Rattle.roads.specs.GridOf.{grid_places, grid_seconds}
use Rattle.roads.specs.TableOf.{table_places, table_seconds}
use Rattle.roads.specs.GridsLemmas.{grid_lawful}

-- the laws of a table are its ghost fields
pub lawful_table : (t : RoadTable) → Lawful (table_places t) (table_seconds t)
lawful_table t = record {
  few = t.few;
  short = λ a b p q. t.short a b (p, q);
  here = t.here;
  direct = λ a b c p q r. t.direct a b c (p, q, r);
}

-- the laws of a grid follow from its size and its steps
pub lawful_grid : (g : Grid) → Lawful (grid_places g) (grid_seconds g)
lawful_grid g =
    grid_lawful g.columns g.rows g.east g.south g.few.0 g.few.1 (g.east_step.1, g.south_step.1)
