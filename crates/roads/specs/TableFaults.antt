-- Defines which fault refuses a table, and says that it is the only one.
use Rattle.std.specs.Prelude.{◌≡◌, ℕ, List, length}
use Rattle.roads.specs.declared.RoadFault.{RoadFault}
use Rattle.roads.specs.declared.RoadFault.TheVariants.{Size, Entry, East, South, Detour}
use Rattle.roads.specs.Tables.{Square, NoneBad, FirstBad, FirstShortcut, LawfulTable, table_trip}

-- the fault is the table's first: its size counts first, then its entries, then its shortcuts
abbrev pub Refuses : ℕ → List ℕ → RoadFault → Type 0
Refuses places seconds Size = Square places seconds → ⊥
Refuses places seconds (Entry position) = Square places seconds × FirstBad places seconds position
Refuses places seconds East = ⊥
Refuses places seconds South = ⊥
Refuses places seconds (Detour a b c) =
    Square places seconds × NoneBad places seconds (length seconds) × FirstShortcut places (table_trip places seconds) a b c

-- no two faults refuse one table
abbrev pub OneFault : ℕ → List ℕ → Type 0
OneFault places seconds = (f g : RoadFault) → Refuses places seconds f → Refuses places seconds g → f ≡ g

-- no fault refuses a lawful table
abbrev pub NoFault : ℕ → List ℕ → Type 0
NoFault places seconds = (f : RoadFault) → Refuses places seconds f → LawfulTable places seconds → ⊥
