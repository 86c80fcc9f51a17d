-- Defines the trips of a grid of streets, and which fault refuses the numbers given for one.
use Rattle.std.specs.Prelude.{ℕ, ◌+◌, ◌-◌, ◌*◌, ◌/◌, ◌%◌, Bool, cond, not, ◌&&◌, Some, None, Option, nat_le}
use Rattle.roads.specs.declared.RoadFault.{RoadFault}
use Rattle.roads.specs.declared.RoadFault.TheVariants.{Size, East, South}

-- how far apart two numbers are
abbrev pub apart : ℕ → ℕ → ℕ
apart a b = (a - b) + (b - a)

-- the seconds from a to b, each numbered row * columns + column:
-- `east` for each column apart and `south` for each row apart
abbrev pub grid_trip : ℕ → ℕ → ℕ → ℕ → ℕ → ℕ
grid_trip columns east south a b =
    east * apart (a % columns) (b % columns) + south * apart (a / columns) (b / columns)

-- n is 1 to most
abbrev pub up_to : ℕ → ℕ → Bool
up_to most n = nat_le 1 n && nat_le n most

-- the first fault of the numbers given for a grid: of its size, its steps east, its steps south
abbrev pub grid_fault : ℕ → ℕ → ℕ → ℕ → Option RoadFault
grid_fault columns rows east south =
    cond (not (up_to 64 (columns * rows))) (Some Size)
    (cond (not (up_to 200 east)) (Some East)
    (cond (not (up_to 200 south)) (Some South) None))
