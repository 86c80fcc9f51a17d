-- Defines the number and the detail by which each refusal of roads is reported.
use Rattle.std.specs.Prelude.{ℕ, ◌+◌, ◌*◌}
use Rattle.roads.specs.declared.RoadFault.{RoadFault}
use Rattle.roads.specs.declared.RoadFault.TheVariants.{Size, Entry, East, South, Detour}

-- the kind of the refusal
abbrev pub fault_number : RoadFault → ℕ
fault_number Size = 4
fault_number (Entry position) = 5
fault_number East = 5
fault_number South = 5
fault_number (Detour a b c) = 6

-- where it stands; the three places of a detour are digits in base 64
abbrev pub fault_detail : RoadFault → ℕ
fault_detail Size = 0
fault_detail (Entry position) = position
fault_detail East = 1
fault_detail South = 2
fault_detail (Detour a b c) = a * 4096 + b * 64 + c
