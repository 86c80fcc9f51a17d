-- What every hold keeps.
use Rattle.std.specs.Prelude.{ℕ, ◌+◌, ◌*◌, Bool, ◌&&◌, nat_le}

-- eight seats, of which a wheelchair takes two, and two anchors for wheelchairs
abbrev pub seating_room : ℕ → ℕ → Bool
seating_room seats wheelchairs = nat_le (seats + 2 * wheelchairs) 8 && nat_le wheelchairs 2

-- 6,000 litres and 900 kilograms
abbrev pub cargo_room : ℕ → ℕ → Bool
cargo_room litres kilograms = nat_le litres 6000 && nat_le kilograms 900
