-- Parcels: figures, promise and hold.
use Rattle.std.specs.Prelude.{ℕ, ◌+◌, Bool, ◌&&◌, List, [], ◌∷◌, Option, Result, nat_le}
use Rattle.stowage.specs.Figures.{week, figure, judged, when}
use Rattle.stowage.specs.Limits.{cargo_room}
use Rattle.stowage.specs.declared.BadFigure.{BadFigure}
use Rattle.stowage.specs.declared.Load.{Load}
use Rattle.stowage.specs.declared.Promise.{Promise}
use Rattle.stowage.specs.declared.cargo.Cargo.{Cargo}

-- the hold with so many litres and kilograms, if they keep the limits
abbrev pub lifted : ℕ → ℕ → Option Cargo
lifted litres kilograms = when (cargo_room litres kilograms) (λ room. record { litres = litres; kilograms = kilograms; room = room })

-- the empty hold
abbrev pub bare : Cargo
bare = record { litres = 0; kilograms = 0; room = tt }

-- a load is litres and kilograms, and fits where the sums do
abbrev pub lift : Cargo → Load → Option Cargo
lift h l = lifted (h.litres + l.first) (h.kilograms + l.second)

-- litres, kilograms, and the openings and closings of pickup and drop-off, each in its range
abbrev pub parcel_tests : List ℕ → List Bool
parcel_tests f =
    (nat_le 1 (figure 1 f) && nat_le (figure 1 f) 6000)
    ∷ (nat_le 1 (figure 2 f) && nat_le (figure 2 f) 900)
    ∷ nat_le (figure 3 f) week
    ∷ (nat_le (figure 3 f) (figure 4 f) && nat_le (figure 4 f) week)
    ∷ nat_le (figure 5 f) week
    ∷ (nat_le (figure 5 f) (figure 6 f) && nat_le (figure 6 f) week)
    ∷ []

-- litres and kilograms in the windows that were asked for; a parcel may ride all week
abbrev pub parcel_promise : List ℕ → ℕ → Result Promise BadFigure
parcel_promise f direct = judged 1 (parcel_tests f) (record {
  load = record { first = figure 1 f; second = figure 2 f };
  pickup = record { opens = figure 3 f; closes = figure 4 f };
  dropoff = record { opens = figure 5 f; closes = figure 6 f };
  ride_limit = week;
})
