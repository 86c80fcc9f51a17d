-- Passengers: figures, promise and hold.
use Rattle.std.specs.Prelude.{ℕ, ◌+◌, ◌*◌, ◌/◌, min, Bool, ◌&&◌, List, [], ◌∷◌, Option, Result, nat_le, nat_lt}
use Rattle.stowage.specs.Figures.{week, figure, judged, when}
use Rattle.stowage.specs.Limits.{seating_room}
use Rattle.stowage.specs.declared.BadFigure.{BadFigure}
use Rattle.stowage.specs.declared.Load.{Load}
use Rattle.stowage.specs.declared.Promise.{Promise}
use Rattle.stowage.specs.declared.seating.Seating.{Seating}

-- the hold with so many seats and wheelchairs taken, if they keep the limits
abbrev pub seated : ℕ → ℕ → Option Seating
seated seats wheelchairs = when (seating_room seats wheelchairs) (λ room. record { seats = seats; wheelchairs = wheelchairs; room = room })

-- the empty hold
abbrev pub vacant : Seating
vacant = record { seats = 0; wheelchairs = 0; room = tt }

-- a load is seats and wheelchairs, and fits where the sums do
abbrev pub seat : Seating → Load → Option Seating
seat h l = seated (h.seats + l.first) (h.wheelchairs + l.second)

-- the direct road, no longer than the longest trip, and its detour in percent, rounded down
abbrev pub ride_limit : ℕ → ℕ → ℕ
ride_limit direct percent = min direct 14400 + min direct 14400 * percent / 100

-- seats, wheelchairs, ready, wait, detour percent and latest arrival, each in its range
abbrev pub passenger_tests : List ℕ → List Bool
passenger_tests f =
    nat_le (figure 1 f) 8
    ∷ (nat_le (figure 2 f) 2 && nat_lt 0 (figure 1 f + figure 2 f))
    ∷ nat_le (figure 3 f) week
    ∷ (nat_le (figure 4 f) 7200 && nat_le (figure 3 f + figure 4 f) week)
    ∷ nat_le (figure 5 f) 300
    ∷ nat_le (figure 6 f) week
    ∷ []

-- seats and wheelchairs are picked up from ready on, so long as they wait, and arrive by the latest arrival
abbrev pub passenger_promise : List ℕ → ℕ → Result Promise BadFigure
passenger_promise f direct = judged 1 (passenger_tests f) (record {
  load = record { first = figure 1 f; second = figure 2 f };
  pickup = record { opens = figure 3 f; closes = figure 3 f + figure 4 f };
  dropoff = record { opens = 0; closes = figure 6 f };
  ride_limit = ride_limit direct (figure 5 f);
})
