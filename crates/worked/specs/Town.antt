-- The town of the worked examples: four places in a row, 100 seconds apart, its two rules, and bookings in it.
use Rattle.std.specs.Prelude.{ℕ, List, [], ◌∷◌}
use Rattle.roads.specs.Grids.{grid_trip}
use Rattle.stowage.specs.Parcels.{lift, bare}
use Rattle.stowage.specs.Passengers.{seat, vacant}
use Rattle.stowage.specs.declared.cargo.Cargo.{Cargo}
use Rattle.stowage.specs.declared.seating.Seating.{Seating}
use Rattle.orders.specs.Rules.{Rules}
use Rattle.orders.specs.Walks.{Walk, van}
use Rattle.orders.specs.declared.Booking.{Booking}
use Rattle.orders.specs.declared.Booking.TheVariants.{Waiting, Aboard}
use Rattle.orders.specs.declared.Journey.{Journey}
use Rattle.orders.specs.declared.Stop.{Stop}

-- what the vans carry
pub data Trade : Type 0 where
  passengers : Trade
  parcels : Trade

-- the grid of four columns and one row, with steps of 100 seconds
abbrev pub town : Trade → Rules
town passengers = record { Hold = Seating; places = 4; trip = grid_trip 4 100 1; empty = vacant; stow = seat }
town parcels = record { Hold = Cargo; places = 4; trip = grid_trip 4 100 1; empty = bare; stow = lift }

abbrev pub stop_at : ℕ → ℕ → ℕ → Stop
stop_at place opens closes = record { place = place; window = record { opens = opens; closes = closes } }

-- a rider to a place, to arrive by 3,600, with a ride of 150 seconds at most
abbrev pub ride_to : ℕ → ℕ → Journey
ride_to number to = record { number = number; dropoff = stop_at to 0 3600; load = record { first = 1; second = 0 }; ride_limit = 150 }

-- a rider who waits at a place until 600
abbrev pub rider : ℕ → ℕ → ℕ → Booking
rider number from to = Waiting (stop_at from 0 600) (ride_to number to)

-- booking 7 from 1 to 2, and booking 8 from 2 to 1
abbrev pub seven : Booking
seven = rider 7 1 2

abbrev pub eight : Booking
eight = rider 8 2 1

-- a group that fills the van
abbrev pub group : ℕ → ℕ → ℕ → Booking
group number from to = Waiting (stop_at from 0 3600)
    (record { number = number; dropoff = stop_at to 0 3600; load = record { first = 8; second = 0 }; ride_limit = 3600 })

-- a parcel at 1 for 2 that can be picked up from 500 on
abbrev pub parcel : Booking
parcel = Waiting (stop_at 1 500 1000)
    (record { number = 9; dropoff = stop_at 2 0 3600; load = record { first = 40; second = 12 }; ride_limit = 604800 })

-- van 1 at place 0 and second 0, with these bookings
abbrev pub van_one : List Booking → Walk
van_one = van 0 0 0

-- van 1 at place 1, 100 seconds later, where 7 has been picked up
abbrev pub after_pickup : Walk
after_pickup = van 1 100 100 (Aboard 100 (ride_to 7 2) ∷ eight ∷ [])

-- van 1 at place 1, where 7 waits, at this second
abbrev pub van_at_seven : ℕ → Walk
van_at_seven second = van 1 second 100 (seven ∷ [])
