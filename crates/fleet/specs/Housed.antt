-- Defines when the vans of a state are housed by the rules: they and their stops are at places that the roads have, and what is
-- aboard fits together.
use Rattle.std.specs.Prelude.{◌≡◌, ℕ, ◌<◌, true, Some, None, slice_index_or}
use Rattle.std.specs.List.{AllByRecursion}
use Rattle.orders.specs.declared.Booking.{Booking}
use Rattle.orders.specs.declared.Booking.TheVariants.{Waiting, Aboard}
use Rattle.orders.specs.Rules.{Rules}
use Rattle.growth.specs.Positions.{fit_together}
use Rattle.fleet.specs.declared.state.State.{State}
use Rattle.fleet.specs.declared.state.Van.{Van}
use Rattle.fleet.specs.States.{open_bookings}

-- the open stops of a booking are at places below this number
abbrev pub StopsBelow : ℕ → Booking → Type 0
StopsBelow places (Waiting pickup j) = (pickup.place < places) × (j.dropoff.place < places)
StopsBelow places (Aboard since j) = j.dropoff.place < places

-- a van and its open stops are at places that the roads have, and the loads aboard fit together
pub record HousedVan (g : Rules) (w : Van) : Type 0 where
  pub place : w.place < g.places
  pub stops : AllByRecursion (StopsBelow g.places) (open_bookings w)
  pub fits : fit_together g (open_bookings w) ≡ true

-- so is every van on duty
pub record Housed (g : Rules) (s : State) : Type 0 where
  pub each : (i : ℕ) (w : Van) → slice_index_or s.vans i None ≡ Some w → HousedVan g w
