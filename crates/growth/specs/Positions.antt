-- Defines how a position reads as a walk, and what a step from it answers.
use Rattle.std.specs.Prelude.{◌≡◌, ℕ, ◌+◌, ◌≤◌, Bool, List, [], ◌∷◌, length, is_some, Some, None, Option, nat_le}
use Rattle.stowage.specs.Together.{stowed}
use Rattle.orders.specs.declared.Booking.{Booking}
use Rattle.orders.specs.declared.Booking.TheVariants.{Waiting, Aboard}
use Rattle.orders.specs.Rules.{Rules}
use Rattle.orders.specs.Bookings.{loads, stops, Ascending}
use Rattle.orders.specs.Walks.{Walk, service}
use Rattle.orders.specs.Trees.{step}
use Rattle.growth.specs.declared.walk.Position.{Position}
use Rattle.growth.specs.declared.walk.Visit.{Visit}

-- the bookings without the gaps
abbrev pub compact : List (Option Booking) → List Booking
compact [] = []
compact (None ∷ bs) = compact bs
compact (Some b ∷ bs) = b ∷ compact bs

-- the walk that a position stands for
abbrev pub walk_of : Position → Walk
walk_of p = record { place = p.place; second = p.second; driven = p.driven; cost = p.cost; bookings = compact p.bookings }

-- what a walk needs so that no number runs over: no more driven and no more cost than seconds, bookings ascending, four at most
pub record Sound (p : Position) : Type 0 where
  pub driven : p.driven ≤ p.second
  pub cost : p.cost ≤ p.second
  pub ascending : Ascending (compact p.bookings)
  pub four : length p.bookings ≡ 4

-- what stays open of a booking whose next stop is served when the van has driven so many seconds
abbrev pub left_of : ℕ → Booking → Option Booking
left_of driven (Waiting pickup j) = Some (Aboard driven j)
left_of driven (Aboard since j) = None

-- all loads aboard fit together, from the empty hold
abbrev pub fit_together : Rules → List Booking → Bool
fit_together g bs = is_some (stowed g.stow g.empty (loads bs))

-- at a pickup all loads then aboard fit together; at a drop-off the ride is within its limit
abbrev pub limits_kept : Rules → Booking → ℕ → List Booking → Bool
limits_kept g (Waiting pickup j) driven bs = fit_together g bs
limits_kept g (Aboard since j) driven bs = nat_le driven (since + j.ride_limit)

-- b's next stop is served next: at this second, and from this position the walk goes on
pub record Visited (g : Rules) (p : Position) (b : Booking) (v : Visit) : Type 0 where
  pub onward : step g (walk_of p) b ≡ Some (walk_of v.position)
  pub second : v.second ≡ service g (walk_of p) b
  pub sound : Sound v.position
  pub fewer : stops (compact v.position.bookings) + 1 ≡ stops (compact p.bookings)

-- a booking's next stop may not be served next, or is visited; of no booking there is none to visit
abbrev pub Stepped : Rules → Position → Option Booking → Option Visit → Type 0
Stepped g p None v = v ≡ None
Stepped g p (Some b) None = step g (walk_of p) b ≡ None
Stepped g p (Some b) (Some v) = Visited g p b v
