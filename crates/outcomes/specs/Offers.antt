-- Defines what the vans ask for a booking, which of them gets it, and the plan that is told.
use Rattle.std.specs.Prelude.{ℕ, zero, suc, ◌+◌, ◌-◌, cond, ◌&&◌, List, [], ◌∷◌, replicate, Some, None, Option, ◌==◌, nat_lt}
use Rattle.std.specs.List.{slice_get}
use Rattle.std.specs.Option.{option_map}
use Rattle.orders.specs.declared.Booking.{Booking}
use Rattle.orders.specs.declared.Node.{Node}
use Rattle.fleet.specs.declared.call.Offer.{Offer}
use Rattle.orders.specs.Bookings.{number_of}
use Rattle.orders.specs.Rules.{Rules}
use Rattle.orders.specs.Walks.{Walk}
use Rattle.orders.specs.Moves.{with_booking}
use Rattle.orders.specs.Slabs.{slab}
use Rattle.orders.specs.Trees.{tree_row, orders_of, valid_orders}
use Rattle.van_slab.specs.declared.Itinerary.{Itinerary}
use Rattle.van_slab.specs.declared.Visit.{Visit}
use Rattle.van_slab.specs.Trails.{no_visit, cheapest_order, order_at}
use Rattle.growth.specs.declared.guide.Fresh.TheVariants.{Only}
use Rattle.growth.specs.Guides.{grown_row}
use Rattle.growth.specs.Surveys.{least_cost}
use Rattle.fleet.specs.declared.call.Booked.{Booked}
use Rattle.fleet.specs.declared.state.State.{State}
use Rattle.fleet.specs.declared.state.Van.{Van}
use Rattle.fleet.specs.States.{van_walk, open_bookings, has_room}
use Rattle.outcomes.specs.Settled.{slab_nodes}

-- by how much the second cost is above the first, where there are both
abbrev pub difference : Option ℕ → Option ℕ → Option ℕ
difference None d = None
difference (Some c) None = None
difference (Some c) (Some d) = Some (d - c)

-- what a van asks for a booking, if it is on duty, has room, and has a valid order with it
abbrev pub bid : Rules → State → Booking → Option Van → Option ℕ
bid g s b None = None
bid g s b (Some w) = cond (has_room s w) (difference (least_cost (valid_orders g (van_walk w))) (least_cost (valid_orders g (with_booking (van_walk w) b)))) None

-- the better of the best offer so far and that of the next van; the earlier one among equals
abbrev pub better : Option Offer → ℕ → Option ℕ → Option Offer
better best v None = best
better None v (Some p) = Some (record { van = v; price = p })
better (Some o) v (Some p) = cond (nat_lt p o.price) (Some (record { van = v; price = p })) (Some o)

-- the best offer of the first k vans; the van at an index from 0 has the number after it
abbrev pub best_of : (ℕ → Option ℕ) → ℕ → Option Offer
best_of asks zero = None
best_of asks (suc k) = better (best_of asks k) (k + 1) (asks k)

-- the order of a van with nothing open: no stop, at no cost
abbrev pub idle : Itinerary
idle = record { cost = 0; stops = 0; visits = replicate 8 no_visit }

-- the plan of a van with these open bookings, as its slab tells it
abbrev pub plan_in : List Booking → List Node → Option Itinerary
plan_in [] xs = Some idle
plan_in (b ∷ bs) xs = cheapest_order xs

-- the order at an index, as the slab of a van with these open bookings tells it
abbrev pub order_in : List Booking → List Node → ℕ → Option Itinerary
order_in [] xs i = slice_get (idle ∷ []) i
order_in (b ∷ bs) xs i = order_at xs i

-- a van's tree, as a slab
abbrev pub tree_of : Rules → State → Van → List Node
tree_of g s w = slab (slab_nodes s) (tree_row g (van_walk w))

-- the plan of a van
abbrev pub plan_of : Rules → State → Van → Option Itinerary
plan_of g s w = plan_in (open_bookings w) (tree_of g s w)

-- the second of a booking's stop among visits: its pickup for kind 0, its drop-off for kind 1
abbrev pub second_of : (booking kind : ℕ) → List Visit → ℕ
second_of n k [] = 0
second_of n k (x ∷ xs) = cond (x.booking == n && x.kind == k) x.second (second_of n k xs)

-- what is told of a booking, from the offer that it was given to and the van's new plan
abbrev pub told_booked : ℕ → Offer → List Visit → Booked
told_booked n o visits = record { van = o.van; price = o.price; pickup = second_of n 0 visits; dropoff = second_of n 1 visits }

-- the visits of a plan, if there is one
abbrev pub visits_of : Option Itinerary → List Visit
visits_of None = []
visits_of (Some r) = r.visits

-- the least cost of the orders in the slab of a van with these open bookings
abbrev pub read_least : List Booking → List Node → Option ℕ
read_least bs xs = option_map (λ (r : Itinerary). r.cost) (plan_in bs xs)

-- the least cost with one more booking, along the nodes of a slab
abbrev pub read_with : Rules → Booking → List Node → Walk → Option ℕ
read_with g b xs u = least_cost (orders_of u u.bookings (grown_row g (Only (number_of b)) xs u))

-- what a van asks for a booking, whatever the nodes of its slab are
abbrev pub read_bid : Rules → State → Booking → List Node → Option Van → Option ℕ
read_bid g s b xs None = None
read_bid g s b xs (Some w) = cond (has_room s w) (difference (read_least (open_bookings w) xs) (read_with g b xs (with_booking (van_walk w) b))) None
