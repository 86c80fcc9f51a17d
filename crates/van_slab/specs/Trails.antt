-- Defines the orders that a row of nodes lists, whatever the nodes hold: each as a trail, the nodes from a root down to its end.
use Rattle.std.specs.Prelude.{ℕ, ◌+◌, ◌-◌, Bool, true, cond, ◌&&◌, List, [], ◌∷◌, ◌++◌, map, length, take, replicate, slice_index_or, Some, None, Option, ◌==◌, nat_le, nat_lt}
use Rattle.std.specs.Option.{option_map}
use Rattle.std.specs.List.{slice_get}
use Rattle.orders.specs.declared.Node.{Node}
use Rattle.orders.specs.declared.StopKind.{StopKind}
use Rattle.orders.specs.declared.StopKind.TheVariants.{Pickup, DropOff}
use Rattle.van_slab.specs.declared.Visit.{Visit}
use Rattle.van_slab.specs.declared.Itinerary.{Itinerary}

-- x can follow the node at the end of the trail: it spans something, and stands at most one deeper, and at most eight deep
abbrev pub follows : List Node → Node → Bool
follows t x = nat_lt 0 x.span && (nat_lt 0 x.depth && (nat_le x.depth (length t + 1) && nat_le x.depth 8))

-- the trail to a node, by its depth alone, from the trail to the node before it
abbrev pub trail_to : List Node → Node → List Node
trail_to t x = take (x.depth - 1) t ++ (x ∷ [])

-- an order ends at a node of span 1
abbrev pub ended : Node → List Node → List (List Node) → List (List Node)
ended x t others = cond (x.span == 1) (t ∷ others) others

-- the trails of the orders that a row lists, up to the first node that cannot follow; t leads to the node before the row
abbrev pub trails : List Node → List Node → List (List Node)
trails t [] = []
trails t (x ∷ xs) = cond (follows t x) (ended x (trail_to t x) (trails (trail_to t x) xs)) []

-- the cost of a trail is that of its last node
abbrev pub trail_cost : List Node → ℕ
trail_cost [] = 0
trail_cost (x ∷ []) = x.cost
trail_cost (x ∷ y ∷ t) = trail_cost (y ∷ t)

-- the cheaper of a trail and one from behind it, if there is one; among equals the trail
abbrev pub cheaper_trail : List Node → Option (List Node) → List Node
cheaper_trail t None = t
cheaper_trail t (Some u) = cond (nat_le (trail_cost t) (trail_cost u)) t u

-- the first trail of least cost
abbrev pub cheapest_trail : List (List Node) → Option (List Node)
cheapest_trail [] = None
cheapest_trail (t ∷ ts) = Some (cheaper_trail t (cheapest_trail ts))

-- what a node tells of its stop
abbrev pub visit_of : Node → Visit
visit_of x = record { booking = x.booking; kind = x.kind; second = x.second }

-- a visit that is not used
abbrev pub no_visit : Visit
no_visit = record { booking = 0; kind = 0; second = 0 }

-- what a trail tells at an index, past its end of a visit that is not used
abbrev pub visit_at : List Node → ℕ → Visit
visit_at t i = slice_index_or (map visit_of t) i no_visit

-- the itinerary of a trail: its cost, how many stops it has, and these, with visits that are not used up to eight
abbrev pub told : List Node → Itinerary
told t = record { cost = trail_cost t; stops = length t; visits = map visit_of t ++ replicate (8 - length t) no_visit }

-- the itinerary of the first order of least cost that a slab lists, if it lists one
abbrev pub cheapest_order : List Node → Option Itinerary
cheapest_order xs = option_map told (cheapest_trail (trails [] xs))

-- a cost is below that of the best order so far, or there is none
abbrev pub beats : ℕ → Option Itinerary → Bool
beats cost None = true
beats cost (Some best) = nat_lt cost best.cost

-- the itinerary of the order at an index from 0, in the sequence of the slab
abbrev pub order_at : List Node → ℕ → Option Itinerary
order_at xs i = option_map told (slice_get (trails [] xs) i)

-- the kind that a number in node memory tells: 0 is a pickup, each other a drop-off
abbrev pub kind_told : ℕ → StopKind
kind_told number = cond (number == 0) Pickup DropOff
