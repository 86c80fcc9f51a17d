-- Defines the law of reading: a slab that holds a van's tree tells the van's valid orders, stop by stop.
use Rattle.std.specs.Prelude.{◌≡◌, ℕ, ◌+◌, ◌<◌, ◌≤◌, ◌↔◌, List, [], ◌∷◌, map, length, Some, None}
use Rattle.std.specs.List.{slice_get}
use Rattle.std.specs.Option.{option_map}
use Rattle.orders.specs.declared.Booking.{Booking}
use Rattle.orders.specs.declared.Node.{Node}
use Rattle.orders.specs.Rules.{Rules}
use Rattle.orders.specs.Bookings.{In, Ascending}
use Rattle.orders.specs.Walks.{Walk, after, Allowed, Timed}
use Rattle.orders.specs.Orders.{Order, NoOrder, Plan, cheapest}
use Rattle.orders.specs.Trees.{tree_row, valid_orders}
use Rattle.orders.specs.Slabs.{slab}
use Rattle.orders.specs.Laws.{Shows}
use Rattle.van_slab.specs.declared.Itinerary.{Itinerary}
use Rattle.van_slab.specs.Trails.{trails, trail_cost, cheapest_trail, told, cheapest_order, order_at}

-- the booking numbers of a trail
abbrev pub numbers : List Node → List ℕ
numbers t = map (λ (x : Node). x.booking) t

-- the seconds of service of a trail
abbrev pub seconds : List Node → List ℕ
seconds t = map (λ (x : Node). x.second) t

-- the order of a trail, with its cost
abbrev pub order_of : List Node → Order
order_of t = (numbers t, trail_cost t)

-- node by node the trail shows how w goes on, each stop as it may be served, until nothing is open; it begins at this depth
abbrev pub Shown : (g : Rules) → Walk → ℕ → List Node → Type 0
Shown g w depth [] = w.bookings ≡ []
Shown g w depth (x ∷ t) = (b : Booking) × In b w.bookings × Allowed g w b × Shows g w b depth x × Shown g (after g w b) (depth + 1) t

-- the itinerary tells this order of w, at this cost: it is that of a trail that shows it
abbrev pub Tells : (g : Rules) → Walk → Order → Itinerary → Type 0
Tells g w q r = (t : List Node) × (r ≡ told t) × (order_of t ≡ q) × Shown g w 1 t

-- a van with one to four open bookings
pub record Open (w : Walk) : Type 0 where
  pub some : 0 < length w.bookings
  pub few : length w.bookings ≤ 4

-- the trails of a slab of this size that holds w's tree
abbrev pub slab_trails : Rules → ℕ → Walk → List (List Node)
slab_trails g size w = trails [] (slab size (tree_row g w))

-- Reading: of a van with one to four open bookings a slab lists just the valid orders, each once and ascending, and each
-- trail shows its order. So the cheapest order is the plan, and where there is none the van has no valid order; and the
-- order at an index is the valid order there.
pub record ExactReading (g : Rules) : Type 0 where
  pub listed : (size : ℕ) (w : Walk) → Open w → map order_of (slab_trails g size w) ≡ valid_orders g w
  pub shown : (size : ℕ) (w : Walk) → Open w → (t : List Node) → In t (slab_trails g size w) → Shown g w 1 t
  pub timed : (size : ℕ) (w : Walk) → Open w → (t : List Node) → In t (slab_trails g size w) → Timed g w (numbers t) (seconds t)
  pub first : (size : ℕ) (w : Walk) → Open w → option_map order_of (cheapest_trail (slab_trails g size w)) ≡ cheapest (valid_orders g w)
  pub plan : (size : ℕ) (w : Walk) → Open w → Ascending w.bookings → (r : Itinerary) → cheapest_order (slab size (tree_row g w)) ≡ Some r →
      (o : List ℕ) × (cost : ℕ) × Plan g w o cost × Tells g w (o, cost) r
  pub none : (size : ℕ) (w : Walk) → Open w → (cheapest_order (slab size (tree_row g w)) ≡ None) ↔ NoOrder g w
  pub at : (size : ℕ) (w : Walk) → Open w → (i : ℕ) (r : Itinerary) → order_at (slab size (tree_row g w)) i ≡ Some r →
      (q : Order) × (slice_get (valid_orders g w) i ≡ Some q) × Tells g w q r
  pub past : (size : ℕ) (w : Walk) → Open w → (i : ℕ) → (order_at (slab size (tree_row g w)) i ≡ None) ↔ (length (valid_orders g w) ≤ i)

-- one to eight stops
pub record StopsFit (stops : ℕ) : Type 0 where
  pub some : 0 < stops
  pub most : stops ≤ 8

-- Whatever the nodes of a slab hold, an itinerary that is read from it has one to eight stops.
pub record BoundedReading : Type 0 where
  pub cheapest : (xs : List Node) (r : Itinerary) → cheapest_order xs ≡ Some r → StopsFit r.stops
  pub at : (xs : List Node) (i : ℕ) (r : Itinerary) → order_at xs i ≡ Some r → StopsFit r.stops
