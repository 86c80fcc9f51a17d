-- Defines the tally of a tree: how many nodes it has, and the least cost of its orders.
use Rattle.std.specs.Prelude.{◌≡◌, ℕ, min, Bool, true, false, ◌↔◌, List, [], ◌∷◌, length, Some, None, Option}
use Rattle.std.specs.Option.{option_map}
use Rattle.orders.specs.declared.Booking.{Booking}
use Rattle.orders.specs.declared.Node.{Node}
use Rattle.orders.specs.Rules.{Rules}
use Rattle.orders.specs.Walks.{Walk}
use Rattle.orders.specs.Orders.{Order, NoOrder, Least, cheapest}
use Rattle.orders.specs.Trees.{tree_row, orders_of, valid_orders}
use Rattle.growth.specs.declared.guide.Fresh.{Fresh}
use Rattle.growth.specs.declared.tally.Tally.{Tally}
use Rattle.growth.specs.Guides.{grown_row}

-- whether no booking is open
abbrev pub none_open : List Booking → Bool
none_open [] = true
none_open (b ∷ bs) = false

-- the lesser of two costs, where there are any
abbrev pub lesser : Option ℕ → Option ℕ → Option ℕ
lesser None y = y
lesser (Some x) None = Some x
lesser (Some x) (Some y) = Some (min x y)

-- the cost of the cheapest order
abbrev pub least_cost : List Order → Option ℕ
least_cost qs = option_map (λ (q : Order). q.1) (cheapest qs)

-- the tally of what grows from a walk along old nodes
pub record Tallies (g : Rules) (fresh : Fresh) (old : List Node) (w : Walk) (r : Tally) : Type 0 where
  pub count : r.count ≡ length (grown_row g fresh old w)
  pub least : r.least ≡ least_cost (orders_of w w.bookings (grown_row g fresh old w))

-- the tally of a van's kinetic tree: the least cost is told where the van has a valid order, and none where it has none
pub record Surveys (g : Rules) (w : Walk) (r : Tally) : Type 0 where
  pub count : r.count ≡ length (tree_row g w)
  pub least : r.least ≡ least_cost (valid_orders g w)
  pub reached : (cost : ℕ) → (r.least ≡ Some cost) ↔ Least g w cost
  pub none : (r.least ≡ None) ↔ NoOrder g w
