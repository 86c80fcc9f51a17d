-- Shows that a tally along old nodes that suffice is that of the kinetic tree, and tells the least cost of a valid order.
use Rattle.std.proofs.Common.{◌≡◌, ℕ, ◌↔◌, List, length, Some, None, Option, sym, refl, ap, ◌∙◌}
use Rattle.std.specs.Option.{option_map}
use Rattle.orders.specs.declared.Node.{Node}
use Rattle.orders.specs.Rules.{Rules, Lawful}
use Rattle.orders.specs.Walks.{Walk}
use Rattle.orders.specs.Orders.{Order, NoOrder, Least, cheapest}
use Rattle.orders.specs.Trees.{nodes, orders_of, valid_orders}
use Rattle.orders.specs.Laws.{Determined}
use Rattle.orders.proofs.Basics.{none_some, some_same}
use Rattle.orders.proofs.Plans.{determined}
use Rattle.orders.proofs.Theorems.{exact_orders}
use Rattle.growth.specs.declared.guide.Fresh.{Fresh}
use Rattle.growth.specs.declared.tally.Tally.{Tally}
use Rattle.growth.specs.Changes.{Suffices}
use Rattle.growth.specs.Surveys.{least_cost, Tallies, Surveys}
use Rattle.growth.proofs.Changed.{whole}

abbrev cost_of : Order → ℕ
cost_of q = q.1

-- a cost is that of an order, or there is none
some_order : (o : Option Order) (cost : ℕ) → option_map cost_of o ≡ Some cost → (order : List ℕ) × (o ≡ Some (order, cost))
some_order None cost e = absurd (none_some None cost refl e)
some_order (Some q) cost e = (q.0, ap (λ c. Some (q.0, c)) (some_same (Some q.1) q.1 cost refl e))

no_order : (o : Option Order) → option_map cost_of o ≡ None → o ≡ None
no_order None e = refl
no_order (Some q) e = absurd (none_some (Some q.1) q.1 e refl)

module _ (g : Rules) (w : Walk) (least : Option ℕ) (is : least ≡ least_cost (valid_orders g w)) where
  known : Determined g
  known = determined g (exact_orders g)

  least_reached : (cost : ℕ) → (least ≡ Some cost) ↔ Least g w cost
  least_reached cost = (
    λ e. (known.least w cost).1 (some_order (cheapest (valid_orders g w)) cost (sym is ∙ e)),
    λ l. let f = (known.least w cost).0 l in is ∙ ap (option_map cost_of) f.1,
  )

  least_none : (least ≡ None) ↔ NoOrder g w
  least_none = (
    λ e. (known.none w).1 (no_order (cheapest (valid_orders g w)) (sym is ∙ e)),
    λ n. is ∙ ap (option_map cost_of) ((known.none w).0 n),
  )

pub surveys : (g : Rules) (lawful : Lawful g) (fresh : Fresh) (old : List Node) (w : Walk) (r : Tally) → Tallies g fresh old w r → Suffices g fresh old w → Surveys g w r
surveys g lawful fresh old w r t s =
    let e = whole g lawful fresh old w s in
    let l = t.least ∙ ap (λ x. least_cost (orders_of w w.bookings (nodes 1 x))) e in
    record { count = t.count ∙ ap (λ x. length (nodes 1 x)) e; least = l; reached = least_reached g w r.least l; none = least_none g w r.least l }
