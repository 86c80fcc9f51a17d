-- An example of orders holds if the tree of its van, computed, says so: by exactness it lists just the valid orders.
use Rattle.std.proofs.Common.{◌≡◌, ℕ, ◌+◌, Bool, true, false, ◌||◌, ◌↔◌, List, [], ◌∷◌, Some, refl, ap, subst, inl, inr}
use Rattle.std.specs.Str.{bytes_eq}
use Rattle.std.proofs.lemmas.Slice.Eq.{bytes_eq-Decides}
use Rattle.std.proofs.lemmas.Bool.{both_ways}
use Rattle.orders.specs.Bookings.{In}
use Rattle.orders.specs.Moves.{with_booking}
use Rattle.orders.specs.Orders.{Order, Least, cheapest}
use Rattle.orders.specs.Trees.{valid_orders}
use Rattle.orders.specs.Walks.{Walk, Valid}
use Rattle.orders.proofs.Plans.{determined}
use Rattle.orders.proofs.Theorems.{exact_orders}
use Rattle.worked.specs.Examples.{Example, Holds, ride_limit, together, apart, table_refused, table_accepted, valid_orders_are, nodes_are, not_valid, served_by, price_is}
use Rattle.worked.specs.Town.{Trade, town}

-- whether the numbers of an order stand in a list of orders
abbrev lists : List ℕ → List Order → Bool
lists o [] = false
lists o (q ∷ qs) = bytes_eq o q.0 || lists o qs

-- what is computed for a row
abbrev pub Computes : Example → Type 0
Computes (ride_limit direct percent limit) = Holds (ride_limit direct percent limit)
Computes (together loads) = Holds (together loads)
Computes (apart loads) = Holds (apart loads)
Computes (table_refused places seconds number detail) = Holds (table_refused places seconds number detail)
Computes (table_accepted places seconds) = Holds (table_accepted places seconds)
Computes (valid_orders_are t w orders) = valid_orders (town t) w ≡ orders
Computes (nodes_are t w count) = Holds (nodes_are t w count)
Computes (not_valid t w o) = lists o (valid_orders (town t) w) ≡ false
Computes (served_by t w o seconds) = Holds (served_by t w o seconds)
Computes (price_is t w b price) =
    (without with : Order) × (cheapest (valid_orders (town t) w) ≡ Some without) × (cheapest (valid_orders (town t) (with_booking w b)) ≡ Some with) × (with.1 ≡ without.1 + price)

in_lists : (o : List ℕ) (cost : ℕ) (qs : List Order) → In (o, cost) qs → lists o qs ≡ true
in_lists o cost [] i = absurd i
in_lists o cost (q ∷ qs) (inl e) = ap (λ b. b || lists o qs) ((bytes_eq-Decides o q.0).1 (ap (λ (x : Order). x.0) e))
in_lists o cost (q ∷ qs) (inr i) = either (bytes_eq o q.0) (lists o qs) (in_lists o cost qs i)
  where
    either : (a b : Bool) → b ≡ true → (a || b) ≡ true
    either true b e = refl
    either false b e = e

-- the cheapest order that is listed costs least
least : (t : Trade) (w : Walk) (q : Order) → cheapest (valid_orders (town t) w) ≡ Some q → Least (town t) w q.1
least t w q e = ((determined (town t) (exact_orders (town t))).least w q.1).1 (q.0, e)

pub holds : (x : Example) → Computes x → Holds x
holds (ride_limit direct percent limit) h = h
holds (together loads) h = h
holds (apart loads) h = h
holds (table_refused places seconds number detail) h = h
holds (table_accepted places seconds) h = h
holds (valid_orders_are t w orders) h =
    λ o cost. subst (λ l. In (o, cost) l ↔ Valid (town t) w o cost) h ((exact_orders (town t)).exactly w o cost)
holds (nodes_are t w count) h = h
holds (not_valid t w o) h = λ cost v. both_ways _ h (in_lists o cost (valid_orders (town t) w) (((exact_orders (town t)).exactly w o cost).1 v))
holds (served_by t w o seconds) h = h
holds (price_is t w b price) h = record {
  cost_without = h.0.1;
  cost_with = h.1.1;
  least_without = least t w h.0 h.2;
  least_with = least t (with_booking w b) h.1 h.3;
  difference = h.4;
}
