-- Defines the plan of a van, the price of a booking, and the winner among vans.
use Rattle.std.specs.Prelude.{◌≡◌, ℕ, ◌+◌, ◌<◌, ◌≤◌, cond, ◌⊎◌, List, [], ◌∷◌, Some, None, Option, nat_le}
use Rattle.orders.specs.declared.Booking.{Booking}
use Rattle.orders.specs.Rules.{Rules}
use Rattle.orders.specs.Bookings.{In}
use Rattle.orders.specs.Walks.{Walk, Valid}
use Rattle.orders.specs.Moves.{with_booking}

-- an order with its cost
abbrev pub Order : Type 0
Order = List ℕ × ℕ

-- orders compare by booking number at their first difference
abbrev pub Before : List ℕ → List ℕ → Type 0
Before [] p = ⊥
Before (m ∷ o) [] = ⊥
Before (m ∷ o) (n ∷ p) = (m < n) ⊎ ((m ≡ n) × Before o p)

-- the van has no valid order
abbrev pub NoOrder : Rules → Walk → Type 0
NoOrder g w = (o : List ℕ) (cost : ℕ) → Valid g w o cost → ⊥

-- the least cost of a valid order
pub record Least (g : Rules) (w : Walk) (cost : ℕ) : Type 0 where
  pub reached : (o : List ℕ) × Valid g w o cost
  pub least : (o : List ℕ) (other : ℕ) → Valid g w o other → cost ≤ other

-- the plan of a van: a valid order of least cost, and no valid order of that cost comes before it
pub record Plan (g : Rules) (w : Walk) (order : List ℕ) (cost : ℕ) : Type 0 where
  pub valid : Valid g w order cost
  pub least : (o : List ℕ) (other : ℕ) → Valid g w o other → cost ≤ other
  pub first : (o : List ℕ) → Valid g w o cost → Before o order → ⊥

-- the price of a booking on a van: the least cost with it less the least cost without it
pub record Price (g : Rules) (w : Walk) (b : Booking) (price : ℕ) : Type 0 where
  pub cost_without : ℕ
  pub cost_with : ℕ
  pub least_without : Least g w cost_without
  pub least_with : Least g (with_booking w b) cost_with
  pub difference : cost_with ≡ cost_without + price

-- the cheaper of an order and one from behind it, if there is one; among equals the order
abbrev pub cheaper : Order → Option Order → Order
cheaper q None = q
cheaper q (Some r) = cond (nat_le q.1 r.1) q r

-- the first order of least cost in a list
abbrev pub cheapest : List Order → Option Order
cheapest [] = None
cheapest (q ∷ qs) = Some (cheaper q (cheapest qs))

-- a van offers to take a booking at a price
pub record Offer : Type 0 where
  pub van : ℕ
  pub price : ℕ

-- the winner: the offer of least price, among equals that of the lowest van
pub record Winner (offers : List Offer) (w : Offer) : Type 0 where
  pub offered : In w offers
  pub least : (o : Offer) → In o offers → w.price ≤ o.price
  pub lowest : (o : Offer) → In o offers → o.price ≡ w.price → w.van ≤ o.van
