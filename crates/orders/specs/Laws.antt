-- Defines the laws of valid orders and of the kinetic tree.
use Rattle.std.specs.Prelude.{◌≡◌, ℕ, ◌+◌, ◌^◌, ◌<◌, ◌≤◌, true, ◌↔◌, List, [], ◌∷◌, ◌++◌, length, Some, None}
use Rattle.std.specs.Option.{unwrap_or}
use Rattle.orders.specs.declared.Booking.{Booking}
use Rattle.orders.specs.declared.Node.{Node}
use Rattle.orders.specs.Rules.{Rules, Lawful}
use Rattle.orders.specs.Bookings.{In, number_of, next_stop, stop_kind, Ascending, New}
use Rattle.orders.specs.Walks.{Walk, service, after, within_limits, Allowed, Valid, Timed}
use Rattle.orders.specs.Moves.{with_booking, at_time, bound_to, served_at}
use Rattle.orders.specs.Orders.{NoOrder, Least, Plan, Price, cheapest, Offer, Winner}
use Rattle.orders.specs.Trees.{paths, tree_row, kinetic_tree, valid_orders}
use Rattle.orders.specs.Listings.{without, OrdersAscend, PathsAscend, Spans}
use Rattle.orders.specs.Slabs.{slab_size}
use Rattle.orders.specs.Fullest.{boundless, full_van}
use Rattle.orders.specs.Growth.{only, nobody, anybody, Ended, seek, grown_along}

-- Exactness: the tree's nodes list the valid orders with their costs, each once, ascending; with nothing open the one valid
-- order is empty.
pub record ExactOrders (g : Rules) : Type 0 where
  pub exactly : (w : Walk) (o : List ℕ) (cost : ℕ) → In (o, cost) (valid_orders g w) ↔ Valid g w o cost
  pub ascending : (w : Walk) → Ascending w.bookings → OrdersAscend (valid_orders g w)
  pub nothing_open : (w : Walk) → w.bookings ≡ [] → (o : List ℕ) (cost : ℕ) → Valid g w o cost ↔ ((o ≡ []) × (cost ≡ w.cost))

-- the node shows b's next stop as w goes on with it, at this level, but for its span
pub record Shows (g : Rules) (w : Walk) (b : Booking) (level : ℕ) (x : Node) : Type 0 where
  pub booking : x.booking ≡ number_of b
  pub kind : x.kind ≡ stop_kind b
  pub depth : x.depth ≡ level
  pub second : x.second ≡ service g w b
  pub cost : x.cost ≡ (after g w b).cost

-- a valid order of w begins with the path, whose last stop the node shows; the stops next after w stand at this depth
abbrev pub Begins : (g : Rules) → Walk → ℕ → List ℕ → Node → Type 0
Begins g w depth [] x = ⊥
Begins g w depth (n ∷ []) x =
    (b : Booking) × In b w.bookings × (number_of b ≡ n) × Allowed g w b × Shows g w b depth x × ((o : List ℕ) × (cost : ℕ) × Valid g (after g w b) o cost)
Begins g w depth (n ∷ m ∷ p) x =
    (b : Booking) × In b w.bookings × (number_of b ≡ n) × Allowed g w b × Begins g (after g w b) (depth + 1) (m ∷ p) x

-- the node with another span
abbrev pub spanning : Node → ℕ → Node
spanning x span = record { booking = x.booking; kind = x.kind; depth = x.depth; span = span; second = x.second; cost = x.cost }

-- Exactness of the nodes: one for each beginning of a valid order, with the second of service and the cost of the walk to
-- it; a node before its children, siblings ascending; its span counts itself and all below it.
pub record ExactNodes (g : Rules) : Type 0 where
  pub each : (w : Walk) (p : List ℕ) (x : Node) → In (p, x) (paths [] (tree_row g w)) → Begins g w 1 p x
  pub all : (w : Walk) (p : List ℕ) (x : Node) → Begins g w 1 p x → (span : ℕ) × In (p, spanning x span) (paths [] (tree_row g w))
  pub ascending : (w : Walk) → Ascending w.bookings → PathsAscend (paths [] (tree_row g w))
  pub spans : (w : Walk) → Spans (tree_row g w)

-- Seconds: a valid order has its seconds of service, and no others; each node shows the last of those of its path.
pub record ExactSeconds (g : Rules) : Type 0 where
  pub timed : (w : Walk) (o : List ℕ) (cost : ℕ) → Valid g w o cost → (seconds : List ℕ) × Timed g w o seconds
  pub one : (w : Walk) → Ascending w.bookings → (o : List ℕ) (s t : List ℕ) → Timed g w o s → Timed g w o t → s ≡ t
  pub shown : (w : Walk) (p : List ℕ) (x : Node) → In (p, x) (paths [] (tree_row g w)) →
      (earlier : List ℕ) × Timed g w p (earlier ++ (x.second ∷ []))

-- Thinning: an order that is valid with one more booking is valid without that booking's stops, and costs no more; so a
-- price is never below 0, and a van that has no valid order has none with another booking either.
pub record Thins (g : Rules) : Type 0 where
  pub thinner : (w : Walk) (b : Booking) → New b w.bookings → (o : List ℕ) (cost : ℕ) → Valid g (with_booking w b) o cost →
      (less : ℕ) × (less ≤ cost) × Valid g w (without (number_of b) o) less
  pub none_stays : (w : Walk) (b : Booking) → New b w.bookings → NoOrder g w → NoOrder g (with_booking w b)
  pub never_negative : (w : Walk) (b : Booking) → New b w.bookings → (c d : ℕ) → Least g w c → Least g (with_booking w b) d → c ≤ d
  pub priced : (w : Walk) (b : Booking) → New b w.bookings → (o : List ℕ) (cost : ℕ) → Valid g (with_booking w b) o cost →
      (price : ℕ) × Price g w b price

-- b's next stop is served at this second as an order may have it: where it is, in its time window, within the limits
pub record Serves (g : Rules) (w : Walk) (b : Booking) (second : ℕ) : Type 0 where
  pub its : In b w.bookings
  pub here : w.place < g.places
  pub there : w.place ≡ (next_stop b).place
  pub time : w.second ≤ second
  pub opened : (next_stop b).window.opens ≤ second
  pub closes : second ≤ (next_stop b).window.closes
  pub limits : within_limits g w b ≡ true

-- Moves: after the clock, and once the van is bound for another place, every valid order was valid before, at the same cost,
-- or at most at that of the way there more. When a stop is served on time and within its limit, just the tails of the orders
-- that then begin with it are valid, and these orders were valid before.
pub record Moves (g : Rules) : Type 0 where
  pub clock : (w : Walk) (second : ℕ) → w.second ≤ second → (o : List ℕ) (cost : ℕ) → Valid g (at_time w second) o cost → Valid g w o cost
  pub bound : (w : Walk) (place second : ℕ) → w.place < g.places → place < g.places → w.second + g.trip w.place place ≤ second →
      (o : List ℕ) (cost : ℕ) → Valid g (bound_to g w place second) o cost → (other : ℕ) × (other ≤ cost + g.trip w.place place) × Valid g w o other
  pub served : (w : Walk) (b : Booking) (second : ℕ) → Ascending w.bookings → Serves g w b second → (o : List ℕ) (cost : ℕ) →
      Valid g (served_at w b second) o cost ↔ Valid g (at_time w second) (number_of b ∷ o) cost
  pub tails : (w : Walk) (b : Booking) (second : ℕ) → Ascending w.bookings → Serves g w b second → (o : List ℕ) (cost : ℕ) →
      Valid g (served_at w b second) o cost → Valid g w (number_of b ∷ o) cost

-- the nodes below the root of number n
abbrev pub below_root : ℕ → List Node → List Node
below_root n xs = unwrap_or (seek (length xs) n xs) []

-- Guided growth: along the row of the old tree, whatever stands behind a blank that follows it, the same tree grows as
-- anew: for one more booking, and for none after a move; and along any row where all bookings count as new.
pub record Guides (g : Rules) : Type 0 where
  pub booked : (w : Walk) (b : Booking) → Ascending w.bookings → New b w.bookings → (rest : List Node) → Ended rest →
      grown_along g (only (number_of b)) (tree_row g w ++ rest) (with_booking w b) ≡ kinetic_tree g (with_booking w b)
  pub clock : (w : Walk) (second : ℕ) → Ascending w.bookings → w.second ≤ second → (rest : List Node) → Ended rest →
      grown_along g nobody (tree_row g w ++ rest) (at_time w second) ≡ kinetic_tree g (at_time w second)
  pub bound : (w : Walk) (place second : ℕ) → Ascending w.bookings → w.place < g.places → place < g.places →
      w.second + g.trip w.place place ≤ second → (rest : List Node) → Ended rest →
      grown_along g nobody (tree_row g w ++ rest) (bound_to g w place second) ≡ kinetic_tree g (bound_to g w place second)
  pub served : (w : Walk) (b : Booking) (second : ℕ) → Ascending w.bookings → Serves g w b second → (rest : List Node) → Ended rest →
      grown_along g nobody (below_root (number_of b) (tree_row g w ++ rest)) (served_at w b second) ≡ kinetic_tree g (served_at w b second)
  pub anew : (w : Walk) (old : List Node) → grown_along g anybody old w ≡ kinetic_tree g w

-- Size: with at most k open bookings, four at most, the tree has no more nodes than the slab of k.
abbrev pub FitsSlab : Rules → Type 0
FitsSlab g = (k : ℕ) (w : Walk) → Ascending w.bookings → length w.bookings ≤ k → k ≤ 4 → length (tree_row g w) ≤ slab_size k

-- Each size is reached, under rules that are lawful.
pub record FillsSlab : Type 0 where
  pub lawful : Lawful boundless
  pub reached : (k : ℕ) → k ≤ 4 → length (tree_row boundless (full_van k)) ≡ slab_size k

-- the walk over these bookings' next stops, one after the other, valid or not
abbrev pub walked : (g : Rules) → Walk → List Booking → Walk
walked g w [] = w
walked g w (b ∷ bs) = walked g (after g w b) bs

-- the roads know every leg, and every stop opens within the week of 604,800 seconds
abbrev pub Legs : (g : Rules) → Walk → List Booking → Type 0
Legs g w [] = Unit {0}
Legs g w (b ∷ bs) = (w.place < g.places) × ((next_stop b).place < g.places) × ((next_stop b).window.opens ≤ 604800) × Legs g (after g w b) bs

-- a van in range: within the week, it has driven no longer than the clock says, and no cost is more
pub record InRange (w : Walk) : Type 0 where
  pub week : w.second ≤ 604800
  pub driven : w.driven ≤ w.second
  pub cost : w.cost ≤ w.second

-- Numbers: along a walk of at most eight stops from a van in range, valid or not, all numbers stay below 2 ^ 32.
abbrev pub Numbers : Rules → Type 0
Numbers g = (w : Walk) (bs : List Booking) → InRange w → length bs ≤ 8 → Legs g w bs →
    ((walked g w bs).second < 2 ^ 32) × ((walked g w bs).driven < 2 ^ 32) × ((walked g w bs).cost < 2 ^ 32)

-- Uniqueness: a van has one plan at most, the first cheapest order that its tree lists, at the least cost, and none where
-- that lists none; a booking has one price on it.
pub record Determined (g : Rules) : Type 0 where
  pub plan : (w : Walk) (o p : List ℕ) (c d : ℕ) → Plan g w o c → Plan g w p d → (o ≡ p) × (c ≡ d)
  pub listed : (w : Walk) → Ascending w.bookings → (o : List ℕ) (cost : ℕ) →
      Plan g w o cost ↔ (cheapest (valid_orders g w) ≡ Some (o, cost))
  pub none : (w : Walk) → NoOrder g w ↔ (cheapest (valid_orders g w) ≡ None)
  pub least : (w : Walk) (cost : ℕ) → Least g w cost ↔ ((o : List ℕ) × (cheapest (valid_orders g w) ≡ Some (o, cost)))
  pub price : (w : Walk) (b : Booking) (p q : ℕ) → Price g w b p → Price g w b q → p ≡ q

-- Among offers there is one winner, if there is an offer.
pub record OneWinner : Type 0 where
  pub one : (offers : List Offer) (v w : Offer) → Winner offers v → Winner offers w → v ≡ w
  pub some : (o : Offer) (offers : List Offer) → (w : Offer) × Winner (o ∷ offers) w
