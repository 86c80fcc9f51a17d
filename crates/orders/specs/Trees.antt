-- Defines the kinetic tree of a van's valid orders, its nodes in a row, and what a row of nodes lists.
use Rattle.std.specs.Prelude.{ℕ, zero, suc, ◌+◌, ◌-◌, Bool, cond, ◌&&◌, List, [], ◌∷◌, ◌++◌, length, take, Some, None, Option, ◌==◌, nat_le, nat_lt}
use Rattle.orders.specs.declared.Booking.{Booking}
use Rattle.orders.specs.declared.Node.{Node}
use Rattle.orders.specs.Rules.{Rules}
use Rattle.orders.specs.Bookings.{number_of, next_stop, stop_kind, stops}
use Rattle.orders.specs.Walks.{Walk, departs, service, after, within_limits}
use Rattle.orders.specs.Orders.{Order}

-- a tree is empty, or a stop, by its booking and 0 or 1 for pickup or drop-off, with its second of service and the cost so
-- far; what goes on from it stands below it, and its later siblings beside it
pub data Tree : Type 0 where
  empty : Tree
  stop : (booking kind second cost : ℕ) (below beside : Tree) → Tree

-- the nodes of a tree in a row: each before those below it, and these before its later siblings
abbrev pub nodes : ℕ → Tree → List Node
nodes depth empty = []
nodes depth (stop n k s c below beside) =
    record { booking = n; kind = k; depth = depth; span = 1 + length (nodes (depth + 1) below); second = s; cost = c }
    ∷ (nodes (depth + 1) below ++ nodes depth beside)

-- a node with its path: the booking numbers from a root down to it
abbrev pub Pathed : Type 0
Pathed = List ℕ × Node

-- the path to a node, by its depth alone, from the path to the node before it
abbrev pub path_to : List ℕ → Node → List ℕ
path_to before x = take (x.depth - 1) before ++ (x.booking ∷ [])

-- the nodes of a row with their paths
abbrev pub paths : List ℕ → List Node → List Pathed
paths before [] = []
paths before (x ∷ xs) = (path_to before x, x) ∷ paths (path_to before x) xs

-- an order ends at each node of span 1
abbrev pub ending : List Pathed → List Order
ending [] = []
ending (q ∷ qs) = cond (q.1.span == 1) ((q.0, q.1.cost) ∷ ending qs) (ending qs)

-- the orders that a row of nodes lists
abbrev pub listed : List Node → List Order
listed xs = ending (paths [] xs)

-- b's stop, served at this second, stands in the tree if v, the walk from it on, has nothing open any more, or if something
-- grows below it
abbrev pub branch : Booking → ℕ → Walk → List Booking → Tree → Tree → Tree
branch b second v [] below beside = stop (number_of b) (stop_kind b) second v.cost empty beside
branch b second v (c ∷ cs) empty beside = beside
branch b second v (c ∷ cs) (stop n k s t x y) beside = stop (number_of b) (stop_kind b) second v.cost (stop n k s t x y) beside

module _ (g : Rules) where
  -- whether b's next stop may be served next
  abbrev pub is_allowed : Walk → Booking → Bool
  is_allowed w b =
      nat_lt w.place g.places
      && (nat_lt (next_stop b).place g.places
      && (nat_le (service g w b) (next_stop b).window.closes && within_limits g w b))

  -- the walk once b's next stop is served, if it may be served next
  unfoldable pub step : Walk → Booking → Option Walk
  unfolding departs
  step w b = cond (is_allowed w b) (Some (after g w b)) None

  -- the trees of these bookings' next stops, below each what `grows` from it on
  unfoldable pub children : (Walk → Tree) → Walk → List Booking → Tree
  unfolding step
  children grows w [] = empty
  children grows w (b ∷ bs) =
      elim (step w b) [ Some v ↦ branch b (service g w b) v v.bookings (grows v) (children grows w bs) | None ↦ children grows w bs ]

  -- the tree of the valid orders, to a depth at most
  unfoldable pub grow : ℕ → Walk → Tree
  unfolding children
  grow zero w = empty
  grow (suc depth) w = children (grow depth) w w.bookings

  -- the kinetic tree: all valid orders
  unfoldable pub kinetic_tree : Walk → Tree
  unfolding grow
  kinetic_tree w = grow (stops w.bookings) w

  -- its nodes in a row
  abbrev pub tree_row : Walk → List Node
  tree_row w = nodes 1 (kinetic_tree w)

-- a van's orders as a row of nodes has them: with nothing open, the empty order
abbrev pub orders_of : Walk → List Booking → List Node → List Order
orders_of w [] xs = ([], w.cost) ∷ []
orders_of w (b ∷ bs) xs = listed xs

-- the orders that a van's kinetic tree lists
abbrev pub valid_orders : Rules → Walk → List Order
valid_orders g w = orders_of w w.bookings (tree_row g w)
