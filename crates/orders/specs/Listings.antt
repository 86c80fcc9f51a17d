-- Defines the orders of a tree, and what the laws say of lists of orders and of nodes.
use Rattle.std.specs.Prelude.{◌≡◌, ℕ, ◌+◌, ◌<◌, Bool, cond, ◌⊎◌, List, [], ◌∷◌, ◌++◌, map, nat_eq, nat_lt}
use Rattle.orders.specs.declared.Node.{Node}
use Rattle.orders.specs.Bookings.{In}
use Rattle.orders.specs.Orders.{Order, Before}
use Rattle.orders.specs.Trees.{Tree, empty, stop, Pathed}

-- the numbers with one more in front
abbrev pub prefixed : {X : Type 0} → ℕ → List ℕ × X → List ℕ × X
prefixed n q = (n ∷ q.0, q.1)

-- a stop with nothing below it ends an order
abbrev pub or_end : Tree → ℕ → List Order → List Order
or_end empty cost os = ([], cost) ∷ []
or_end (stop n k s c below beside) cost os = os

-- the orders of a tree: its paths from a root down to a stop that ends one
abbrev pub orders : Tree → List Order
orders empty = []
orders (stop n k s c below beside) = map (prefixed n) (or_end below c (orders below)) ++ orders beside

-- each element stands in this relation to all that follow it
abbrev pub Sorted : {X : Type 0} → (X → X → Type 0) → List X → Type 0
Sorted R [] = Unit {0}
Sorted {X} R (x ∷ xs) = ((y : X) → In y xs → R x y) × Sorted R xs

-- the orders ascend
abbrev pub OrdersAscend : List Order → Type 0
OrdersAscend qs = Sorted (λ (p q : Order). Before p.0 q.0) qs

-- a path comes before those that go on from it, and else by number at the first difference
abbrev pub Earlier : List ℕ → List ℕ → Type 0
Earlier [] [] = ⊥
Earlier [] (n ∷ q) = Unit {0}
Earlier (m ∷ p) [] = ⊥
Earlier (m ∷ p) (n ∷ q) = (m < n) ⊎ ((m ≡ n) × Earlier p q)

-- the paths ascend
abbrev pub PathsAscend : List Pathed → Type 0
PathsAscend qs = Sorted (λ (p q : Pathed). Earlier p.0 q.0) qs

-- how many nodes at the front of a row stand deeper than this
abbrev pub deeper : ℕ → List Node → ℕ
deeper depth [] = 0
deeper depth (x ∷ xs) = cond (nat_lt depth x.depth) (1 + deeper depth xs) 0

-- each node's span counts itself and all below it, which are the deeper nodes right behind it
abbrev pub Spans : List Node → Type 0
Spans [] = Unit {0}
Spans (x ∷ xs) = (x.span ≡ 1 + deeper x.depth xs) × Spans xs

-- an order with the stops of some bookings left out
abbrev pub leave_out : (ℕ → Bool) → List ℕ → List ℕ
leave_out gone [] = []
leave_out gone (n ∷ o) = cond (gone n) (leave_out gone o) (n ∷ leave_out gone o)

-- an order without the stops of one booking
abbrev pub without : ℕ → List ℕ → List ℕ
without n o = leave_out (nat_eq n) o
