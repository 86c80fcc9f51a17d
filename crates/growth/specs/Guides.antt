-- Defines the rows of nodes that guide a walk, and what grows along them.
use denote.Ref.{Bor}
use Rattle.std.specs.Prelude.{ℕ, pred, ◌-◌, Bool, List, take, drop, Option}
use Rattle.std.specs.Option.{option_map}
use Rattle.orders.specs.declared.Booking.{Booking}
use Rattle.orders.specs.declared.Node.{Node}
use Rattle.orders.specs.Rules.{Rules}
use Rattle.orders.specs.Bookings.{stops}
use Rattle.orders.specs.Walks.{Walk}
use Rattle.orders.specs.Trees.{Tree, nodes}
use Rattle.orders.specs.Growth.{only, nobody, anybody, guide_row, guided_children, guided, grown_along}
use Rattle.growth.specs.declared.guide.Fresh.{Fresh}
use Rattle.growth.specs.declared.guide.Fresh.TheVariants.{Only, Nobody, Everybody}

-- whether a booking is new to the old tree
abbrev pub new_to : Fresh → ℕ → Bool
new_to (Only n) = only n
new_to Nobody = nobody
new_to Everybody = anybody

-- the nodes from one place of the memory up to another
abbrev pub row : List Node → ℕ → ℕ → List Node
row memory from to = take (to - from) (drop from memory)

-- the nodes that a slice lends, if it was found
abbrev pub found : Option (Bor (List Node)) → Option (List Node)
found = option_map (λ (h : Bor (List Node)). h.now)

module _ (g : Rules) (fresh : Fresh) where
  -- the tree that grows from a walk along old nodes
  abbrev pub grown : List Node → Walk → Tree
  grown old w = grown_along g (new_to fresh) old w

  -- its nodes in a row, its roots at a depth
  abbrev pub grown_at : ℕ → List Node → Walk → List Node
  grown_at depth old w = nodes depth (grown old w)

  -- its nodes in a row
  abbrev pub grown_row : List Node → Walk → List Node
  grown_row = grown_at 1

  -- the part of it that begins with these bookings' next stops
  abbrev pub grown_from : List Node → Walk → List Booking → Tree
  grown_from old w bs = guided_children g (guide_row (new_to fresh)) (guided g (guide_row (new_to fresh)) (pred (stops w.bookings))) old w bs
