-- Defines which orders are still to be read from a slab, and what reading the next one gives.
use Rattle.std.specs.Prelude.{◌≡◌, ℕ, List, [], ◌∷◌, take, Option}
use Rattle.std.specs.Option.{MatchOption}
use Rattle.orders.specs.declared.Node.{Node}
use Rattle.van_slab.specs.declared.reading.Orders.{Orders}
use Rattle.van_slab.specs.declared.trail.Trail.{Trail}
use Rattle.van_slab.specs.Trails.{trails, trail_cost}

-- the nodes on the way to the one that was read last
abbrev pub walked : Trail → List Node
walked t = take t.stops t.nodes

-- the trails of the orders that the nodes which are left list, below the trail to the node before them
abbrev pub trails_left : Orders → List (List Node)
trails_left o = trails (walked o.trail) o.nodes.now

-- the next order is read: the trail leads to its end, and its cost is given; or no order is left
abbrev pub GoesOn : Orders → Option ℕ → Orders → Type 0
GoesOn o r o' =
    MatchOption r ((trails_left o ≡ []) × (trails_left o' ≡ [])) (λ cost. (trails_left o ≡ walked o'.trail ∷ trails_left o') × (cost ≡ trail_cost (walked o'.trail)))
