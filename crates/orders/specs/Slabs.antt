-- Defines the slab of a van: its size by the open limit, and what stands in it.
use Rattle.std.specs.Prelude.{ℕ, ◌-◌, List, [], ◌∷◌, ◌++◌, length, replicate, slice_index}
use Rattle.orders.specs.declared.Node.{Node}

-- the nodes of a slab, for an open limit of 0 to 4 bookings
abbrev pub slab_size : ℕ → ℕ
slab_size k = slice_index (0 ∷ 2 ∷ 18 ∷ 270 ∷ 7364 ∷ []) k

-- a node that is not used
abbrev pub blank : Node
blank = record { booking = 0; kind = 0; depth = 0; span = 0; second = 0; cost = 0 }

-- a slab of so many nodes: a row of nodes, then blanks
abbrev pub slab : ℕ → List Node → List Node
slab size xs = xs ++ replicate (size - length xs) blank
