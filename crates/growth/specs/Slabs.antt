-- Defines the two slabs that are written, and what they then hold.
use Rattle.std.specs.Prelude.{◌≡◌, ℕ, ◌+◌, ◌*◌, ◌≤◌, List, length, replicate}
use Rattle.orders.specs.declared.Booking.{Booking}
use Rattle.orders.specs.declared.Node.{Node}
use Rattle.orders.specs.Rules.{Rules}
use Rattle.orders.specs.Walks.{Walk}
use Rattle.orders.specs.Trees.{tree_row}
use Rattle.orders.specs.Slabs.{slab_size, blank, slab}
use Rattle.growth.specs.declared.memory.Slabs.{Slabs}
use Rattle.growth.specs.Guides.{row}
use Rattle.growth.specs.Memory.{pasted}

-- the slabs of a van, counted from 0, where one slab of this size for each van and then the working slab stand in a row
abbrev pub slabs_at : ℕ → ℕ → ℕ → Slabs
slabs_at van vans size = record { own = van * size; work = vans * size; size = size }

-- the working slab lies behind the own slab, and both lie in the memory
pub record Laid (memory : List Node) (s : Slabs) : Type 0 where
  pub apart : s.own + s.size ≤ s.work
  pub room : s.work + s.size ≤ length memory

-- a slab of this size suffices for these bookings: they keep an open limit whose slab is no larger
pub record Roomy (size : ℕ) (bs : List Booking) : Type 0 where
  pub limit : ℕ
  pub few : length bs ≤ limit
  pub most : limit ≤ 4
  pub enough : slab_size limit ≤ size

-- the nodes of the own slab
abbrev pub own_slab : List Node → Slabs → List Node
own_slab memory s = row memory s.own (s.own + s.size)

-- the own slab holds the tree of a van: its nodes, then blanks
abbrev pub Holds : Rules → List Node → Slabs → Walk → Type 0
Holds g memory s w = own_slab memory s ≡ slab s.size (tree_row g w)

-- the memory after: the own slab has these nodes, then blanks, and the working slab is blank; nothing else is written
pub record Replaced (memory : List Node) (s : Slabs) (xs : List Node) (after : List Node) : Type 0 where
  pub written : after ≡ pasted (pasted memory s.own (slab s.size xs)) s.work (replicate s.size blank)
  pub own : own_slab after s ≡ slab s.size xs
  pub work : row after s.work (s.work + s.size) ≡ replicate s.size blank
  pub before : (from to : ℕ) → from ≤ to → to ≤ s.own → row after from to ≡ row memory from to
  pub between : (from to : ℕ) → s.own + s.size ≤ from → from ≤ to → to ≤ s.work → row after from to ≡ row memory from to
  pub behind : (from to : ℕ) → s.work + s.size ≤ from → row after from to ≡ row memory from to
