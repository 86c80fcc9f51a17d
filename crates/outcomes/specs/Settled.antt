-- Defines what node memory should hold, and what a call leaves in it.
use Rattle.std.specs.Prelude.{◌≡◌, ℕ, ◌+◌, ◌-◌, ◌*◌, ◌<◌, ◌≤◌, Bool, true, false, ◌&&◌, List, [], length, drop, replicate, Some, None, Option, ◌==◌, nat_lt, slice_index_or}
use Rattle.orders.specs.declared.Booking.{Booking}
use Rattle.orders.specs.declared.Node.{Node}
use Rattle.orders.specs.Rules.{Rules}
use Rattle.orders.specs.Trees.{tree_row}
use Rattle.orders.specs.Slabs.{slab_size, blank, slab}
use Rattle.orders.specs.Laws.{below_root}
use Rattle.growth.specs.declared.guide.Fresh.{Fresh}
use Rattle.growth.specs.declared.guide.Fresh.TheVariants.{Nobody, Everybody}
use Rattle.growth.specs.Guides.{row, grown_row}
use Rattle.growth.specs.Changes.{Suffices}
use Rattle.growth.specs.Slabs.{slabs_at, Replaced}
use Rattle.fleet.specs.declared.state.State.{State}
use Rattle.fleet.specs.declared.state.Van.{Van}
use Rattle.fleet.specs.States.{van_walk, open_bookings, has_room, holder_of}

-- how many nodes a slab has
abbrev pub slab_nodes : State → ℕ
slab_nodes s = slab_size s.open_limit

-- how many nodes there must be: one slab for each van, and the working slab behind them
abbrev pub needed : State → ℕ
needed s = (s.size + 1) * slab_nodes s

-- the nodes of the slab at an index from 0
abbrev pub slab_at : State → List Node → ℕ → List Node
slab_at s nodes i = row nodes (i * slab_nodes s) (i * slab_nodes s + slab_nodes s)

-- the nodes of a van's tree; a van off duty has none
abbrev pub van_row : Rules → Option Van → List Node
van_row g None = []
van_row g (Some w) = tree_row g (van_walk w)

-- what the slab of the van at an index should hold: its tree, then blanks
abbrev pub van_slab : Rules → State → ℕ → List Node
van_slab g s i = slab (slab_nodes s) (van_row g (slice_index_or s.vans i None))

-- the nodes are the dispatcher's own: each slab holds its van's tree, and the working slab is blank
pub record Settled (g : Rules) (s : State) (nodes : List Node) : Type 0 where
  pub room : needed s ≤ length nodes
  pub each : (i : ℕ) → i < s.size → slab_at s nodes i ≡ van_slab g s i
  pub work : slab_at s nodes s.size ≡ replicate (slab_nodes s) blank

-- What a call leaves in node memory, from the state s to s'. Nodes that were settled are settled; whatever they were, only
-- the slabs that the call touches and the working slab are written, and nothing where it is refused.
pub record Writes (g : Rules) (s : State) (nodes : List Node) (touched : ℕ → Type 0) (accepted : Bool) (s' : State) (nodes' : List Node) : Type 0 where
  pub settled : Settled g s nodes → Settled g s' nodes'
  pub others : (i : ℕ) → i < s.size → (touched i → ⊥) → slab_at s nodes' i ≡ slab_at s nodes i
  pub beyond : drop (needed s) nodes' ≡ drop (needed s) nodes
  pub refused : accepted ≡ false → nodes' ≡ nodes

-- a van with nothing open has an empty tree, which no move changes
abbrev pub has_tree : Van → Bool
has_tree w = nat_lt 0 (length (open_bookings w))

-- which slabs a call may touch, by index: none, that of one van, those of vans with something open that wait until a time, that
-- of the van that holds a booking, those of vans with room for another
abbrev pub untouched : ℕ → Type 0
untouched i = ⊥

abbrev pub one_van : (van : ℕ) → ℕ → Type 0
one_van v i = i ≡ v - 1

abbrev pub waiting_vans : State → (time : ℕ) → ℕ → Type 0
waiting_vans s time i = (w : Van) × (slice_index_or s.vans i None ≡ Some w) × (w.second < time) × (has_tree w ≡ true)

abbrev pub holding_van : State → (number : ℕ) → ℕ → Type 0
holding_van s n i = (b : Booking) × (holder_of n 0 s.vans ≡ Some (i, b))

abbrev pub roomy_vans : State → ℕ → Type 0
roomy_vans s i = (w : Van) × (slice_index_or s.vans i None ≡ Some w) × (has_room s w ≡ true)

-- the slab at an index gets the tree that grows from a van along old nodes, and that is the van's tree where these suffice
pub record Regrown (g : Rules) (s : State) (i : ℕ) (fresh : Fresh) (old : List Node) (w : Van) (nodes nodes' : List Node) : Type 0 where
  pub replaced : Replaced nodes (slabs_at i s.size (slab_nodes s)) (grown_row g fresh old (van_walk w)) nodes'
  pub exact : Suffices g fresh old (van_walk w) → slab_at s nodes' i ≡ slab (slab_nodes s) (tree_row g (van_walk w))

-- the slab of a van that has moved: its tree is pruned, if it has one
abbrev pub RegrownIf : Rules → State → (index : ℕ) → Bool → Van → (nodes nodes' : List Node) → Type 0
RegrownIf g s i true w nodes nodes' = Regrown g s i Nobody (slab_at s nodes i) w nodes nodes'
RegrownIf g s i false w nodes nodes' = nodes' ≡ nodes

-- a stop was served as an order may have it: not late, not over the limit, at a place that the roads know
abbrev pub as_ordered : (late over : ℕ) → (known : Bool) → Bool
as_ordered late over known = late == 0 && (over == 0 && known)

-- the slab of a van that has served a stop of booking n: what stood below it, if it was served as an order may have it; else
-- its tree, grown anew
abbrev pub RegrownAfter : Rules → State → (index number : ℕ) → Bool → Van → (nodes nodes' : List Node) → Type 0
RegrownAfter g s i n true w nodes nodes' = Regrown g s i Nobody (below_root n (slab_at s nodes i)) w nodes nodes'
RegrownAfter g s i n false w nodes nodes' = Regrown g s i Everybody (slab_at s nodes i) w nodes nodes'

-- whether a van on duty has a time below this one, and a tree that can change
abbrev pub waits : ℕ → Option Van → Bool
waits time None = false
waits time (Some w) = nat_lt w.second time && has_tree w

-- the clock has moved from s to s', and so far the slabs of the first k vans follow it
pub record PrunedTo (g : Rules) (s s' : State) (time : ℕ) (nodes : List Node) (k : ℕ) (nodes' : List Node) : Type 0 where
  pub done : Settled g s nodes → (i : ℕ) → i < k → slab_at s nodes' i ≡ van_slab g s' i
  pub others : (i : ℕ) → i < s.size → waits time (slice_index_or s.vans i None) ≡ false → slab_at s nodes' i ≡ slab_at s nodes i
  pub rest : (i : ℕ) → k ≤ i → i < s.size → slab_at s nodes' i ≡ slab_at s nodes i
  pub work : Settled g s nodes → slab_at s nodes' s.size ≡ replicate (slab_nodes s) blank
  pub beyond : drop (needed s) nodes' ≡ drop (needed s) nodes
  pub long : length nodes' ≡ length nodes
