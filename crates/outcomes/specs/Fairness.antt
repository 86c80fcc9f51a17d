-- Defines, in the words of valid orders, what node memory tells of the vans, and who gets a booking.
use Rattle.std.specs.Prelude.{◌≡◌, ℕ, ◌<◌, ◌≤◌, true, ◌↔◌, List, [], ◌∷◌, map, replicate, Some, None, Ok, Err, Result, slice_index_or}
use Rattle.stowage.specs.declared.Promise.{Promise}
use Rattle.orders.specs.declared.Booking.{Booking}
use Rattle.orders.specs.declared.Node.{Node}
use Rattle.orders.specs.Bookings.{In, number_of}
use Rattle.orders.specs.Rules.{Rules}
use Rattle.orders.specs.Walks.{Walk, Valid, Timed}
use Rattle.orders.specs.Moves.{with_booking}
use Rattle.orders.specs.Orders.{Order, Plan, Price}
use Rattle.orders.specs.Trees.{paths}
use Rattle.orders.specs.Listings.{OrdersAscend, PathsAscend, Spans}
use Rattle.orders.specs.Slabs.{blank, slab}
use Rattle.orders.specs.Laws.{Begins, spanning}
use Rattle.van_slab.specs.Trails.{trails}
use Rattle.van_slab.specs.Laws.{numbers, seconds, order_of, Shown}
use Rattle.fleet.specs.declared.refusal.Refusal.{Refusal}
use Rattle.fleet.specs.declared.refusal.Refusal.TheVariants.{NoVan}
use Rattle.fleet.specs.declared.call.Booked.{Booked}
use Rattle.fleet.specs.declared.state.State.{State}
use Rattle.fleet.specs.declared.state.Van.{Van}
use Rattle.fleet.specs.States.{van_walk, is_van, van_at, with_van, has_room, taking, holder_of, promised}
use Rattle.fleet.specs.SoundTest.{is_sound}
use Rattle.outcomes.specs.Settled.{slab_nodes, slab_at, Settled}
use Rattle.outcomes.specs.Outcomes.{given_to, best_offer}

-- the orders that a slab lists of a van with these open bookings; with nothing open, the empty order
abbrev pub orders_in : List Booking → List Node → List Order
orders_in [] xs = ([], 0) ∷ []
orders_in (b ∷ bs) xs = map order_of (trails [] xs)

-- A slab tells a van's valid orders: it lists just these, each once and ascending, stop by stop as they are driven. It has
-- one node for each beginning of a valid order, with the walk's second and cost, a node before its children and siblings
-- ascending, each spanning itself and all below it; then blanks.
pub record ExactSlab (g : Rules) (size : ℕ) (w : Walk) (xs : List Node) : Type 0 where
  pub lists : (o : List ℕ) (cost : ℕ) → In (o, cost) (orders_in w.bookings xs) ↔ Valid g w o cost
  pub once : OrdersAscend (orders_in w.bookings xs)
  pub driven : (t : List Node) → In t (trails [] xs) → Shown g w 1 t × Timed g w (numbers t) (seconds t)
  pub row : List Node
  pub filled : xs ≡ slab size row
  pub each : (p : List ℕ) (x : Node) → In (p, x) (paths [] row) → Begins g w 1 p x
  pub all : (p : List ℕ) (x : Node) → Begins g w 1 p x → (span : ℕ) × In (p, spanning x span) (paths [] row)
  pub ascending : PathsAscend (paths [] row)
  pub spans : Spans row

-- every van's slab tells its valid orders from its present state, and is blank off duty; the working slab is blank
pub record Exact (g : Rules) (s : State) (nodes : List Node) : Type 0 where
  pub on_duty : (i : ℕ) (w : Van) → i < s.size → slice_index_or s.vans i None ≡ Some w → ExactSlab g (slab_nodes s) (van_walk w) (slab_at s nodes i)
  pub off_duty : (i : ℕ) → i < s.size → slice_index_or s.vans i None ≡ None → slab_at s nodes i ≡ replicate (slab_nodes s) blank
  pub working : slab_at s nodes s.size ≡ replicate (slab_nodes s) blank

-- the van of that number is on duty and below the open limit
pub record BelowLimit (s : State) (v : ℕ) (w : Van) : Type 0 where
  pub its : is_van s v ≡ true
  pub at : van_at s v ≡ Some w
  pub room : has_room s w ≡ true

-- it has a valid order with the booking
abbrev pub CanTake : Rules → State → Booking → ℕ → Type 0
CanTake g s b v = (w : Van) × BelowLimit s v w × ((o : List ℕ) × (cost : ℕ) × Valid g (with_booking (van_walk w) b) o cost)

-- it can take the booking at this price: the least cost with it less the least cost without it
abbrev pub Asks : Rules → State → Booking → (van price : ℕ) → Type 0
Asks g s b v price = (w : Van) × BelowLimit s v w × Price g (van_walk w) b price

-- the plan of a walk serves a stop of the booking, its pickup for kind 0 and its drop-off for kind 1, at this second
abbrev pub Planned : Rules → Walk → (number kind second : ℕ) → Type 0
Planned g w n k second =
    (o : List ℕ) × (cost : ℕ) × Plan g w o cost × ((t : List Node) × Shown g w 1 t × (order_of t ≡ (o, cost))
    × ((x : Node) × In x t × (x.booking ≡ n) × (x.kind ≡ k) × (x.second ≡ second)))

-- The booking goes to a van that can take it. No other van that can asks less, and none of a lower number asks the same. The
-- seconds told are those of the van's plan with the booking, its valid order of least cost, the first among equals.
pub record Won (g : Rules) (s : State) (b : Booking) (s' : State) (a : Booked) : Type 0 where
  pub van : Van
  pub below : BelowLimit s a.van van
  pub price : Price g (van_walk van) b a.price
  pub others : (v : ℕ) → CanTake g s b v → (p : ℕ) × Asks g s b v p
  pub least : (v p : ℕ) → Asks g s b v p → a.price ≤ p
  pub lowest : (v : ℕ) → Asks g s b v a.price → a.van ≤ v
  pub pickup : Planned g (with_booking (van_walk van) b) (number_of b) 0 a.pickup
  pub dropoff : Planned g (with_booking (van_walk van) b) (number_of b) 1 a.dropoff
  pub after : s' ≡ with_van s a.van (Some (taking van b))

-- a booking that passes every other check is refused, with 18, where no van below the open limit has a valid order with it,
-- and else it is won
abbrev pub Fairly : Rules → State → Booking → Result (State × Booked) Refusal → Type 0
Fairly g s b (Ok q) = Won g s b q.0 q.1
Fairly g s b (Err f) = (f ≡ NoVan) × ((v : ℕ) → CanTake g s b v → ⊥)

-- Exactness of node memory: where the state is sound and memory is settled, memory tells every van's valid orders.
abbrev pub TellsAll : Rules → Type 0
TellsAll g = (s : State) → is_sound s ≡ true → (nodes : List Node) → Settled g s nodes → Exact g s nodes

-- Fairness: from a sound state, what becomes of a booking whose number no van holds is fair.
abbrev pub Fair : Rules → Type 0
Fair g =
    (s : State) → is_sound s ≡ true → (n from to : ℕ) (p : Promise) → holder_of n 0 s.vans ≡ None →
    Fairly g s (promised n from to p) (given_to g s (promised n from to p) (best_offer g s (promised n from to p)))
