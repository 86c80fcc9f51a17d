-- Defines what each call leads to from the present state alone: the state after it and its answer, or its refusal.
use Rattle.std.specs.Prelude.{◌≡◌, ℕ, ◌-◌, true, ◌&&◌, List, ◌++◌, length, drop, replicate, Some, None, Ok, Err, Option, Result, nat_le, slice_index_or}
use Rattle.orders.specs.declared.Booking.{Booking}
use Rattle.orders.specs.declared.Node.{Node}
use Rattle.fleet.specs.declared.call.Offer.{Offer}
use Rattle.orders.specs.Bookings.{number_of}
use Rattle.orders.specs.Rules.{Rules}
use Rattle.orders.specs.Slabs.{blank}
use Rattle.van_slab.specs.declared.Itinerary.{Itinerary}
use Rattle.van_slab.specs.Limits.{is_limit}
use Rattle.fleet.specs.declared.refusal.Refusal.{Refusal}
use Rattle.fleet.specs.declared.refusal.Refusal.TheVariants.{VanCount, OpenLimit, TooFewNodes, NoSuchVan, NoVan, NoOrder}
use Rattle.fleet.specs.declared.call.Booked.{Booked}
use Rattle.fleet.specs.declared.state.State.{State}
use Rattle.fleet.specs.declared.state.Van.{Van}
use Rattle.fleet.specs.Terms.{Terms}
use Rattle.fleet.specs.States.{check, of_van, is_van, van_at, with_van, open_bookings, has_room, taking, taken, requested}
use Rattle.outcomes.specs.Settled.{needed, slab_at, Settled}
use Rattle.outcomes.specs.Offers.{bid, read_bid, best_of, plan_in, order_in, tree_of, plan_of, visits_of, told_booked}

-- the state at making: the clock at 0, every van off duty
abbrev pub new_state : (vans limit : ℕ) → State
new_state vans limit = record { size = vans; open_limit = limit; clock = 0; vans = replicate 32 None }

-- make: 1 to 32 vans, an open limit of 1 to 4, and nodes enough
abbrev pub make_call : (vans limit count : ℕ) → Result State Refusal
make_call vans limit count =
    check (nat_le 1 vans && nat_le vans 32) VanCount
    (check (is_limit limit) OpenLimit
    (check (nat_le (needed (new_state vans limit)) count) TooFewNodes
    (Ok (new_state vans limit))))

-- a dispatcher is made: its state is the new one, and the nodes that it needs, and no others, are blank
pub record Made (g : Rules) (vans limit : ℕ) (nodes : List Node) (s : State) (nodes' : List Node) : Type 0 where
  pub state : make_call vans limit (length nodes) ≡ Ok s
  pub blanks : nodes' ≡ replicate (needed s) blank ++ drop (needed s) nodes
  pub settled : Settled g s nodes'

-- every call asks first for nodes enough
abbrev pub with_nodes : {X : Type 0} → State → ℕ → Result X Refusal → Result X Refusal
with_nodes s count on = check (nat_le (needed s) count) TooFewNodes on

-- what is asked of a booking that can be had
abbrev pub of_request : {X : Type 0} → Result Booking Refusal → (Booking → Result X Refusal) → Result X Refusal
of_request (Ok b) ask = ask b
of_request (Err f) ask = Err f

-- the plan of the van of that number
abbrev pub plan_at : Rules → State → ℕ → Option Itinerary
plan_at g s v = elim (van_at s v) [ Some w ↦ plan_of g s w | None ↦ None ]

-- the booking goes to the best offer, and its seconds are those of that van's new plan
abbrev pub given_to : Rules → State → Booking → Option Offer → Result (State × Booked) Refusal
given_to g s b None = Err NoVan
given_to g s b (Some o) = Ok (taken s o.van b, told_booked (number_of b) o (visits_of (plan_at g (taken s o.van b) o.van)))

-- the best offer of all vans
abbrev pub best_offer : Rules → State → Booking → Option Offer
best_offer g s b = best_of (λ i. bid g s b (slice_index_or s.vans i None)) s.size

-- book
abbrev pub book_call : Terms → State → (number from to : ℕ) → List ℕ → Result (State × Booked) Refusal
book_call t s n from to figures = of_request (requested t s n from to figures) (λ b. given_to t.rules s b (best_offer t.rules s b))

-- what is told, if there is an order
abbrev pub of_order : Option Itinerary → Result Itinerary Refusal
of_order None = Err NoOrder
of_order (Some r) = Ok r

-- a question to a van on duty
abbrev pub asked_of : State → ℕ → (Van → Option Itinerary) → Result Itinerary Refusal
asked_of s v ask = check (is_van s v) NoSuchVan (of_van (van_at s v) (λ w. of_order (ask w)))

-- plan: the van's valid order of least cost
abbrev pub plan_call : Rules → State → ℕ → Result Itinerary Refusal
plan_call g s v = asked_of s v (plan_of g s)

-- order: the van's valid order at an index from 0
abbrev pub order_call : Rules → State → (van index : ℕ) → Result Itinerary Refusal
order_call g s v i = asked_of s v (λ w. order_in (open_bookings w) (tree_of g s w) i)

-- plan and order as any nodes tell them
abbrev pub plan_read : State → List Node → ℕ → Result Itinerary Refusal
plan_read s nodes v = asked_of s v (λ w. plan_in (open_bookings w) (slab_at s nodes (v - 1)))

abbrev pub order_read : State → List Node → (van index : ℕ) → Result Itinerary Refusal
order_read s nodes v i = asked_of s v (λ w. order_in (open_bookings w) (slab_at s nodes (v - 1)) i)

-- the plan of the van of that number, as any nodes tell it
abbrev pub told_plan : State → List Node → ℕ → Option Itinerary
told_plan s nodes v = elim (van_at s v) [ Some w ↦ plan_in (open_bookings w) (slab_at s nodes (v - 1)) | None ↦ None ]

-- the best offer of all vans, as any nodes tell it
abbrev pub told_offer : Rules → State → List Node → Booking → Option Offer
told_offer g s nodes b = best_of (λ i. read_bid g s b (slab_at s nodes i) (slice_index_or s.vans i None)) s.size

-- a booking is given to some van that is on duty and has room, or to none: so much holds of book on any nodes
abbrev pub Given : State → Booking → State → Result Booked Refusal → Type 0
Given s b s' (Ok a) = (w : Van) × (is_van s a.van ≡ true) × (van_at s a.van ≡ Some w) × (has_room s w ≡ true) × (s' ≡ with_van s a.van (Some (taking w b)))
Given s b s' (Err f) = (f ≡ NoVan) × (s' ≡ s)

-- book on any nodes: its refusals but 18, and else the booking is given to some van or to none
abbrev pub Books : Result Booking Refusal → State → State → Result Booked Refusal → Type 0
Books (Ok b) s s' r = Given s b s' r
Books (Err f) s s' r = (s' ≡ s) × (r ≡ Err f)
