-- Defines what a call does to a machine, and a run of calls, in the words of valid orders.
use Rattle.std.specs.Prelude.{◌≡◌, ℕ, false, ◌⊎◌, ◌↔◌, List, [], ◌∷◌, length, drop, Ok, Err, Result}
use Rattle.orders.specs.declared.Booking.{Booking}
use Rattle.orders.specs.declared.Node.{Node}
use Rattle.van_slab.specs.declared.Itinerary.{Itinerary}
use Rattle.fleet.specs.declared.call.Booked.{Booked}
use Rattle.fleet.specs.declared.call.Call.{Call}
use Rattle.fleet.specs.declared.call.Call.TheVariants.{Clock, Join, Leave, Book, Bound, Served, Cancel, Plan, Order}
use Rattle.fleet.specs.declared.call.Report.{Report}
use Rattle.fleet.specs.declared.call.Report.TheVariants as report
use Rattle.fleet.specs.declared.refusal.Refusal.{Refusal}
use Rattle.fleet.specs.declared.state.State.{State}
use Rattle.fleet.specs.Answers.{Answer, answer_number, accepted}
use Rattle.fleet.specs.Terms.{Terms}
use Rattle.fleet.specs.States.{clock_call, join_call, leave_call, bound_call, served_call, cancel_call, requested, no_answer, Service}
use Rattle.outcomes.specs.Settled.{needed, Settled, Writes, untouched, one_van, waiting_vans, holding_van, roomy_vans}
use Rattle.outcomes.specs.Outcomes.{with_nodes, book_call, plan_call, order_call, plan_read, order_read, Books, Made}
use Rattle.outcomes.specs.Fairness.{Exact, CanTake, Won}

-- how a result is told
abbrev pub told : {X : Type 0} → (X → Report) → Result X Refusal → Answer
told f (Ok x) = Ok (f x)
told f (Err e) = Err e

abbrev pub done : Unit {0} → Report
done x = report.Done

abbrev pub service : Service → Report
service x = report.Served x.0 x.1 x.2

-- the state after, and what is reported
abbrev pub told_as : {X : Type 0} → (X → Report) → Result (State × X) Refusal → Result (State × Report) Refusal
told_as f (Ok q) = Ok (q.0, f q.1)
told_as f (Err e) = Err e

-- a question leaves the state
abbrev pub of_state : State → Result Itinerary Refusal → Result (State × Itinerary) Refusal
of_state s (Ok r) = Ok (s, r)
of_state s (Err e) = Err e

-- what a call leads to, from the present state alone
abbrev pub outcome : Terms → State → Call → Result (State × Report) Refusal
outcome t s (Clock time) = told_as done (no_answer (clock_call s time))
outcome t s (Join van place time) = told_as done (no_answer (join_call s t.rules.places van place time))
outcome t s (Leave van) = told_as done (no_answer (leave_call s van))
outcome t s (Book number from to figures) = told_as report.Booked (book_call t s number from to figures)
outcome t s (Bound van place time) = told_as done (no_answer (bound_call s t.rules.places t.rules.trip van place time))
outcome t s (Served van number time) = told_as service (served_call t.rules s van number time)
outcome t s (Cancel number) = told_as done (no_answer (cancel_call s number))
outcome t s (Plan van) = told_as report.Listed (of_state s (plan_call t.rules s van))
outcome t s (Order van index) = told_as report.Listed (of_state s (order_call t.rules s van index))

-- the answer, and the state after: a refused call leaves the state
abbrev pub answer_of : Result (State × Report) Refusal → Answer
answer_of (Ok q) = Ok q.1
answer_of (Err e) = Err e

abbrev pub state_after : State → Result (State × Report) Refusal → State
state_after s (Ok q) = q.0
state_after s (Err e) = s

-- the call is answered, and leaves the state, as this outcome says
pub record Gives (o : Result (State × Report) Refusal) (s : State) (a : Answer) (s' : State) : Type 0 where
  pub answer : a ≡ answer_of o
  pub state : s' ≡ state_after s o

-- which slabs a call may touch, by index
abbrev pub touched : State → Call → ℕ → Type 0
touched s (Clock time) = waiting_vans s time
touched s (Join van place time) = untouched
touched s (Leave van) = untouched
touched s (Book number from to figures) = roomy_vans s
touched s (Bound van place time) = one_van van
touched s (Served van number time) = one_van van
touched s (Cancel number) = holding_van s number
touched s (Plan van) = untouched
touched s (Order van index) = untouched

-- What holds of a call on any nodes: book is refused as ever but for 18, or gives the booking to some van on duty below the
-- open limit; plan and order leave the state, and tell what the nodes of the slab tell; all else is as on settled nodes.
abbrev pub OnAnyNodes : Terms → State → List Node → Call → Answer → State → Type 0
OnAnyNodes t s nodes (Clock time) a s' = Gives (with_nodes s (length nodes) (outcome t s (Clock time))) s a s'
OnAnyNodes t s nodes (Join van place time) a s' = Gives (with_nodes s (length nodes) (outcome t s (Join van place time))) s a s'
OnAnyNodes t s nodes (Leave van) a s' = Gives (with_nodes s (length nodes) (outcome t s (Leave van))) s a s'
OnAnyNodes t s nodes (Book number from to figures) a s' = (r : Result Booked Refusal) × (a ≡ told report.Booked r) × Books (with_nodes s (length nodes) (requested t s number from to figures)) s s' r
OnAnyNodes t s nodes (Bound van place time) a s' = Gives (with_nodes s (length nodes) (outcome t s (Bound van place time))) s a s'
OnAnyNodes t s nodes (Served van number time) a s' = Gives (with_nodes s (length nodes) (outcome t s (Served van number time))) s a s'
OnAnyNodes t s nodes (Cancel number) a s' = Gives (with_nodes s (length nodes) (outcome t s (Cancel number))) s a s'
OnAnyNodes t s nodes (Plan van) a s' = (a ≡ told report.Listed (with_nodes s (length nodes) (plan_read s nodes van))) × (s' ≡ s)
OnAnyNodes t s nodes (Order van index) a s' = (a ≡ told report.Listed (with_nodes s (length nodes) (order_read s nodes van index))) × (s' ≡ s)

-- What a call does, from a state and the nodes that it is handed to a state and the nodes that it leaves: on settled nodes
-- it gives the outcome of the present state, and the nodes are settled after it; on any nodes so much holds as said above.
pub record Does (t : Terms) (c : Call) (s : State) (nodes : List Node) (a : Answer) (s' : State) (nodes' : List Node) : Type 0 where
  pub settled : Settled t.rules s nodes → Gives (outcome t s c) s a s'
  pub any : OnAnyNodes t s nodes c a s'
  pub writes : Writes t.rules s nodes (touched s c) (accepted a) s' nodes'

-- a dispatcher with the node memory that it is handed
pub record Machine : Type 0 where
  pub state : State
  pub nodes : List Node

-- A booking that passes every other check is refused with 18 exactly when no van on duty below the open limit has a valid
-- order with it; otherwise it is won by the least price.
abbrev pub FairAnswer : Terms → State → Call → Answer → State → Type 0
FairAnswer t s (Clock time) a s' = Unit {0}
FairAnswer t s (Join van place time) a s' = Unit {0}
FairAnswer t s (Leave van) a s' = Unit {0}
FairAnswer t s (Book number from to figures) a s' = (b : Booking) → requested t s number from to figures ≡ Ok b →
    ((answer_number a ≡ 18) ↔ ((v : ℕ) → CanTake t.rules s b v → ⊥)) × ((answer_number a ≡ 18) ⊎ ((x : Booked) × (a ≡ Ok (report.Booked x)) × Won t.rules s b s' x))
FairAnswer t s (Bound van place time) a s' = Unit {0}
FairAnswer t s (Served van number time) a s' = Unit {0}
FairAnswer t s (Cancel number) a s' = Unit {0}
FairAnswer t s (Plan van) a s' = Unit {0}
FairAnswer t s (Order van index) a s' = Unit {0}

-- One call of a run, nobody else reaching the nodes. Before and after it each van's slab tells exactly its valid orders from
-- its present state, and the working slab is blank; the answer and the state after are those of the present state alone; a
-- refused call alters nothing, and no call alters the nodes beyond the slabs; and bookings are given fairly.
pub record Step (t : Terms) (m : Machine) (c : Call) (a : Answer) (m' : Machine) : Type 0 where
  pub before : Exact t.rules m.state m.nodes
  pub after : Exact t.rules m'.state m'.nodes
  pub by_state : Gives (outcome t m.state c) m.state a m'.state
  pub refused : accepted a ≡ false → m' ≡ m
  pub beyond : drop (needed m.state) m'.nodes ≡ drop (needed m.state) m.nodes
  pub fair : FairAnswer t m.state c a m'.state

-- a run: the calls one after the other, each from the state and the nodes that the one before it left
pub data Run (t : Terms) : Machine → List Call → List Answer → Machine → Type 0 where
  stop : {m : Machine} → Run t m [] [] m
  next : {m m' m'' : Machine} {c : Call} {a : Answer} {calls : List Call} {answers : List Answer} → Step t m c a m' → Run t m' calls answers m'' → Run t m (c ∷ calls) (a ∷ answers) m''

-- a new dispatcher was made over these nodes and given these calls, and these are its answers and the nodes after the last
pub record Ran (t : Terms) (vans limit : ℕ) (nodes : List Node) (calls : List Call) (answers : List Answer) (nodes' : List Node) : Type 0 where
  pub first : Machine
  pub last : Machine
  pub made : Made t.rules vans limit nodes first.state first.nodes
  pub run : Run t first calls answers last
  pub left : nodes' ≡ last.nodes
  pub exact : Exact t.rules last.state last.nodes
