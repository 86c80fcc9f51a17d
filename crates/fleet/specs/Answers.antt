-- Defines the number and the values of each answer.
use Rattle.std.specs.Prelude.{ℕ, Bool, List, [], ◌∷◌, is_ok, Ok, Err, Result}
use Rattle.van_slab.specs.declared.Visit.{Visit}
use Rattle.orders.specs.Bookings.{kind_number}
use Rattle.fleet.specs.declared.call.Report.{Report}
use Rattle.fleet.specs.declared.call.Report.TheVariants.{Done, Booked, Served, Listed}
use Rattle.fleet.specs.declared.refusal.Refusal.{Refusal}
use Rattle.fleet.specs.Refusals.{refusal_number, refusal_detail}

-- what a call is answered: a report where it is accepted, else why it is refused
abbrev pub Answer : Type 0
Answer = Result Report Refusal

-- 0 for an accepted call, else the number of the refusal
abbrev pub answer_number : Answer → ℕ
answer_number (Ok r) = 0
answer_number (Err f) = refusal_number f

-- booking, kind and second of each visit
abbrev pub visit_values : List Visit → List ℕ
visit_values [] = []
visit_values (v ∷ vs) = v.booking ∷ v.kind ∷ v.second ∷ visit_values vs

-- what is told: of a booking its van, its price and the seconds of its pickup and drop-off; of a service 0 or 1 for pickup or
-- drop-off, the seconds late and the road seconds over; of an order its cost, its number of stops and eight places
abbrev pub report_values : Report → List ℕ
report_values Done = []
report_values (Booked b) = b.van ∷ b.price ∷ b.pickup ∷ b.dropoff ∷ []
report_values (Served kind late over) = kind_number kind ∷ late ∷ over ∷ []
report_values (Listed r) = r.cost ∷ r.stops ∷ visit_values r.visits

-- what a report tells; of a refusal its detail
abbrev pub answer_values : Answer → List ℕ
answer_values (Ok r) = report_values r
answer_values (Err f) = refusal_detail f ∷ []

-- whether the call was accepted
abbrev pub accepted : Answer → Bool
accepted a = is_ok a
