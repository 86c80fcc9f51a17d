-- Defines the present state of a fleet, and for each call its checks in their order and what it changes.
use Rattle.std.specs.Prelude.{◌≡◌, ℕ, ◌+◌, ◌-◌, Bool, true, false, cond, not, ◌&&◌, List, [], ◌∷◌, map, length, is_some, Some, None, Ok, Err, Option, Result, ◌==◌, nat_le, nat_lt, slice_index_or, slice_set}
use Rattle.orders.specs.declared.Booking.{Booking}
use Rattle.orders.specs.declared.Booking.TheVariants.{Waiting, Aboard}
use Rattle.orders.specs.declared.StopKind.{StopKind}
use Rattle.orders.specs.Bookings.{next_stop, kind_of, served, insert, remove}
use Rattle.orders.specs.Rules.{Rules}
use Rattle.orders.specs.Walks.{Walk, departs, van}
use Rattle.fleet.specs.declared.refusal.Refusal.{Refusal}
use Rattle.fleet.specs.declared.refusal.Refusal.TheVariants.{BeyondWeek, NoSuchVan, OnDuty, OffDuty, NoSuchPlace, TooEarly, HasBookings, BadNumber, AlreadyOpen, NotOpen, NotThere, DoesNotFit}
use Rattle.fleet.specs.declared.refusal.Refusal.TheVariants as refusal
use Rattle.fleet.specs.declared.state.State.{State}
use Rattle.fleet.specs.declared.state.Van.{Van}
use Rattle.roads.specs.Roads.{between}
use Rattle.stowage.specs.Figures.{week}
use Rattle.stowage.specs.declared.Promise.{Promise}
use Rattle.growth.specs.declared.walk.Position.{Position}
use Rattle.growth.specs.Positions.{compact, fit_together}
use Rattle.fleet.specs.Slots.{slots, numbered}
use Rattle.fleet.specs.Quotes.{quoted}
use Rattle.fleet.specs.Terms.{Terms}

-- a van's open bookings
abbrev pub open_bookings : Van → List Booking
open_bookings w = compact w.bookings

-- the walk that begins at a van
abbrev pub van_walk : Van → Walk
van_walk w = van w.place w.second w.driven (open_bookings w)

-- the position from which its tree grows
abbrev pub position_of : Van → Position
position_of w = record { place = w.place; second = w.second; driven = w.driven; cost = 0; bookings = w.bookings }

-- a check that refuses, or goes on
abbrev pub check : {X : Type 0} → Bool → Refusal → Result X Refusal → Result X Refusal
check true refusal on = on
check false refusal on = Err refusal

-- numbered 1 to the number of vans, which is 32 at most
abbrev pub is_van : State → ℕ → Bool
is_van s v = nat_le 1 v && (nat_le v s.size && nat_le v 32)

-- the van of that number, if it is on duty
abbrev pub van_at : State → ℕ → Option Van
van_at s v = slice_index_or s.vans (v - 1) None

-- the state with another van, or none, in that number's place
abbrev pub with_van : State → ℕ → Option Van → State
with_van s v van = record { size = s.size; open_limit = s.open_limit; clock = s.clock; vans = slice_set s.vans (v - 1) van }

-- a van at this time at least
abbrev pub waited : ℕ → Option Van → Option Van
waited time None = None
waited time (Some w) = Some (record { place = w.place; second = cond (nat_lt w.second time) time w.second; driven = w.driven; bookings = w.bookings })

-- the clock moves on, and each van on duty whose time is below it with it
abbrev pub clocked : State → ℕ → State
clocked s time = record { size = s.size; open_limit = s.open_limit; clock = time; vans = map (waited time) s.vans }

-- clock: not beyond the week, and not back
abbrev pub clock_call : State → ℕ → Result State Refusal
clock_call s time =
    check (nat_le time week) BeyondWeek
    (check (nat_le s.clock time) TooEarly
    (Ok (clocked s time)))

-- a van that comes on duty, with nothing open
abbrev pub fresh : ℕ → ℕ → Van
fresh place second = record { place = place; second = second; driven = 0; bookings = slots [] }

-- join: a van that is off duty comes on duty at a place
abbrev pub join_call : State → (places van place time : ℕ) → Result State Refusal
join_call s places v place time =
    check (is_van s v) NoSuchVan
    (check (not (is_some (van_at s v))) OnDuty
    (check (nat_lt place places) (NoSuchPlace place)
    (check (nat_le time week) BeyondWeek
    (check (nat_le s.clock time) TooEarly
    (Ok (with_van s v (Some (fresh place time))))))))

-- what is asked of a van on duty
abbrev pub of_van : {X : Type 0} → Option Van → (Van → Result X Refusal) → Result X Refusal
of_van None ask = Err OffDuty
of_van (Some w) ask = ask w

-- the van of that number, which has to be on duty
abbrev pub on_duty : State → ℕ → Result Van Refusal
on_duty s v =
    check (is_van s v) NoSuchVan
    (of_van (van_at s v) (λ w.
    Ok w))

-- leave: a van with nothing open goes off duty
abbrev pub leave_call : State → ℕ → Result State Refusal
leave_call s v =
    check (is_van s v) NoSuchVan
    (of_van (van_at s v) (λ w.
    check (not (is_some (slice_index_or w.bookings 0 None))) HasBookings
    (Ok (with_van s v None))))

-- what is asked of a leg that the roads know
abbrev pub of_leg : {X : Type 0} → Option ℕ → ℕ → (ℕ → Result X Refusal) → Result X Refusal
of_leg None place ask = Err (NoSuchPlace place)
of_leg (Some leg) place ask = ask leg

-- a van that is bound for a place: it can next turn there, at this second, and the leg adds to what it has driven
abbrev pub bound_for : Van → (place second leg : ℕ) → Van
bound_for w place second leg = record { place = place; second = second; driven = w.driven + leg; bookings = w.bookings }

-- bound: a van drives to a place, no faster than the roads
abbrev pub bound_call : State → ℕ → (ℕ → ℕ → ℕ) → (van place time : ℕ) → Result State Refusal
bound_call s places trip v place time =
    check (is_van s v) NoSuchVan
    (of_van (van_at s v) (λ w.
    of_leg (between places trip w.place place) place (λ leg.
    check (nat_le time week) BeyondWeek
    (check (nat_le (w.second + leg) time) TooEarly
    (Ok (with_van s v (Some (bound_for w place time leg))))))))

-- an accepted call changes the state, a refused one does not
abbrev pub Changes : Result State Refusal → State → State → Result (Unit {0}) Refusal → Type 0
Changes (Ok s') s after r = (after ≡ s') × (r ≡ Ok tt)
Changes (Err f) s after r = (after ≡ s) × (r ≡ Err f)

-- the booking of number n, if it is open on the van
abbrev pub open_on : ℕ → Option Van → Option Booking
open_on n None = None
open_on n (Some w) = numbered n (compact w.bookings)

-- the first van, its place counted on from i, on which the booking of number n is open, and the booking
abbrev pub holder_of : ℕ → ℕ → List (Option Van) → Option (ℕ × Booking)
holder_of n i [] = None
holder_of n i (v ∷ vs) = elim (open_on n v) [ Some b ↦ Some (i, b) | None ↦ holder_of n (i + 1) vs ]

-- a van without the booking of number n
abbrev pub relieved : ℕ → Van → Van
relieved n w = record { place = w.place; second = w.second; driven = w.driven; bookings = slots (remove n (compact w.bookings)) }

-- the state without the booking of number n on the i-th van, from 0
abbrev pub cancelled_on : State → ℕ → ℕ → Van → State
cancelled_on s n i w = record { size = s.size; open_limit = s.open_limit; clock = s.clock; vans = slice_set s.vans i (Some (relieved n w)) }

-- a booking that waits is gone; one that is aboard stays
abbrev pub cancelled_from : State → ℕ → ℕ → Booking → Result State Refusal
cancelled_from s n i (Waiting pickup j) = of_van (slice_index_or s.vans i None) (λ w. Ok (cancelled_on s n i w))
cancelled_from s n i (Aboard since j) = Err refusal.Aboard

-- what is asked of the van that holds a booking
abbrev pub of_holder : {X : Type 0} → Option (ℕ × Booking) → (ℕ → Booking → Result X Refusal) → Result X Refusal
of_holder None ask = Err NotOpen
of_holder (Some h) ask = ask h.0 h.1

-- cancel: the booking is looked for on every van
abbrev pub cancel_call : State → ℕ → Result State Refusal
cancel_call s n = of_holder (holder_of n 0 s.vans) (cancelled_from s n)

-- an accepted call changes the state and is answered, a refused one changes nothing
abbrev pub Acts : {X : Type 0} → Result (State × X) Refusal → State → State → Result X Refusal → Type 0
Acts (Ok q) s after r = (after ≡ q.0) × (r ≡ Ok q.1)
Acts (Err f) s after r = (after ≡ s) × (r ≡ Err f)

-- what is answered where there is nothing to tell
abbrev pub no_answer : Result State Refusal → Result (State × Unit {0}) Refusal
no_answer (Ok s') = Ok (s', tt)
no_answer (Err f) = Err f

-- what is asked of an open booking
abbrev pub of_booking : {X : Type 0} → Option Booking → (Booking → Result X Refusal) → Result X Refusal
of_booking None ask = Err NotOpen
of_booking (Some b) ask = ask b

-- the van once it has served the next stop of the booking of number n
abbrev pub served_van : Van → ℕ → ℕ → Van
served_van w n time = record { place = w.place; second = departs time; driven = w.driven; bookings = slots (served w.driven n (open_bookings w)) }

-- at a pickup the loads then aboard fit together
abbrev pub fits_aboard : Rules → Booking → List Booking → Bool
fits_aboard g (Waiting pickup j) bs = fit_together g bs
fits_aboard g (Aboard since j) bs = true

-- by how much a stop is served after its closing
abbrev pub late_by : ℕ → Booking → ℕ
late_by time b = time - (next_stop b).window.closes

-- by how many road seconds a ride that ends here is over its limit
abbrev pub over_by : ℕ → Booking → ℕ
over_by driven (Waiting pickup j) = 0
over_by driven (Aboard since j) = (driven - since) - j.ride_limit

-- what is told of a stop that is served: pickup or drop-off, the seconds late, the road seconds over
abbrev pub Service : Type 0
Service = StopKind × ℕ × ℕ

abbrev pub service_of : Van → Booking → ℕ → Service
service_of w b time = (kind_of b, late_by time b, over_by w.driven b)

-- served: the van is where the stop is, not before it opens, and a load that is picked up fits
abbrev pub served_call : Rules → State → (van number time : ℕ) → Result (State × Service) Refusal
served_call g s v n time =
    check (is_van s v) NoSuchVan
    (of_van (van_at s v) (λ w.
    of_booking (numbered n (open_bookings w)) (λ b.
    check (w.place == (next_stop b).place) NotThere
    (check (nat_le time week) BeyondWeek
    (check (nat_le w.second time && nat_le (next_stop b).window.opens time) TooEarly
    (check (fits_aboard g b (served w.driven n (open_bookings w))) DoesNotFit
    (Ok (with_van s v (Some (served_van w n time)), service_of w b time))))))))

-- a promised booking, which waits
abbrev pub promised : (number from to : ℕ) → Promise → Booking
promised n from to p =
    Waiting (record { place = from; window = p.pickup }) (record { number = n; dropoff = record { place = to; window = p.dropoff }; load = p.load; ride_limit = p.ride_limit })

abbrev pub if_promised : (number from to : ℕ) → Result Promise Refusal → Result Booking Refusal
if_promised n from to (Ok p) = Ok (promised n from to p)
if_promised n from to (Err f) = Err f

-- the booking that is asked for, with a number that is in range and not open, as it is promised
abbrev pub requested : Terms → State → (number from to : ℕ) → List ℕ → Result Booking Refusal
requested t s n from to figures =
    check (nat_le 1 n && nat_le n 65535) BadNumber
    (check (not (is_some (holder_of n 0 s.vans))) AlreadyOpen
    (if_promised n from to (quoted t.rules.places t.rules.trip t.promise from to figures)))

-- a van that takes a booking
abbrev pub taking : Van → Booking → Van
taking w b = record { place = w.place; second = w.second; driven = w.driven; bookings = slots (insert b (open_bookings w)) }

-- a van with fewer open bookings than the limit
abbrev pub has_room : State → Van → Bool
has_room s w = nat_lt (length (open_bookings w)) s.open_limit

-- the state once the van of that number takes a booking, if it is on duty and has room
abbrev pub taken_by : State → ℕ → Booking → Option Van → State
taken_by s v b None = s
taken_by s v b (Some w) = cond (has_room s w) (with_van s v (Some (taking w b))) s

abbrev pub taken : State → ℕ → Booking → State
taken s v b = taken_by s v b (van_at s v)
