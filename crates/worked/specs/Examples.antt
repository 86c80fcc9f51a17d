-- The worked examples: a table of rows, and what it is for a row to hold.
use Rattle.std.specs.Prelude.{◌≡◌, ℕ, true, false, ◌↔◌, List, [], ◌∷◌, length, is_some, Ok}
use Rattle.roads.specs.Faults.{fault_number, fault_detail}
use Rattle.roads.specs.TableFaults.{Refuses}
use Rattle.roads.specs.Tables.{LawfulTable}
use Rattle.roads.specs.declared.RoadFault.{RoadFault}
use Rattle.stowage.specs.Passengers.{passenger_promise, seat, vacant}
use Rattle.stowage.specs.Together.{stowed}
use Rattle.stowage.specs.declared.Load.{Load}
use Rattle.stowage.specs.declared.Promise.{Promise}
use Rattle.orders.specs.Bookings.{In}
use Rattle.orders.specs.Moves.{at_time, served_at, without_booking}
use Rattle.orders.specs.Orders.{Order, Price}
use Rattle.orders.specs.Trees.{tree_row}
use Rattle.orders.specs.Walks.{Walk, Valid, Timed}
use Rattle.orders.specs.declared.Booking.{Booking}
use Rattle.worked.specs.Town.{Trade, passengers, parcels, town, rider, group, seven, eight, parcel, van_one, van_at_seven, after_pickup}

-- so many seats and wheelchairs
abbrev pub seats : ℕ → ℕ → Load
seats s w = record { first = s; second = w }

-- what an example says
pub data Example : Type 0 where
  -- passengers over so many direct seconds, with that detour percent, have that ride limit
  ride_limit : (direct percent limit : ℕ) → Example
  -- the loads fit into an empty passenger van together, or they do not
  together : List Load → Example
  apart : List Load → Example
  -- the table is refused with that number and detail, or accepted
  table_refused : (places : ℕ) → (seconds : List ℕ) → (number detail : ℕ) → Example
  table_accepted : (places : ℕ) → (seconds : List ℕ) → Example
  -- in town, a van's valid orders are just these, with their costs
  valid_orders_are : Trade → Walk → List Order → Example
  -- its tree has so many nodes
  nodes_are : Trade → Walk → ℕ → Example
  -- the order is not valid at any cost
  not_valid : Trade → Walk → List ℕ → Example
  -- the order is served at these seconds
  served_by : Trade → Walk → List ℕ → List ℕ → Example
  -- the booking has that price on the van
  price_is : Trade → Walk → Booking → ℕ → Example

abbrev pub Holds : Example → Type 0
Holds (ride_limit direct percent limit) =
    (p : Promise) × (passenger_promise (1 ∷ 0 ∷ 0 ∷ 600 ∷ percent ∷ 3600 ∷ []) direct ≡ Ok p) × (p.ride_limit ≡ limit)
Holds (together loads) = is_some (stowed seat vacant loads) ≡ true
Holds (apart loads) = is_some (stowed seat vacant loads) ≡ false
Holds (table_refused places seconds number detail) =
    (f : RoadFault) × Refuses places seconds f × (fault_number f ≡ number) × (fault_detail f ≡ detail)
Holds (table_accepted places seconds) = LawfulTable places seconds
Holds (valid_orders_are t w orders) = (o : List ℕ) (cost : ℕ) → In (o, cost) orders ↔ Valid (town t) w o cost
Holds (nodes_are t w count) = length (tree_row (town t) w) ≡ count
Holds (not_valid t w o) = (cost : ℕ) → Valid (town t) w o cost → ⊥
Holds (served_by t w o seconds) = Timed (town t) w o seconds
Holds (price_is t w b price) = Price (town t) w b price

-- the table
abbrev pub rows : List Example
rows =
    ride_limit 101 50 151
    ∷ together (seats 6 0 ∷ seats 0 1 ∷ [])
    ∷ apart (seats 6 0 ∷ seats 0 1 ∷ seats 1 0 ∷ [])
    ∷ table_refused 3 (0 ∷ 5 ∷ 11 ∷ 5 ∷ 0 ∷ 5 ∷ 11 ∷ 5 ∷ 0 ∷ []) 6 66
    ∷ table_accepted 3 (0 ∷ 5 ∷ 10 ∷ 5 ∷ 0 ∷ 5 ∷ 10 ∷ 5 ∷ 0 ∷ [])
    -- bookings 7 and 8 on van 1: four orders in 14 nodes; 7887 would ride 300 seconds, over the limit of 150
    ∷ valid_orders_are passengers (van_one (seven ∷ eight ∷ []))
    ((7 ∷ 7 ∷ 8 ∷ 8 ∷ [], 300) ∷ (7 ∷ 8 ∷ 7 ∷ 8 ∷ [], 300) ∷ (8 ∷ 7 ∷ 8 ∷ 7 ∷ [], 400) ∷ (8 ∷ 8 ∷ 7 ∷ 7 ∷ [], 400) ∷ [])
    ∷ nodes_are passengers (van_one (seven ∷ eight ∷ [])) 14
    ∷ not_valid passengers (van_one (seven ∷ eight ∷ [])) (7 ∷ 8 ∷ 8 ∷ 7 ∷ [])
    -- their prices, one after the other
    ∷ price_is passengers (van_one []) seven 200
    ∷ price_is passengers (van_one (seven ∷ [])) eight 100
    -- after the pickup of 7 at place 1
    ∷ valid_orders_are passengers after_pickup ((7 ∷ 8 ∷ 8 ∷ [], 200) ∷ (8 ∷ 7 ∷ 8 ∷ [], 200) ∷ [])
    -- booking 7 alone: its pickup closes at 600, 100 seconds away
    ∷ valid_orders_are passengers (at_time (van_one (seven ∷ [])) 500) ((7 ∷ 7 ∷ [], 200) ∷ [])
    ∷ valid_orders_are passengers (at_time (van_one (seven ∷ [])) 501) []
    -- a parcel that opens at 500 is served then, though the van is there at 100
    ∷ served_by parcels (van_one (parcel ∷ [])) (9 ∷ 9 ∷ []) (500 ∷ 600 ∷ [])
    -- two groups that fill the van are never aboard together
    ∷ valid_orders_are passengers (van_one (group 1 0 1 ∷ group 2 0 1 ∷ [])) ((1 ∷ 1 ∷ 2 ∷ 2 ∷ [], 300) ∷ (2 ∷ 2 ∷ 1 ∷ 1 ∷ [], 300) ∷ [])
    -- a stop that the roads do not know is never served
    ∷ valid_orders_are passengers (van_one (rider 7 1 4 ∷ [])) []
    -- a cancel may add orders: beside one that the roads do not know, 7 has no order; alone it has
    ∷ valid_orders_are passengers (van_one (seven ∷ rider 8 4 1 ∷ [])) []
    ∷ valid_orders_are passengers (without_booking (van_one (seven ∷ rider 8 4 1 ∷ [])) 8) ((7 ∷ 7 ∷ [], 200) ∷ [])
    -- so may a late pickup: at 700 it is too late for 7, but once it is aboard it has an order
    ∷ valid_orders_are passengers (van_at_seven 700) []
    ∷ valid_orders_are passengers (served_at (van_at_seven 700) seven 700) ((7 ∷ [], 100) ∷ [])
    ∷ []
