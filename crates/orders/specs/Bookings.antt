-- Defines the open bookings of a van: the next stop of each, what is left when it is served, and what is aboard.
use Rattle.std.specs.Prelude.{◌≡◌, ℕ, ◌+◌, ◌<◌, cond, ◌⊎◌, List, [], ◌∷◌, ◌++◌, ◌==◌, ◌≢◌, nat_lt}
use Rattle.stowage.specs.declared.Load.{Load}
use Rattle.orders.specs.declared.Stop.{Stop}
use Rattle.orders.specs.declared.Booking.{Booking}
use Rattle.orders.specs.declared.Booking.TheVariants.{Waiting, Aboard}
use Rattle.orders.specs.declared.StopKind.{StopKind}
use Rattle.orders.specs.declared.StopKind.TheVariants.{Pickup, DropOff}

-- x stands in the list
abbrev pub In : {X : Type 0} → X → List X → Type 0
In x [] = ⊥
In x (y ∷ ys) = (x ≡ y) ⊎ In x ys

-- a booking's number
abbrev pub number_of : Booking → ℕ
number_of (Waiting pickup j) = j.number
number_of (Aboard since j) = j.number

-- a booking's next stop: its pickup while it waits, its drop-off once it is aboard
abbrev pub next_stop : Booking → Stop
next_stop (Waiting pickup j) = pickup
next_stop (Aboard since j) = j.dropoff

-- the kind of a booking's next stop: it waits for its pickup, or is aboard until its drop-off
abbrev pub kind_of : Booking → StopKind
kind_of (Waiting pickup j) = Pickup
kind_of (Aboard since j) = DropOff

-- the number by which node memory tells a kind
abbrev pub kind_number : StopKind → ℕ
kind_number Pickup = 0
kind_number DropOff = 1

-- 0 where the next stop is a pickup, 1 where it is a drop-off
abbrev pub stop_kind : Booking → ℕ
stop_kind b = kind_number (kind_of b)

-- what stays open of a booking whose next stop is served when the van has driven so many seconds
abbrev pub remaining : ℕ → Booking → List Booking
remaining driven (Waiting pickup j) = Aboard driven j ∷ []
remaining driven (Aboard since j) = []

-- the open bookings once the next stop of number n is served
abbrev pub served : ℕ → ℕ → List Booking → List Booking
served driven n [] = []
served driven n (b ∷ bs) = cond (number_of b == n) (remaining driven b ++ bs) (b ∷ served driven n bs)

-- the open bookings with one more, at its place by number
abbrev pub insert : Booking → List Booking → List Booking
insert b [] = b ∷ []
insert b (c ∷ cs) = cond (nat_lt (number_of b) (number_of c)) (b ∷ c ∷ cs) (c ∷ insert b cs)

-- the open bookings but for the one of number n
abbrev pub remove : ℕ → List Booking → List Booking
remove n [] = []
remove n (b ∷ bs) = cond (number_of b == n) bs (b ∷ remove n bs)

-- the loads that are aboard
abbrev pub loads : List Booking → List Load
loads [] = []
loads (Waiting pickup j ∷ bs) = loads bs
loads (Aboard since j ∷ bs) = j.load ∷ loads bs

-- how many stops are open
abbrev pub stops : List Booking → ℕ
stops [] = 0
stops (Waiting pickup j ∷ bs) = 2 + stops bs
stops (Aboard since j ∷ bs) = 1 + stops bs

-- every booking has a number above n
abbrev pub Above : ℕ → List Booking → Type 0
Above n [] = Unit {0}
Above n (b ∷ bs) = (n < number_of b) × Above n bs

-- the numbers ascend
abbrev pub Ascending : List Booking → Type 0
Ascending [] = Unit {0}
Ascending (b ∷ bs) = Above (number_of b) bs × Ascending bs

-- no booking has b's number
abbrev pub New : Booking → List Booking → Type 0
New b bs = (c : Booking) → In c bs → number_of c ≢ number_of b
