-- Defines a van that fills its slab.
use Rattle.std.specs.Prelude.{ℕ, zero, suc, ◌+◌, List, [], ◌∷◌, Some}
use Rattle.orders.specs.declared.Stop.{Stop}
use Rattle.orders.specs.declared.Booking.{Booking}
use Rattle.orders.specs.declared.Booking.TheVariants.{Waiting}
use Rattle.orders.specs.Rules.{Rules}
use Rattle.orders.specs.Walks.{Walk, van}

-- rules under which every order is valid: one place, and a hold that takes every load
abbrev pub boundless : Rules
boundless = record { Hold = Unit {0}; places = 1; trip = λ a b. 0; empty = tt; stow = λ h l. Some tt }

-- a stop at that place, all week
abbrev pub all_week : Stop
all_week = record { place = 0; window = record { opens = 0; closes = 604800 } }

-- so many bookings that wait, numbered from n
abbrev pub waiting : ℕ → ℕ → List Booking
waiting n zero = []
waiting n (suc k) =
    Waiting all_week (record { number = n; dropoff = all_week; load = record { first = 1; second = 0 }; ride_limit = 604800 }) ∷ waiting (n + 1) k

-- a van with so many bookings that wait
abbrev pub full_van : ℕ → Walk
full_van k = van 0 0 0 (waiting 1 k)
