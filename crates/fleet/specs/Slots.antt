-- Defines the four places for a van's open bookings, and how they change.
use Rattle.std.specs.Prelude.{ℕ, ◌-◌, Bool, false, cond, not, List, [], ◌∷◌, ◌++◌, map, length, position, replicate, Some, None, Option, ◌==◌, nat_le}
use Rattle.orders.specs.declared.Booking.{Booking}
use Rattle.orders.specs.Bookings.{number_of}

-- bookings in four places, the unused ones behind
abbrev pub slots : List Booking → List (Option Booking)
slots bs = map Some bs ++ replicate (4 - length bs) None

-- a place that is taken by a booking that stays before one of number n
abbrev pub stays_before : ℕ → Option Booking → Bool
stays_before n None = false
stays_before n (Some b) = nat_le (number_of b) n

-- a place that is taken by the booking of number n
abbrev pub is_numbered : ℕ → Option Booking → Bool
is_numbered n None = false
is_numbered n (Some b) = number_of b == n

-- the place, from 0, of the booking of number n
abbrev pub place_of : ℕ → List (Option Booking) → Option ℕ
place_of n held = position (is_numbered n) held

-- the first place, from 0, that has no booking that stays before one of number n
abbrev pub place_for : ℕ → List (Option Booking) → Option ℕ
place_for n held = position (λ slot. not (stays_before n slot)) held

-- the booking of number n, if it is open
abbrev pub numbered : ℕ → List Booking → Option Booking
numbered n [] = None
numbered n (b ∷ bs) = cond (number_of b == n) (Some b) (numbered n bs)

-- the bookings with x in place of the one of number n
abbrev pub exchanged : ℕ → Booking → List Booking → List Booking
exchanged n x [] = []
exchanged n x (b ∷ bs) = cond (number_of b == n) (x ∷ bs) (b ∷ exchanged n x bs)
