-- Defines the test that a present state is sound: every number is in its range, every van's bookings stand as they should,
-- and no booking's number is open twice.
use Rattle.std.specs.Prelude.{ℕ, Bool, true, false, not, ◌&&◌, List, [], ◌∷◌, ◌++◌, map, length, drop, Some, None, Option, ◌==◌, nat_le, nat_lt}
use Rattle.stowage.specs.Figures.{week}
use Rattle.stowage.specs.declared.Window.{Window}
use Rattle.orders.specs.declared.Booking.{Booking}
use Rattle.orders.specs.declared.Booking.TheVariants.{Waiting, Aboard}
use Rattle.orders.specs.declared.Journey.{Journey}
use Rattle.orders.specs.declared.Stop.{Stop}
use Rattle.orders.specs.Bookings.{number_of}
use Rattle.growth.specs.Positions.{compact}
use Rattle.fleet.specs.declared.state.State.{State}
use Rattle.fleet.specs.declared.state.Van.{Van}
use Rattle.fleet.specs.States.{open_bookings}

-- a place is one of 64
abbrev pub is_sound_spot : ℕ → Bool
is_sound_spot place = nat_lt place 64

-- a window opens no later than it closes, and closes within the week
abbrev pub is_sound_window : Window → Bool
is_sound_window w = nat_le w.opens w.closes && nat_le w.closes week

-- a stop's place is one of 64, and its window lies in the week
abbrev pub is_sound_stop : Stop → Bool
is_sound_stop p = is_sound_spot p.place && is_sound_window p.window

-- a booking's number is 1 to 65,535
abbrev pub is_sound_number : ℕ → Bool
is_sound_number n = nat_le 1 n && nat_le n 65535

-- of what a booking asks for from its pickup on, each number is in its range
abbrev pub is_sound_journey : Journey → Bool
is_sound_journey j = is_sound_number j.number && (is_sound_stop j.dropoff && nat_le j.ride_limit week)

-- a booking is in range on a van that has driven so many seconds: one aboard was not picked up later than that
abbrev pub is_sound_booking : ℕ → Booking → Bool
is_sound_booking driven (Waiting pickup j) = is_sound_stop pickup && is_sound_journey j
is_sound_booking driven (Aboard since j) = nat_le since driven && is_sound_journey j

-- each of a van's bookings is in range
abbrev pub is_sound_bookings : ℕ → List Booking → Bool
is_sound_bookings driven [] = true
is_sound_bookings driven (b ∷ bs) = is_sound_booking driven b && is_sound_bookings driven bs

-- no booking stands behind an unused place
abbrev pub is_packed : List (Option Booking) → Bool
is_packed [] = true
is_packed (None ∷ os) = length (compact os) == 0
is_packed (Some b ∷ os) = is_packed os

-- every booking has a number above n
abbrev pub is_above : ℕ → List Booking → Bool
is_above n [] = true
is_above n (b ∷ bs) = nat_lt n (number_of b) && is_above n bs

-- the numbers ascend
abbrev pub is_ascending : List Booking → Bool
is_ascending [] = true
is_ascending (b ∷ bs) = is_above (number_of b) bs && is_ascending bs

-- four places for bookings: those taken stand in front, ascending, within the open limit
abbrev pub is_sound_slots : ℕ → List (Option Booking) → Bool
is_sound_slots limit held = length held == 4 && (is_packed held && (is_ascending (compact held) && nat_le (length (compact held)) limit))

-- a van's place is one of 64, its time is not before the clock nor beyond the week, it has driven no longer than that, and its
-- bookings are in range and stand as they should
abbrev pub is_sound_van : ℕ → ℕ → Van → Bool
is_sound_van clock limit w =
    is_sound_spot w.place && (nat_le clock w.second && (nat_le w.second week && (nat_le w.driven w.second
    && (is_sound_bookings w.driven (open_bookings w) && is_sound_slots limit w.bookings))))

-- a van off duty, or such a van
abbrev pub is_sound_place : ℕ → ℕ → Option Van → Bool
is_sound_place clock limit None = true
is_sound_place clock limit (Some w) = is_sound_van clock limit w

abbrev pub all_sound : ℕ → ℕ → List (Option Van) → Bool
all_sound clock limit [] = true
all_sound clock limit (o ∷ os) = is_sound_place clock limit o && all_sound clock limit os

-- every place is unused
abbrev pub all_off : List (Option Van) → Bool
all_off [] = true
all_off (None ∷ os) = all_off os
all_off (Some w ∷ os) = false

-- the numbers that are open on a van, none off duty
abbrev pub numbers_on : Option Van → List ℕ
numbers_on None = []
numbers_on (Some w) = map number_of (open_bookings w)

-- the numbers that are open, van after van
abbrev pub open_numbers : List (Option Van) → List ℕ
open_numbers [] = []
open_numbers (o ∷ os) = numbers_on o ++ open_numbers os

-- n is none of the numbers
abbrev pub lacks : ℕ → List ℕ → Bool
lacks n [] = true
lacks n (m ∷ ms) = not (n == m) && lacks n ms

-- no number stands twice
abbrev pub is_once : List ℕ → Bool
is_once [] = true
is_once (n ∷ ns) = lacks n ns && is_once ns

-- 1 to 32 vans, an open limit of 1 to 4, a clock within the week, each van sound, no van beyond their number, and no booking's
-- number open twice
unfoldable pub is_sound : State → Bool
is_sound s =
    nat_le 1 s.size && (nat_le s.size 32 && (nat_le 1 s.open_limit && (nat_le s.open_limit 4 && (nat_le s.clock week
    && (length s.vans == 32 && (all_sound s.clock s.open_limit s.vans && (all_off (drop s.size s.vans)
    && is_once (open_numbers s.vans))))))))
