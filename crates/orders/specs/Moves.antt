-- Defines what becomes of a van, as the walk that begins at it, when something happens to it.
use Rattle.std.specs.Prelude.{ℕ, ◌+◌, List}
use Rattle.orders.specs.declared.Booking.{Booking}
use Rattle.orders.specs.Rules.{Rules}
use Rattle.orders.specs.Bookings.{number_of, served, insert, remove}
use Rattle.orders.specs.Walks.{Walk, departs}

-- the van with other open bookings
abbrev pub with_open : Walk → List Booking → Walk
with_open w bs = record { place = w.place; second = w.second; driven = w.driven; cost = w.cost; bookings = bs }

-- the van has one booking more
abbrev pub with_booking : Walk → Booking → Walk
with_booking w b = with_open w (insert b w.bookings)

-- the booking of number n is cancelled
abbrev pub without_booking : Walk → ℕ → Walk
without_booking w n = with_open w (remove n w.bookings)

-- the clock moves on, and the van can drive on from this second
abbrev pub at_time : Walk → ℕ → Walk
at_time w second = record { place = w.place; second = second; driven = w.driven; cost = w.cost; bookings = w.bookings }

-- the van is bound for a place, and can next turn there, at this second
abbrev pub bound_to : Rules → Walk → ℕ → ℕ → Walk
bound_to g w place second =
    record { place = place; second = second; driven = w.driven + g.trip w.place place; cost = w.cost; bookings = w.bookings }

-- b's next stop is served where the van is, at this second
abbrev pub served_at : Walk → Booking → ℕ → Walk
served_at w b second = with_open (at_time w (departs second)) (served w.driven (number_of b) w.bookings)
