-- Defines when old nodes suffice as a guide to the whole tree of a van: they are its tree before a change, or none is needed.
use Rattle.std.specs.Prelude.{◌≡◌, ℕ, ◌+◌, ◌<◌, ◌≤◌, List}
use Rattle.orders.specs.declared.Booking.{Booking}
use Rattle.orders.specs.declared.Node.{Node}
use Rattle.orders.specs.Rules.{Rules}
use Rattle.orders.specs.Bookings.{number_of, Ascending, New}
use Rattle.orders.specs.Walks.{Walk}
use Rattle.orders.specs.Moves.{with_booking, at_time, bound_to, served_at}
use Rattle.orders.specs.Trees.{tree_row}
use Rattle.orders.specs.Slabs.{slab}
use Rattle.orders.specs.Laws.{Serves, below_root}
use Rattle.growth.specs.declared.guide.Fresh.{Fresh}
use Rattle.growth.specs.declared.guide.Fresh.TheVariants.{Only, Nobody, Everybody}

-- the old nodes suffice for w
pub data Suffices (g : Rules) (fresh : Fresh) (old : List Node) (w : Walk) : Type 0 where
  -- they are the slab of the van u, and w has one booking more
  booked : (size : ℕ) (u : Walk) (b : Booking) → old ≡ slab size (tree_row g u) → Ascending u.bookings → New b u.bookings → fresh ≡ Only (number_of b) → w ≡ with_booking u b → Suffices g fresh old w
  -- they are the slab of the van u, and the clock has run on
  clock : (size : ℕ) (u : Walk) (second : ℕ) → old ≡ slab size (tree_row g u) → Ascending u.bookings → u.second ≤ second → fresh ≡ Nobody → w ≡ at_time u second → Suffices g fresh old w
  -- they are the slab of the van u, which is now bound for another place
  bound : (size : ℕ) (u : Walk) (place second : ℕ) → old ≡ slab size (tree_row g u) → Ascending u.bookings → u.place < g.places → place < g.places → u.second + g.trip u.place place ≤ second → fresh ≡ Nobody → w ≡ bound_to g u place second → Suffices g fresh old w
  -- they stood below b's next stop in the slab of the van u, which has served it on time and within its limit
  served : (size : ℕ) (u : Walk) (b : Booking) (second : ℕ) → old ≡ below_root (number_of b) (slab size (tree_row g u)) → Ascending u.bookings → Serves g u b second → fresh ≡ Nobody → w ≡ served_at u b second → Suffices g fresh old w
  -- every booking counts as new, so that they do not matter
  anew : fresh ≡ Everybody → Suffices g fresh old w
