-- Defines a present state in which no number runs over and every van's bookings stand as they should: `bound` and `cancel` ask for it.
use Rattle.std.specs.Prelude.{◌≡◌, ℕ, ◌≤◌, length, Some, None, Option, slice_index_or}
use Rattle.orders.specs.Bookings.{Ascending}
use Rattle.growth.specs.Positions.{compact}
use Rattle.fleet.specs.declared.state.State.{State}
use Rattle.fleet.specs.declared.state.Van.{Van}
use Rattle.fleet.specs.Slots.{slots}

-- a van on duty: its time is not before the clock nor beyond the week, it has driven no longer than that, and its open
-- bookings stand in front, ascending, within the open limit
pub record SoundVan (clock limit : ℕ) (w : Van) : Type 0 where
  pub time : clock ≤ w.second
  pub week : w.second ≤ 604800
  pub driven : w.driven ≤ w.second
  pub packed : w.bookings ≡ slots (compact w.bookings)
  pub ascending : Ascending (compact w.bookings)
  pub few : length (compact w.bookings) ≤ limit

-- a van off duty, or such a van
abbrev pub SoundPlace : ℕ → ℕ → Option Van → Type 0
SoundPlace clock limit None = Unit {0}
SoundPlace clock limit (Some w) = SoundVan clock limit w

-- the open limit is 1 to 4, and each van is sound
pub record Sound (s : State) : Type 0 where
  pub some : 1 ≤ s.open_limit
  pub four : s.open_limit ≤ 4
  pub each : (i : ℕ) → SoundPlace s.clock s.open_limit (slice_index_or s.vans i None)
