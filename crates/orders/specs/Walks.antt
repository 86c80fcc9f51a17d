-- Defines a van's walk over its open stops, and which orders of them are valid.
use Rattle.std.specs.Prelude.{◌≡◌, ℕ, ◌+◌, ◌<◌, ◌≤◌, max, Bool, true, List, [], ◌∷◌, is_some, nat_le}
use Rattle.stowage.specs.Together.{stowed}
use Rattle.orders.specs.declared.Booking.{Booking}
use Rattle.orders.specs.declared.Booking.TheVariants.{Waiting, Aboard}
use Rattle.orders.specs.Rules.{Rules}
use Rattle.orders.specs.Bookings.{In, number_of, next_stop, served, loads}

-- where a van is in its walk: its place, the second from which it can drive on, the road seconds that it has driven, the
-- cost so far, which is those of them that it drove in this walk, and its open bookings, ascending by number
pub record Walk : Type 0 where
  pub place : ℕ
  pub second : ℕ
  pub driven : ℕ
  pub cost : ℕ
  pub bookings : List Booking

-- the walk begins at a van, at no cost yet
abbrev pub van : ℕ → ℕ → ℕ → List Booking → Walk
van place second driven bookings = record { place = place; second = second; driven = driven; cost = 0; bookings = bookings }

-- the second at which a van drives on from a stop that it serves at this second: service takes no time
unfoldable pub departs : ℕ → ℕ
departs second = second

module _ (g : Rules) where
  -- the road seconds to b's next stop
  abbrev pub leg : Walk → Booking → ℕ
  leg w b = g.trip w.place (next_stop b).place

  -- the second of service of b's next stop: the later of arrival and opening
  abbrev pub service : Walk → Booking → ℕ
  service w b = max (w.second + leg w b) (next_stop b).window.opens

  -- the walk once b's next stop is served: its leg adds to what is driven and to the cost
  abbrev pub after : Walk → Booking → Walk
  after w b = record {
    place = (next_stop b).place;
    second = departs (service w b);
    driven = w.driven + leg w b;
    cost = w.cost + leg w b;
    bookings = served (w.driven + leg w b) (number_of b) w.bookings;
  }

  -- at a pickup all loads then aboard fit together, from the empty hold; at a drop-off the ride is within its limit
  abbrev pub within_limits : Walk → Booking → Bool
  within_limits w (Waiting pickup j) = is_some (stowed g.stow g.empty (loads (after w (Waiting pickup j)).bookings))
  within_limits w (Aboard since j) = nat_le (after w (Aboard since j)).driven (since + j.ride_limit)

  -- b's next stop may be served next: the roads know the leg, service is not after the closing, and the limits are kept
  pub record Allowed (w : Walk) (b : Booking) : Type 0 where
    pub here : w.place < g.places
    pub there : (next_stop b).place < g.places
    pub timely : service w b ≤ (next_stop b).window.closes
    pub limits : within_limits w b ≡ true

  -- the order, by booking numbers, is valid from w on: it serves all open stops, each as it may be, and ends at this cost
  abbrev pub Valid : Walk → List ℕ → ℕ → Type 0
  Valid w [] cost = (w.bookings ≡ []) × (w.cost ≡ cost)
  Valid w (n ∷ order) cost = (b : Booking) × In b w.bookings × (number_of b ≡ n) × Allowed w b × Valid (after w b) order cost

  -- the stops of the order, or of a beginning of one, are served at these seconds
  abbrev pub Timed : Walk → List ℕ → List ℕ → Type 0
  Timed w [] seconds = seconds ≡ []
  Timed w (n ∷ order) [] = ⊥
  Timed w (n ∷ order) (s ∷ seconds) = (b : Booking) × In b w.bookings × (number_of b ≡ n) × (service w b ≡ s) × Timed (after w b) order seconds
