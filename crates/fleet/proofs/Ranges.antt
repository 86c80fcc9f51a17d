-- Shows what the test of a booking's ranges tells, and that a booking that was asked for passes it.
use Rattle.std.proofs.Common.{◌≡◌, ℕ, ◌<◌, ◌≤◌, true, ◌&&◌, ltb, leb, List, [], ◌∷◌, Some, None, Ok, Err, Option, Result, sym, refl, ap, subst, arith}
use Rattle.std.specs.List.{AllByRecursion}
use Rattle.std.proofs.lemmas.Bool.{and_parts, and_from, leb-true, le-leb, ltb-true, lt-ltb}
use Rattle.roads.specs.Roads.{between}
use Rattle.stowage.specs.Laws.{InWeek, Keeps}
use Rattle.stowage.specs.declared.BadFigure.{BadFigure}
use Rattle.stowage.specs.declared.Promise.{Promise}
use Rattle.orders.specs.declared.Booking.{Booking}
use Rattle.orders.specs.declared.Booking.TheVariants.{Waiting, Aboard}
use Rattle.orders.specs.declared.Journey.{Journey}
use Rattle.orders.specs.declared.Stop.{Stop}
use Rattle.fleet.specs.declared.state.State.{State}
use Rattle.quotes.specs.Quotes.{figured, over}
use Rattle.fleet.specs.Quotes.{or_refused, quoted}
use Rattle.fleet.specs.Terms.{Terms}
use Rattle.fleet.specs.States
use Rattle.fleet.specs.SoundTest.{is_sound_stop, is_sound_journey, is_sound_booking, is_sound_bookings}
use Rattle.fleet.proofs.Accepted.{never, known_leg, request_accepted}

-- a stop's place is one of 64, and its window lies in the week
pub record SoundStop (p : Stop) : Type 0 where
  pub place : p.place < 64
  pub window : InWeek p.window

-- what a booking asks for from its pickup on, each number in its range
pub record SoundJourney (j : Journey) : Type 0 where
  pub some : 1 ≤ j.number
  pub most : j.number ≤ 65535
  pub dropoff : SoundStop j.dropoff
  pub ride : j.ride_limit ≤ 604800

-- a booking is in range on a van that has driven so many seconds
abbrev pub SoundBooking : ℕ → Booking → Type 0
SoundBooking driven (Waiting pickup j) = SoundStop pickup × SoundJourney j
SoundBooking driven (Aboard since j) = (since ≤ driven) × SoundJourney j

-- what each test tells, and the test from it: of a stop
stop_of : (p : Stop) → is_sound_stop p ≡ true → SoundStop p
stop_of p h =
    let a = and_parts (ltb p.place 64) _ h in
    let b = and_parts (leb p.window.opens p.window.closes) _ a.1 in
    record { place = ltb-true _ _ a.0; window = (leb-true _ _ b.0, leb-true _ _ b.1) }

stop_test : (p : Stop) → SoundStop p → is_sound_stop p ≡ true
stop_test p h = and_from _ _ (lt-ltb _ _ h.place) (and_from _ _ (le-leb _ _ h.window.0) (le-leb _ _ h.window.1))

-- of a journey
journey_of : (j : Journey) → is_sound_journey j ≡ true → SoundJourney j
journey_of j h =
    let a = and_parts (leb 1 j.number && leb j.number 65535) _ h in
    let b = and_parts (leb 1 j.number) _ a.0 in
    let c = and_parts (is_sound_stop j.dropoff) _ a.1 in
    record { some = leb-true _ _ b.0; most = leb-true _ _ b.1; dropoff = stop_of j.dropoff c.0; ride = leb-true _ _ c.1 }

journey_test : (j : Journey) → SoundJourney j → is_sound_journey j ≡ true
journey_test j h =
    and_from _ _ (and_from _ _ (le-leb _ _ h.some) (le-leb _ _ h.most))
    (and_from _ _ (stop_test j.dropoff h.dropoff) (le-leb _ _ h.ride))

-- of a booking
pub booking_of : (driven : ℕ) (b : Booking) → is_sound_booking driven b ≡ true → SoundBooking driven b
booking_of driven (Waiting pickup j) h = let p = and_parts (is_sound_stop pickup) _ h in (stop_of pickup p.0, journey_of j p.1)
booking_of driven (Aboard since j) h = let p = and_parts (leb since driven) _ h in (leb-true _ _ p.0, journey_of j p.1)

booking_test : (driven : ℕ) (b : Booking) → SoundBooking driven b → is_sound_booking driven b ≡ true
booking_test driven (Waiting pickup j) h = and_from _ _ (stop_test pickup h.0) (journey_test j h.1)
booking_test driven (Aboard since j) h = and_from _ _ (le-leb _ _ h.0) (journey_test j h.1)

-- of a van's bookings
pub bookings_of : (driven : ℕ) (bs : List Booking) → is_sound_bookings driven bs ≡ true → AllByRecursion (SoundBooking driven) bs
bookings_of driven [] h = tt
bookings_of driven (b ∷ bs) h = let p = and_parts (is_sound_booking driven b) _ h in (booking_of driven b p.0, bookings_of driven bs p.1)

pub bookings_test : (driven : ℕ) (bs : List Booking) → AllByRecursion (SoundBooking driven) bs → is_sound_bookings driven bs ≡ true
bookings_test driven [] a = refl
bookings_test driven (b ∷ bs) a = and_from _ _ (booking_test driven b a.0) (bookings_test driven bs a.1)

-- a booking stays in range when the van has driven more
pub driven_on : (d e : ℕ) → d ≤ e → (b : Booking) → SoundBooking d b → SoundBooking e b
driven_on d e h (Waiting pickup j) k = k
driven_on d e h (Aboard since j) k = (let l = k.0 in omega arith, k.1)

-- a booking that is in range while it waits is so aboard, from what the van has driven now on
pub picked_up : (d : ℕ) (p : Stop) (j : Journey) → SoundBooking d (Waiting p j) → SoundBooking d (Aboard d j)
picked_up d p j k = (omega arith, k.1)

-- what is quoted between two places is what is promised over the direct road
pub quoted_places : (places : ℕ) (trip : ℕ → ℕ → ℕ) (promise : List ℕ → ℕ → Result Promise BadFigure) (from to : ℕ) (figures : List ℕ) (p : Promise) → quoted places trip promise from to figures ≡ Ok p →
    (from < places) × (to < places) × (promise figures (trip from to) ≡ Ok p)
quoted_places places trip promise from to figures p e = by (between places trip from to) refl e
  where
    by : (o : Option ℕ) → between places trip from to ≡ o → or_refused (over places promise from to figures o) ≡ Ok p → (from < places) × (to < places) × (promise figures (trip from to) ≡ Ok p)
    by None f h = absurd (never h)
    by (Some direct) f h =
        let k = known_leg places trip from to direct f in
        (k.0, k.1, subst (λ d. promise figures d ≡ Ok p) k.2 (kept (promise figures direct) h))
      where
        kept : (r : Result Promise BadFigure) → or_refused (figured r) ≡ Ok p → r ≡ Ok p
        kept (Ok q) h = let g : q ≡ p = cc in ap (λ x. Ok x) g
        kept (Err bad) h = absurd (never h)

-- a booking that was asked for is in range, whatever the van that takes it has driven
pub requested_sound : (t : Terms) → Keeps t.promise → t.rules.places ≤ 64 → (s : State) (n from to : ℕ) (figures : List ℕ) (b : Booking) → States.requested t s n from to figures ≡ Ok b →
    (driven : ℕ) → is_sound_booking driven b ≡ true
requested_sound t keeps few s n from to figures b e driven =
    let a = request_accepted t s n from to figures b e in
    let q = quoted_places t.rules.places t.rules.trip t.promise from to figures a.promise a.quotes in
    let k = keeps figures (t.rules.trip from to) a.promise q.2 in
    let from_known = q.0 in
    let to_known = q.1 in
    subst (λ x. is_sound_booking driven x ≡ true) (sym a.its)
    (booking_test driven (States.promised n from to a.promise) (
      record { place = omega arith; window = k.pickup },
      record { some = a.some; most = a.most; dropoff = record { place = omega arith; window = k.dropoff }; ride = k.ride },
    ))
