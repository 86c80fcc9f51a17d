-- Shows that a booking is fairly given: to the van that asks least, at the seconds of its plan, or to none where none can.
use Rattle.std.proofs.Common.{◌≡◌, ℕ, ◌-◌, ◌<◌, ◌≤◌, true, List, [], ◌∷◌, length, get_or, Some, None, Option, sym, refl, ap, ◌∙◌, arith}
use Rattle.std.proofs.lemmas.List.{get_or-set_same}
use Rattle.std.proofs.lemmas.Bool.{and_from, cond-true, le-leb, ltb-true}
use Rattle.stowage.specs.declared.Promise.{Promise}
use Rattle.orders.specs.declared.Booking.{Booking}
use Rattle.orders.specs.declared.Booking.TheVariants.{Waiting}
use Rattle.orders.specs.declared.Journey.{Journey}
use Rattle.orders.specs.declared.Node.{Node}
use Rattle.fleet.specs.declared.call.Offer.{Offer}
use Rattle.orders.specs.declared.Stop.{Stop}
use Rattle.orders.specs.Bookings.{Ascending, New}
use Rattle.orders.specs.Rules.{Rules, Lawful}
use Rattle.orders.specs.Walks.{Walk, van}
use Rattle.orders.specs.Moves.{with_booking}
use Rattle.orders.specs.Slabs.{slab}
use Rattle.orders.specs.Trees.{tree_row}
use Rattle.orders.proofs.Basics.{none_some}
use Rattle.orders.proofs.Inserted.{insert_ascending, insert_length}
use Rattle.orders.proofs.Theorems.{thins}
use Rattle.van_slab.specs.declared.Itinerary.{Itinerary}
use Rattle.van_slab.specs.Trails.{cheapest_order}
use Rattle.van_slab.specs.Laws.{Shown, Open}
use Rattle.van_slab.proofs.Exact.{exact_reading}
use Rattle.fleet.specs.declared.state.State.{State}
use Rattle.fleet.specs.declared.state.Van.{Van}
use Rattle.fleet.specs.States.{van_walk, open_bookings, is_van, van_at, with_van, has_room, taking, taken, taken_by, holder_of, promised}
use Rattle.fleet.specs.SoundTest.{is_sound}
use Rattle.fleet.proofs.Packed.{compact_slots}
use Rattle.fleet.proofs.Soundness.{Sound, sound_of, sound_at, number_within, new_to_van}
use Rattle.outcomes.specs.Settled.{slab_nodes}
use Rattle.outcomes.specs.Offers.{bid, plan_in, plan_of, second_of, visits_of}
use Rattle.outcomes.specs.Outcomes.{plan_at, given_to, best_offer}
use Rattle.outcomes.specs.Fairness.{CanTake, Asks, Planned, Fairly}
use Rattle.outcomes.proofs.Bids.{best, nobody_asks, price_bid, bid_price}
use Rattle.outcomes.proofs.Visited.{Visits, in_insert, next_visited, drop_visited, told_second}

-- with something open, the plan is the cheapest order that the slab tells
some_plan : (bs : List Booking) (xs : List Node) → 0 < length bs → plan_in bs xs ≡ cheapest_order xs
some_plan [] xs h = absurd (omega arith)
some_plan (b ∷ bs) xs h = refl

-- a booking that waits, whose number no van of a sound state holds
module _ (g : Rules) (lawful : Lawful g) (s : State) (h : is_sound s ≡ true) (pickup : Stop) (j : Journey) (new : holder_of j.number 0 s.vans ≡ None) where
  abbrev b : Booking
  b = Waiting pickup j

  -- what the van at an index from 0 bids
  abbrev bids : ℕ → Option ℕ
  bids i = bid g s b (get_or s.vans i None)

  known : Sound s
  known = sound_of s h

  new_to : (v : ℕ) (w : Van) → van_at s v ≡ Some w → New b (open_bookings w)
  new_to v w at = new_to_van j.number b refl 0 s.vans new (v - 1) w at

  -- a van that can take the booking has a price for it
  can_ask : (v : ℕ) → CanTake g s b v → (p : ℕ) × Asks g s b v p
  can_ask v c =
      let w = c.0 in
      let q = (thins g lawful).priced (van_walk w) b (new_to v w c.1.at) c.2.0 c.2.1 c.2.2 in
      (q.0, (w, c.1, q.1))

  -- a van bids its price
  ask_bid : (v p : ℕ) → Asks g s b v p → (v - 1 < s.size) × (bids (v - 1) ≡ Some p)
  ask_bid v p a =
      let n = number_within s v a.1.its in
      let low = n.0 in
      let high = n.1 in
      (omega arith, ap (bid g s b) a.1.at ∙ price_bid g s a.0 b a.1.room p a.2)

  -- and what it bids is its price
  bid_ask : (v p : ℕ) → 1 ≤ v → v ≤ s.size → bids (v - 1) ≡ Some p → Asks g s b v p
  bid_ask v p low high e = by (van_at s v) refl e
    where
      its : is_van s v ≡ true
      its = let m = known.most in and_from _ _ (le-leb 1 v low) (and_from _ _ (le-leb v s.size high) (le-leb v 32 (omega arith)))

      by : (o : Option Van) → van_at s v ≡ o → bid g s b o ≡ Some p → Asks g s b v p
      by None at f = absurd (none_some _ _ refl f)
      by (Some w) at f = let q = bid_price g s w b lawful (new_to v w at) p f in (w, record { its = its; at = at; room = q.0 }, q.1)

  -- where no van bids, none can take the booking
  none_can : best_offer g s b ≡ None → (v : ℕ) → CanTake g s b v → ⊥
  none_can e v c =
      let q = can_ask v c in
      let m = ask_bid v q.0 q.1 in
      none_some _ _ (nobody_asks bids s.size e (v - 1) m.0) m.1

  -- the van of that number takes the booking at a price
  module _ (v p : ℕ) (a : Asks g s b v p) where
    abbrev w : Van
    w = a.0

    -- its walk with the booking, and the slab of its new tree
    abbrev u : Walk
    u = with_booking (van_walk w) b

    abbrev new_slab : List Node
    new_slab = slab (slab_nodes s) (tree_row g u)

    after_taking : taken s v b ≡ with_van s v (Some (taking w b))
    after_taking = ap (taken_by s v b) a.1.at ∙ cond-true (has_room s w) _ _ a.1.room

    open_with : Open u
    open_with =
        let long = insert_length b (open_bookings w) in
        let room = ltb-true (length (open_bookings w)) s.open_limit a.1.room in
        let most = known.four in
        record { some = omega arith; few = omega arith }

    ascending_with : Ascending u.bookings
    ascending_with = insert_ascending b (open_bookings w) (new_to v w a.1.at) (sound_at s known (v - 1) w a.1.at).its.ascending

    -- the plan that is told is the cheapest order in that slab
    plan_with : plan_at g (taken s v b) v ≡ cheapest_order new_slab
    plan_with =
        let s' = with_van s v (Some (taking w b)) in
        let n = number_within s v a.1.its in
        let low = n.0 in
        let high = n.2 in
        let long = known.long in
        ap (λ x. plan_at g x v) after_taking
        ∙ ap (λ (o : Option Van). elim o [ Some x ↦ plan_of g s' x | None ↦ None ]) (get_or-set_same s.vans (v - 1) (Some (taking w b)) None (omega arith))
        ∙ ap (λ bs. plan_in bs (slab (slab_nodes s) (tree_row g (van w.place w.second w.driven bs)))) (compact_slots u.bookings)
        ∙ some_plan u.bookings new_slab open_with.some

    -- there is one, since the booking has a price
    some_with : (o : Option Itinerary) → cheapest_order new_slab ≡ o → (r : Itinerary) × (cheapest_order new_slab ≡ Some r)
    some_with (Some r) e = (r, e)
    some_with None e = let x = a.2.least_with.reached in absurd (((exact_reading g).none (slab_nodes s) u open_with).0 e x.0 _ x.1)

    -- the second that is told of a stop that every order visits is that of the plan
    planned : (k : ℕ) → ((t : List Node) → Shown g u 1 t → Visits t j.number k) → Planned g u j.number k (second_of j.number k (visits_of (plan_at g (taken s v b) v)))
    planned k visits =
        let found = some_with _ refl in
        let plan = (exact_reading g).plan (slab_nodes s) u open_with ascending_with found.0 found.1 in
        let trail = plan.3 in
        let x = told_second j.number k trail.0 _ (visits trail.0 trail.3) in
        let told = plan_with ∙ found.1 ∙ ap Some trail.1 in
        (plan.0, plan.1, plan.2, (trail.0, trail.3, trail.2, (x.0, x.1, x.2, x.3, x.4 ∙ sym (ap (λ o. second_of j.number k (visits_of o)) told))))

    pickup_planned : Planned g u j.number 0 (second_of j.number 0 (visits_of (plan_at g (taken s v b) v)))
    pickup_planned = planned 0 (λ t x. next_visited g t u 1 ascending_with x b (in_insert b (open_bookings w)))

    dropoff_planned : Planned g u j.number 1 (second_of j.number 1 (visits_of (plan_at g (taken s v b) v)))
    dropoff_planned = planned 1 (λ t x. drop_visited g t u 1 ascending_with x pickup j (in_insert b (open_bookings w)))

  -- by the best offer
  fairly : (o : Option Offer) → best_offer g s b ≡ o → Fairly g s b (given_to g s b o)
  fairly None e = (refl, none_can e)
  fairly (Some o) e =
      let wins = best bids s.size o e in
      let a = bid_ask o.van o.price wins.some wins.within wins.its in
      record {
        van = a.0;
        below = a.1;
        price = a.2;
        others = can_ask;
        least = λ v p c. let m = ask_bid v p c in wins.least (v - 1) p m.0 m.1;
        lowest = λ v c.
            let m = ask_bid v o.price c in
            let l = wins.lowest (v - 1) m.0 m.1 in
            let n = (number_within s v c.1.its).0 in
            omega arith;
        pickup = pickup_planned o.van o.price a;
        dropoff = dropoff_planned o.van o.price a;
        after = after_taking o.van o.price a;
      }

pub fair : (g : Rules) → Lawful g → (s : State) → is_sound s ≡ true → (n from to : ℕ) (p : Promise) → holder_of n 0 s.vans ≡ None →
    Fairly g s (promised n from to p) (given_to g s (promised n from to p) (best_offer g s (promised n from to p)))
fair g lawful s h n from to p new = fairly g lawful s h _ _ new (best_offer g s (promised n from to p)) refl
