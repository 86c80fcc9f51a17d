-- Shows that what is read from settled memory for a booking is what the present state says, and that memory is settled after it.
use Rattle.std.proofs.Common.{◌≡◌, ℕ, zero, suc, ◌+◌, ◌-◌, ◌<◌, ◌≤◌, Bool, true, false, cond, ◌&&◌, eqb, List, [], ◌∷◌, map, length, get_or, drop, replicate, Some, None, Ok, Err, Option, sym, refl, ap, ◌∙◌, subst, add-one, arith}
use Rattle.std.specs.Option.{option_map}
use Rattle.std.proofs.lemmas.List.{length-append, length-map, length-replicate, drop_more, drop_all}
use Rattle.std.proofs.lemmas.Bool.{cond-true, cond-false, le-leb, and_from, ltb-true}
use Rattle.orders.specs.declared.Booking.{Booking}
use Rattle.orders.specs.declared.Node.{Node}
use Rattle.fleet.specs.declared.call.Offer.{Offer}
use Rattle.orders.specs.Bookings.{number_of, insert, Ascending}
use Rattle.orders.specs.Rules.{Rules, Lawful}
use Rattle.orders.specs.Walks.{van}
use Rattle.orders.proofs.Inserted.{insert_ascending, insert_length}
use Rattle.orders.specs.Moves.{with_booking}
use Rattle.orders.specs.Orders.{Order}
use Rattle.orders.specs.Slabs.{slab}
use Rattle.orders.specs.Trees.{tree_row, nodes, orders_of, valid_orders}
use Rattle.van_slab.specs.declared.Itinerary.{Itinerary}
use Rattle.van_slab.specs.declared.Visit.{Visit}
use Rattle.van_slab.specs.Trails.{told, cheapest_trail, no_visit}
use Rattle.van_slab.specs.Laws.{order_of, slab_trails}
use Rattle.van_slab.proofs.Exact.{exact_reading}
use Rattle.growth.specs.declared.guide.Fresh.TheVariants.{Only}
use Rattle.growth.specs.declared.memory.Slabs.{Slabs}
use Rattle.growth.specs.declared.tally.Tally.{Tally}
use Rattle.growth.specs.declared.walk.Position.{Position}
use Rattle.growth.specs.Guides.{grown_row}
use Rattle.growth.specs.Positions.{walk_of}
use Rattle.growth.specs.Positions as positions
use Rattle.growth.specs.Slabs.{slabs_at, own_slab}
use Rattle.growth.specs.Surveys.{least_cost, Tallies}
use Rattle.growth.specs.Changes.{Suffices, booked}
use Rattle.growth.proofs.Changed.{whole}
use Rattle.fleet.specs.declared.state.State.{State}
use Rattle.fleet.specs.declared.state.Van.{Van}
use Rattle.fleet.specs.States
use Rattle.fleet.specs.SoundTest.{is_sound}
use Rattle.fleet.specs.Slots.{slots}
use Rattle.fleet.specs.States.{position_of, Acts}
use Rattle.fleet.specs.Terms.{Terms}
use Rattle.fleet.specs.declared.refusal.Refusal.TheVariants.{NoVan}
use Rattle.fleet.proofs.Accepted as accepted
use Rattle.fleet.proofs.Packed.{compact_slots}
use Rattle.fleet.proofs.Soundness.{sound_of, sound_at, number_within, new_to_van}
use Rattle.outcomes.specs.Settled.{slab_nodes, needed, slab_at, van_row, Settled, Writes, Regrown, roomy_vans}
use Rattle.outcomes.specs.Offers.{difference, bid, read_bid, read_least, read_with, plan_in, plan_of, best_of, better, second_of, told_booked, visits_of}
use Rattle.outcomes.specs.Outcomes.{told_plan, told_offer, plan_at, best_offer, of_request, given_to, book_call, Given}
use Rattle.outcomes.proofs.Bids.{Best, best}
use Rattle.outcomes.proofs.Moved.{stands, regrown_van}

-- offers that ask alike have the same best
pub best_alike : (p q : ℕ → Option ℕ) (k : ℕ) → ((i : ℕ) → i < k → p i ≡ q i) → best_of p k ≡ best_of q k
best_alike p q zero e = refl
best_alike p q (suc k) e = λ i. better (best_alike p q k (λ j l. e j (omega arith)) i) (k + 1) (e k (omega arith) i)

-- one more van is asked
pub best_more : (asks : ℕ → Option ℕ) (k : ℕ) → best_of asks (k + 1) ≡ better (best_of asks k) (k + 1) (asks k)
best_more asks k = ap (best_of asks) (add-one k)

-- the least cost that a tree's slab tells is that of the valid orders
least_told : (g : Rules) (size : ℕ) (place second driven : ℕ) (bs : List Booking) → length bs ≤ 4 →
    read_least bs (slab size (tree_row g (van place second driven bs))) ≡ least_cost (valid_orders g (van place second driven bs))
least_told g size place second driven [] h = refl
least_told g size place second driven (b ∷ bs) h =
    let w = van place second driven (b ∷ bs) in
    costs (cheapest_trail (slab_trails g size w)) ∙ ap (option_map (λ (q : Order). q.1)) ((exact_reading g).first size w (record { some = omega arith; few = h }))
  where
    costs : (o : Option (List Node)) → option_map (λ (r : Itinerary). r.cost) (option_map told o) ≡ option_map (λ (q : Order). q.1) (option_map order_of o)
    costs None = refl
    costs (Some t) = refl

-- a van that takes a booking walks with it
pub taking_walk : (w : Van) (b : Booking) → States.van_walk (States.taking w b) ≡ with_booking (States.van_walk w) b
taking_walk w b = ap (λ bs. van w.place w.second w.driven bs) (compact_slots (insert b (States.open_bookings w)))

module _ (g : Rules) (lawful : Lawful g) (s : State) (h : is_sound s ≡ true) (memory : List Node) (settled : Settled g s memory) (b : Booking) (new : States.holder_of (number_of b) 0 s.vans ≡ None) where
  -- the nodes of a van's slab suffice for one booking more
  suffices : (i : ℕ) (w : Van) → get_or s.vans i None ≡ Some w → slab_at s memory i ≡ slab (slab_nodes s) (tree_row g (States.van_walk w)) → Suffices g (Only (number_of b)) (slab_at s memory i) (with_booking (States.van_walk w) b)
  suffices i w at e =
      let van = sound_at s (sound_of s h) i w at in
      booked (slab_nodes s) (States.van_walk w) b e van.its.ascending (new_to_van (number_of b) b refl 0 s.vans new i w at) refl refl

  bid_same : (i : ℕ) → i < s.size → (o : Option Van) → get_or s.vans i None ≡ o → read_bid g s b (slab_at s memory i) o ≡ bid g s b o
  bid_same i l None at = refl
  bid_same i l (Some w) at =
      let here = settled.each i l ∙ ap (λ o. slab (slab_nodes s) (van_row g o)) at in
      let known = sound_of s h in
      let four = known.four in
      let few = (sound_at s known i w at).its.few in
      let u = with_booking (States.van_walk w) b in
      let before = ap (read_least (States.open_bookings w)) here ∙ least_told g (slab_nodes s) w.place w.second w.driven (States.open_bookings w) (omega arith) in
      let after : read_with g b (slab_at s memory i) u ≡ least_cost (valid_orders g u) =
      ap (λ t. least_cost (orders_of u u.bookings (nodes 1 t))) (whole g lawful (Only (number_of b)) (slab_at s memory i) u (suffices i w at here)) in
      (λ j. cond (States.has_room s w) (difference (before j) (after j)) None)

  pub offer_same : told_offer g s memory b ≡ best_offer g s b
  offer_same = best_alike _ _ s.size (λ i l. bid_same i l (get_or s.vans i None) refl)

-- the van of a best offer, whatever was read, is on duty and has room
module _ (g : Rules) (s : State) (h : is_sound s ≡ true) (memory : List Node) (b : Booking) (o : Offer) (won : told_offer g s memory b ≡ Some o) where
  abbrev asks : ℕ → Option ℕ
  asks i = read_bid g s b (slab_at s memory i) (get_or s.vans i None)

  known_best : Best asks s.size o
  known_best = best asks s.size o won

  pub offer_van : (w : Van) × (States.is_van s o.van ≡ true) × (States.van_at s o.van ≡ Some w) × (States.has_room s w ≡ true)
  offer_van = by (States.van_at s o.van) refl known_best.its
    where
      numbered : States.is_van s o.van ≡ true
      numbered =
          let a = known_best.some in
          let z = known_best.within in
          let m = (sound_of s h).most in
          and_from _ _ (le-leb _ _ a) (and_from _ _ (le-leb _ _ z) (le-leb _ _ (omega arith)))

      by : (v : Option Van) → States.van_at s o.van ≡ v → read_bid g s b (slab_at s memory (o.van - 1)) v ≡ Some o.price → (w : Van) × (States.is_van s o.van ≡ true) × (v ≡ Some w) × (States.has_room s w ≡ true)
      by None e f = absurd (accepted.none_some f)
      by (Some w) e f = (w, numbered, refl, roomy (States.has_room s w) refl f)
        where
          roomy : (t : Bool) → States.has_room s w ≡ t → cond t (difference (read_least (States.open_bookings w) (slab_at s memory (o.van - 1))) (read_with g b (slab_at s memory (o.van - 1)) (with_booking (States.van_walk w) b))) None ≡ Some o.price → States.has_room s w ≡ true
          roomy true r q = r
          roomy false r q = absurd (accepted.none_some q)

-- what a van is asked: its position with the booking is sound, and what is read is its bid
module _ (g : Rules) (s : State) (h : is_sound s ≡ true) (b : Booking) (new : States.holder_of (number_of b) 0 s.vans ≡ None) (i : ℕ) (w : Van) (at : get_or s.vans i None ≡ Some w) (room : States.has_room s w ≡ true) where
  pub ask_sound : (p : Position) → p ≡ position_of (States.taking w b) → positions.Sound p
  ask_sound p e =
      let known = sound_of s h in
      let van = sound_at s known i w at in
      let bs = States.open_bookings w in
      let more = insert_length b bs in
      let few = ltb-true _ _ room in
      let four = known.four in
      subst positions.Sound (sym e) (record {
        driven = van.driven;
        cost = omega arith;
        ascending = subst Ascending (sym (compact_slots (insert b bs))) (insert_ascending b bs (new_to_van (number_of b) b refl 0 s.vans new i w at) van.its.ascending);
        four = slots_length (insert b bs) (omega arith);
      })
    where
      slots_length : (bs : List Booking) → length bs ≤ 4 → length (slots bs) ≡ 4
      slots_length bs l =
          let none : Option Booking = None in
          let m = length-append (map Some bs) (replicate (4 - length bs) none) in
          let n = length-map bs (λ (x : Booking). Some x) in
          let o = length-replicate (4 - length bs) none in
          omega arith

  pub asked_least : (memory : List Node) (slabs : Slabs) (p : Position) (m : ℕ) (r : Tally) → slabs ≡ slabs_at i s.size (slab_nodes s) → p ≡ position_of (States.taking w b) → m ≡ number_of b →
      Tallies g (Only m) (own_slab memory slabs) (walk_of p) r → r.least ≡ read_with g b (slab_at s memory i) (with_booking (States.van_walk w) b)
  asked_least memory slabs p m r e f n t =
      t.least
      ∙ (λ j. least_cost (orders_of (walk_of (f j)) (walk_of (f j)).bookings (grown_row g (Only (n j)) (own_slab memory (e j)) (walk_of (f j)))))
      ∙ ap (λ u. least_cost (orders_of u u.bookings (grown_row g (Only (number_of b)) (slab_at s memory i) u))) (taking_walk w b)

  pub asked_bid : (xs : List Node) (plan : Itinerary) (least : Option ℕ) → Some plan ≡ plan_in (States.open_bookings w) xs → least ≡ read_with g b xs (with_booking (States.van_walk w) b) →
      difference (Some plan.cost) least ≡ read_bid g s b xs (get_or s.vans i None)
  asked_bid xs plan least e f =
      (λ j. difference (option_map (λ (r : Itinerary). r.cost) (e j)) (f j)) ∙ sym (cond-true (States.has_room s w) _ None room) ∙ ap (read_bid g s b xs) (sym at)

-- what becomes of the state when a van takes a booking
pub taken_is : (s : State) (v : ℕ) (b : Booking) (w : Van) → States.van_at s v ≡ Some w → States.has_room s w ≡ true → States.taken s v b ≡ States.with_van s v (Some (States.taking w b))
taken_is s v b w at room = ap (States.taken_by s v b) at ∙ cond-true (States.has_room s w) _ _ room

-- the plan that settled memory tells is that of the present state
plan_same : (g : Rules) (s : State) (memory : List Node) → Settled g s memory → (v : ℕ) → States.is_van s v ≡ true → told_plan s memory v ≡ plan_at g s v
plan_same g s memory a v i = by (States.van_at s v) refl
  where
    by : (o : Option Van) → States.van_at s v ≡ o → ◌≡◌ {A = Option Itinerary} (elim o [ Some w ↦ plan_in (States.open_bookings w) (slab_at s memory (v - 1)) | None ↦ None ]) (elim o [ Some w ↦ plan_of g s w | None ↦ None ])
    by None e = refl
    by (Some w) e =
        let n = number_within s v i in
        let low = n.0 in
        let high = n.1 in
        ap (plan_in (States.open_bookings w)) (a.each (v - 1) (omega arith) ∙ ap (λ o. slab (slab_nodes s) (van_row g o)) e)

-- a booking is given to the van of the best offer, and its tree grows along the old one
module _ (t : Terms) (lawful : Lawful t.rules) (s : State) (h : is_sound s ≡ true) (memory memory' : List Node) (room : needed s ≤ length memory) (same : length memory' ≡ length memory)
    (n from to : ℕ) (figures : List ℕ) (b : Booking) (asked : States.requested t s n from to figures ≡ Ok b) where
  abbrev g : Rules
  g = t.rules

  abbrev request : accepted.Requested t s n from to figures b
  request = accepted.request_accepted t s n from to figures b asked

  pub its_number : number_of b ≡ n
  its_number = ap number_of request.its

  pub its_new : States.holder_of (number_of b) 0 s.vans ≡ None
  its_new = ap (λ m. States.holder_of m 0 s.vans) its_number ∙ request.new

  -- where no van asks, the booking is refused
  pub refused_by_all : told_offer g s memory b ≡ None → Settled g s memory → book_call t s n from to figures ≡ Err NoVan
  refused_by_all none settled = ap (λ q. of_request q (λ x. given_to g s x (best_offer g s x))) asked ∙ ap (given_to g s b) (sym (offer_same g lawful s h memory settled b its_new) ∙ none)

  module _ (o : Offer) (won : told_offer g s memory b ≡ Some o) (s' : State) (is : s' ≡ States.taken s o.van b) where
    abbrev winner : (w : Van) × (States.is_van s o.van ≡ true) × (States.van_at s o.van ≡ Some w) × (States.has_room s w ≡ true)
    winner = offer_van g s h memory b o won

    pub state_is : s' ≡ States.with_van s o.van (Some (States.taking winner.0 b))
    state_is = is ∙ taken_is s o.van b winner.0 winner.2 winner.3

    pub given : (m : ℕ) (visits : List Visit) → Given s b s' (Ok (told_booked m o visits))
    given m visits = (winner.0, winner.1, winner.2, winner.3, state_is)

    pub still_van : States.is_van s' o.van ≡ true
    still_van = ap (λ x. States.is_van x o.van) state_is ∙ winner.1

    pub still_needed : needed s' ≡ needed s
    still_needed = ap needed state_is

    pub book_written : ((w : Van) → States.van_at s' o.van ≡ Some w → Regrown g s' (o.van - 1) (Only n) (slab_at s' memory (o.van - 1)) w memory memory') → Writes g s memory (roomy_vans s) true s' memory'
    book_written r =
        let w = winner.0 in
        let at = winner.2 in
        let taking = States.taking w b in
        let van = sound_at s (sound_of s h) (o.van - 1) w at in
        let new = new_to_van (number_of b) b refl 0 s.vans its_new (o.van - 1) w at in
        subst (λ x. Writes g s memory (roomy_vans s) true x memory') (sym state_is)
        (regrown_van g s h memory memory' room same o.van winner.1 w taking at (Only n) (slab_at s memory (o.van - 1))
        (subst (λ x. (u : Van) → States.van_at x o.van ≡ Some u → Regrown g x (o.van - 1) (Only n) (slab_at x memory (o.van - 1)) u memory memory') state_is r taking (stands g s h memory memory' room same o.van winner.1 (Some taking)))
        (λ old. booked (slab_nodes s) (States.van_walk w) b old van.its.ascending new (ap (λ m. Only m) (sym its_number)) (taking_walk w b))
        (roomy_vans s) (w, at, winner.3))

    pub book_told : Settled g s memory → Writes g s memory (roomy_vans s) true s' memory' →
        Acts (book_call t s n from to figures) s s' (Ok (told_booked n o (visits_of (told_plan s' memory' o.van))))
    book_told settled wrote =
        let e : book_call t s n from to figures ≡ Ok (States.taken s o.van b, told_booked (number_of b) o (visits_of (plan_at g (States.taken s o.van b) o.van))) =
        ap (λ q. of_request q (λ x. given_to g s x (best_offer g s x))) asked ∙ ap (given_to g s b) (sym (offer_same g lawful s h memory settled b its_new) ∙ won) in
        let same_plan = plan_same g s' memory' (wrote.settled settled) o.van still_van in
        subst (λ q. Acts q s s' (Ok (told_booked n o (visits_of (told_plan s' memory' o.van))))) (sym e)
        (is, (λ i. Ok (told_booked (sym its_number i) o (visits_of ((same_plan ∙ ap (λ x. plan_at g x o.van) is) i)))))

-- one turn of looking for a stop among visits, from the i-th on, to the second told
module _ (n k : ℕ) (xs : List Visit) (i second : ℕ) (left : second_of n k (drop i xs) ≡ second) where
  -- the visit that is looked at
  abbrev at_hand : Visit
  at_hand = get_or xs i no_visit

  pub stop_found : i < length xs → eqb at_hand.booking n && eqb at_hand.kind k ≡ true → at_hand.second ≡ second
  stop_found h t = sym (cond-true (eqb at_hand.booking n && eqb at_hand.kind k) _ (second_of n k (drop (i + 1) xs)) t) ∙ ap (second_of n k) (sym (drop_more xs i no_visit h)) ∙ left

  pub stop_later : i < length xs → eqb at_hand.booking n && eqb at_hand.kind k ≡ false → second_of n k (drop (i + 1) xs) ≡ second
  stop_later h t = sym (cond-false (eqb at_hand.booking n && eqb at_hand.kind k) at_hand.second _ t) ∙ ap (second_of n k) (sym (drop_more xs i no_visit h)) ∙ left

  pub stop_nowhere : length xs ≤ i → 0 ≡ second
  stop_nowhere h = ap (second_of n k) (sym (drop_all i xs h)) ∙ left
