-- Shows the laws of exactness, thinning, moves and guided growth.
use Rattle.std.proofs.Common.{◌≡◌, ℕ, ◌-◌, ◌≤◌, true, ◌↔◌, List, [], ◌∷◌, ◌++◌, Some, None, Option, unwrap_or, sym, refl, ap, ◌∙◌, subst, inl, inr, arith}
use Rattle.std.proofs.lemmas.List.{append-nil}
use Rattle.orders.specs.declared.Booking.{Booking}
use Rattle.orders.specs.declared.Booking.TheVariants.{Waiting, Aboard}
use Rattle.orders.specs.Rules.{Rules, Lawful}
use Rattle.orders.specs.Bookings.{In, number_of, stops, Ascending, New}
use Rattle.orders.specs.Walks.{Walk, departs, service, after, within_limits, Allowed, Valid}
use Rattle.orders.specs.Moves.{with_booking, at_time, bound_to, served_at}
use Rattle.orders.specs.Orders.{Least, Price}
use Rattle.orders.specs.Trees.{Tree, empty, stop, nodes, orders_of, tree_row, kinetic_tree}
use Rattle.orders.specs.Growth.{only, nobody, anybody, guide_row, guided}
use Rattle.orders.specs.Listings.{without, OrdersAscend, orders}
use Rattle.orders.specs.Laws.{ExactOrders, Thins, Serves, Moves, Guides}
use Rattle.orders.proofs.Basics.{in_nothing, nil_cons}
use Rattle.orders.proofs.Steps.{departs_in_turn, valid_length, one_booking, after_ascending}
use Rattle.orders.proofs.Paths.{listed_nodes}
use Rattle.orders.proofs.Grown.{sound, complete, ascend_grow}
use Rattle.orders.proofs.Nodes.{some_order}
use Rattle.orders.proofs.Thinned.{thinned}
use Rattle.orders.proofs.Moved.{leave_out_nobody, ahead_booked, ahead_clock, ahead_bound, no_leg, stop_known, ahead_served, after_served}
use Rattle.orders.proofs.Rows.{below, guide, row_of, seek_below, guided_row}
use Rattle.orders.proofs.Guided.{below_grow, not_missed, guided_grow, guided_anew, guided_empty}
use Rattle.orders.proofs.Plans.{some_least}

module _ (g : Rules) where
  -- by whether a booking is open
  listed_valid : (w : Walk) (bs : List Booking) → w.bookings ≡ bs → (o : List ℕ) (cost : ℕ) →
      In (o, cost) (orders_of w bs (tree_row g w)) → Valid g w o cost
  unfolding kinetic_tree
  listed_valid w [] e o cost (inl p) = subst (λ x. Valid g w x.0 x.1) (sym p) (e, refl)
  listed_valid w [] e o cost (inr i) = absurd i
  listed_valid w (b ∷ bs) e o cost i = sound g (stops w.bookings) w (o, cost) (subst (In (o, cost)) (listed_nodes (kinetic_tree g w)) i)

  valid_listed : (w : Walk) (bs : List Booking) → w.bookings ≡ bs → (o : List ℕ) (cost : ℕ) → Valid g w o cost →
      In (o, cost) (orders_of w bs (tree_row g w))
  unfolding kinetic_tree
  valid_listed w [] e [] cost v = inl (ap (λ c. ([], c)) (sym v.1))
  valid_listed w [] e (n ∷ o) cost v = absurd (in_nothing v.0 w.bookings v.1 e)
  valid_listed w (b ∷ bs) e [] cost v = absurd (nil_cons b bs (sym v.0 ∙ e))
  valid_listed w (b ∷ bs) e (n ∷ o) cost v =
      let h = valid_length g (n ∷ o) w cost v in
      subst (In (n ∷ o, cost)) (sym (listed_nodes (kinetic_tree g w))) (complete g (stops w.bookings) w n o cost (omega arith) v)

  listed_ascend : (w : Walk) (bs : List Booking) → Ascending w.bookings → OrdersAscend (orders_of w bs (tree_row g w))
  unfolding kinetic_tree
  listed_ascend w [] a = (λ r i. absurd i, tt)
  listed_ascend w (b ∷ bs) a = subst OrdersAscend (sym (listed_nodes (kinetic_tree g w))) (ascend_grow g (stops w.bookings) w a)

  idle_valid : (w : Walk) → w.bookings ≡ [] → (o : List ℕ) (cost : ℕ) → Valid g w o cost → (o ≡ []) × (cost ≡ w.cost)
  idle_valid w e [] cost v = (refl, sym v.1)
  idle_valid w e (n ∷ o) cost v = absurd (in_nothing v.0 w.bookings v.1 e)

  valid_idle : (w : Walk) → w.bookings ≡ [] → (o : List ℕ) (cost : ℕ) → (o ≡ []) × (cost ≡ w.cost) → Valid g w o cost
  valid_idle w e [] cost h = (e, sym h.1)
  valid_idle w e (n ∷ o) cost h = absurd (nil_cons n o (sym h.0))

  pub exact_orders : ExactOrders g
  exact_orders = record {
    exactly = λ w o cost. (listed_valid w w.bookings refl o cost, valid_listed w w.bookings refl o cost);
    ascending = λ w a. listed_ascend w w.bookings a;
    nothing_open = λ w e o cost. (idle_valid w e o cost, valid_idle w e o cost);
  }

  -- an order that is valid later is valid now
  clock_moves : (o : List ℕ) (w : Walk) (T cost : ℕ) → w.second ≤ T → Valid g (at_time w T) o cost → Valid g w o cost
  clock_moves [] w T cost h v = v
  clock_moves (n ∷ o) w T cost h v =
      let b = v.0 in
      let a = v.3 in
      let sooner : service g w b ≤ service g (at_time w T) b = omega arith in
      let allowed : Allowed g w b = record { here = a.here; there = a.there; timely = (let t = a.timely in omega arith); limits = same_limits w T b a.limits } in
      (b, v.1, v.2, allowed, clock_moves o (after g w b) (departs (service g (at_time w T) b)) cost (departs_in_turn _ _ sooner) v.4)
    where
      same_limits : (w : Walk) (T : ℕ) (b : Booking) → within_limits g (at_time w T) b ≡ true → within_limits g w b ≡ true
      same_limits w T (Waiting pickup j) e = e
      same_limits w T (Aboard since j) e = e

  module _ (lawful : Lawful g) where
    thinner : (w : Walk) (b : Booking) → New b w.bookings → (o : List ℕ) (cost : ℕ) → Valid g (with_booking w b) o cost →
        (less : ℕ) × (less ≤ cost) × Valid g w (without (number_of b) o) less
    thinner w b h o cost v = let t = thinned g (only (number_of b)) 0 lawful o cost (ahead_booked g w b h) v in (t.0, let l = t.1 in omega arith, t.2)

    never_negative : (w : Walk) (b : Booking) → New b w.bookings → (c d : ℕ) → Least g w c → Least g (with_booking w b) d → c ≤ d
    never_negative w b h c d x y =
        let t = thinner w b h y.reached.0 d y.reached.1 in let l = x.least _ t.0 t.2 in let m = t.1 in omega arith

    -- both least costs are there, and the difference is the price
    priced : (w : Walk) (b : Booking) → New b w.bookings → (o : List ℕ) (cost : ℕ) → Valid g (with_booking w b) o cost →
        (price : ℕ) × Price g w b price
    priced w b h o cost v =
        let t = thinner w b h o cost v in
        let x = some_least g exact_orders w _ t.0 t.2 in
        let y = some_least g exact_orders (with_booking w b) o cost v in
        let l = never_negative w b h x.0 y.0 x.1 y.1 in
        (y.0 - x.0, record { cost_without = x.0; cost_with = y.0; least_without = x.1; least_with = y.1; difference = omega arith })

    pub thins : Thins g
    thins = record {
      thinner = thinner;
      none_stays = λ w b h n o cost v. (let t = thinner w b h o cost v in n _ t.0 t.2);
      never_negative = never_negative;
      priced = priced;
    }

    -- a stop that is served as an order may have it may be served next
    serves_allowed : (w : Walk) (b : Booking) (T : ℕ) → Serves g w b T → Allowed g (at_time w T) b
    serves_allowed w b T s = record {
      here = s.here;
      there = stop_known g lawful w b T s;
      timely = let k = no_leg g lawful w b T s in let c = s.closes in let o = s.opened in omega arith;
      limits = s.limits;
    }

    served_moves : (w : Walk) (b : Booking) (T : ℕ) → Ascending w.bookings → Serves g w b T → (o : List ℕ) (cost : ℕ) →
        Valid g (served_at w b T) o cost ↔ Valid g (at_time w T) (number_of b ∷ o) cost
    served_moves w b T a s o cost = (
      λ v. (b, s.its, refl, serves_allowed w b T s, subst (λ u. Valid g u o cost) (sym (after_served g lawful w b T s)) v),
      λ v. subst (λ u. Valid g u o cost) (ap (after g (at_time w T)) (one_booking v.0 b w.bookings a v.1 s.its v.2) ∙ after_served g lawful w b T s) v.4,
    )

    pub moves : Moves g
    moves = record {
      clock = λ w T h o cost v. clock_moves o w T cost h v;
      bound = λ w p T here there h o cost v.
          (let t = thinned g nobody (g.trip w.place p) lawful o cost (ahead_bound g lawful w p T here there h) v in
          (t.0, t.1, subst (λ q. Valid g w q t.0) (leave_out_nobody o) t.2));
      served = served_moves;
      tails = λ w b T a s o cost v. clock_moves (number_of b ∷ o) w T cost s.time ((served_moves w b T a s o cost).0 v);
    }

    -- where the old tree does not have the stop that is served, nothing grows from it
    guided_served : (w : Walk) (b : Booking) (T : ℕ) → Ascending w.bookings → Serves g w b T → (o : Option Tree) →
        below (number_of b) (kinetic_tree g w) ≡ o →
        guided g (guide nobody) (stops (served_at w b T).bookings) (unwrap_or o empty) (served_at w b T) ≡ kinetic_tree g (served_at w b T)
    unfolding kinetic_tree
    guided_served w b T a s (Some t) e =
        let d = below_grow g (stops w.bookings) w b t a s.its (omega arith) e in
        ap (λ u. guided g (guide nobody) (stops (served_at w b T).bookings) u (served_at w b T)) d.1
        ∙ guided_grow g nobody 0 lawful _ d.0 (served_at w b T) (after g w b) (ahead_served g lawful w b T s) (after_ascending g w b a) d.2
    guided_served w b T a s None e = guided_empty g nobody (λ n. refl) (stops (served_at w b T).bookings) (served_at w b T) ∙ sym (nothing (kinetic_tree g (served_at w b T)) refl)
      where
        nothing : (t : Tree) → kinetic_tree g (served_at w b T) ≡ t → kinetic_tree g (served_at w b T) ≡ empty
        nothing empty z = z
        nothing (stop n k t c x y) z =
            let q = some_order n k t c x y in
            let v = sound g (stops (served_at w b T).bookings) (served_at w b T) q.0 (subst (λ u. In q.0 (orders u)) (sym z) q.1) in
            absurd (not_missed g nobody 0 lawful (stops w.bookings) (at_time w T) w (number_of b) q.0.0 q.0.1 (ahead_clock g w T s.time) (omega arith) refl
            ((served_moves w b T a s q.0.0 q.0.1).0 v) e)

    row_or : (o : Option Tree) → unwrap_or (row_of 1 o) [] ≡ nodes 2 (unwrap_or o empty) ++ []
    row_or None = refl
    row_or (Some t) = sym (append-nil (nodes 2 t))

    pub guides : Guides g
    unfolding kinetic_tree
    guides = record {
      booked = λ w b a h rest z. guided_row g (only (number_of b)) _ 1 (kinetic_tree g w) rest z (with_booking w b)
          ∙ guided_grow g (only (number_of b)) 0 lawful _ _ (with_booking w b) w (ahead_booked g w b h) a (omega arith);
      clock = λ w T a h rest z. guided_row g nobody _ 1 (kinetic_tree g w) rest z (at_time w T)
          ∙ guided_grow g nobody 0 lawful _ _ (at_time w T) w (ahead_clock g w T h) a (omega arith);
      bound = λ w p T a here there h rest z. guided_row g nobody _ 1 (kinetic_tree g w) rest z (bound_to g w p T)
          ∙ guided_grow g nobody (g.trip w.place p) lawful _ _ (bound_to g w p T) w (ahead_bound g lawful w p T here there h) a (omega arith);
      served = λ w b T a s rest z.
          (ap (λ xs. guided g (guide_row nobody) (stops (served_at w b T).bookings) (unwrap_or xs []) (served_at w b T)) (seek_below (kinetic_tree g w) rest z 1 (number_of b) _ (omega arith))
          ∙ ap (λ xs. guided g (guide_row nobody) (stops (served_at w b T).bookings) xs (served_at w b T)) (row_or (below (number_of b) (kinetic_tree g w)))
          ∙ guided_row g nobody _ 2 (unwrap_or (below (number_of b) (kinetic_tree g w)) empty) [] tt (served_at w b T)
          ∙ guided_served w b T a s (below (number_of b) (kinetic_tree g w)) refl);
      anew = λ w old. guided_anew g (guide_row anybody) (λ n o. refl) (stops w.bookings) old w;
    }
