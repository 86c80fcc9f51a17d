-- Shows that a slab that holds a van's tree tells the van's valid orders.
use Rattle.std.proofs.Common.{◌≡◌, ℕ, zero, suc, ◌+◌, ◌-◌, ◌*◌, ◌<◌, ◌≤◌, Bool, true, false, cond, eqb, leb, ◌↔◌, List, [], ◌∷◌, ◌++◌, map, length, take, replicate, Some, None, Option, sym, refl, ap, ◌∙◌, subst, ap₂, inl, inr, arith}
use Rattle.std.specs.List.{slice_get}
use Rattle.std.specs.Option.{option_map}
use Rattle.std.proofs.lemmas.List.{map_push, take-map}
use Rattle.std.proofs.lemmas.Option.{slice_get_past, slice_get-map}
use Rattle.std.proofs.lemmas.Bool.{cond-true, eqb-true}
use Rattle.orders.specs.declared.Booking.{Booking}
use Rattle.orders.specs.declared.Booking.TheVariants.{Waiting, Aboard}
use Rattle.orders.specs.declared.Node.{Node}
use Rattle.orders.specs.Rules.{Rules}
use Rattle.orders.specs.Bookings.{In, stops, Ascending}
use Rattle.orders.specs.Walks.{Walk, after, Timed}
use Rattle.orders.specs.Orders.{Order, NoOrder, Plan, cheaper, cheapest}
use Rattle.orders.specs.Trees.{tree_row, path_to, paths, ending, listed, orders_of, valid_orders}
use Rattle.orders.specs.Slabs.{blank, slab}
use Rattle.orders.proofs.Plans.{determined}
use Rattle.orders.proofs.Theorems.{exact_orders}
use Rattle.van_slab.specs.declared.Itinerary.{Itinerary}
use Rattle.van_slab.specs.Trails.{trail_to, ended, trails, trail_cost, cheaper_trail, cheapest_trail, told, cheapest_order, order_at}
use Rattle.van_slab.specs.Laws.{numbers, seconds, order_of, Shown, Tells, Open, slab_trails, ExactReading}
use Rattle.van_slab.proofs.Entered.{can_follow}
use Rattle.van_slab.proofs.Told.{cost_push}
use Rattle.van_slab.proofs.Picked.{nth_none, nth_in, cheapest_in, mapped_some, mapped_none}
use Rattle.van_slab.proofs.Tracks.{Tracks, Tracked, reaches_shown, tracks_row}

-- no order stands in the rest of a slab
abbrev Over : List Node → Type 0
Over rest = (t : List Node) → trails t rest ≡ []

blanks_over : (n : ℕ) → Over (replicate n blank)
blanks_over zero t = refl
blanks_over (suc n) t = refl

-- the order of the trail to a node
order_to : (t : List Node) (x : Node) → order_of (trail_to t x) ≡ (path_to (numbers t) x, x.cost)
order_to t x =
    let before : List Node = take (x.depth - 1) t in
    let e : numbers (trail_to t x) ≡ path_to (numbers t) x =
    map_push (λ (y : Node). y.booking) before x ∙ ap (λ o. o ++ (x.booking ∷ [])) (sym (take-map (λ (y : Node). y.booking) (x.depth - 1) t)) in
    λ i. (e i, cost_push before x i)

module _ (g : Rules) (w : Walk) (rest : List Node) (over : Over rest) where
  tracked_trails : (t : List Node) (x : Node) (xs : List Node) → Tracked g w t x →
      trails t (x ∷ (xs ++ rest)) ≡ ended x (trail_to t x) (trails (trail_to t x) (xs ++ rest))
  tracked_trails t x xs k = cond-true _ _ _ (can_follow t x k.follow)

  -- a row that is tracked lists its orders
  tracks_listed : (xs t : List Node) → Tracks g w t xs → map order_of (trails t (xs ++ rest)) ≡ ending (paths (numbers t) xs)
  tracks_listed [] t k = ap (map order_of) (over t)
  tracks_listed (x ∷ xs) t k =
      ap (map order_of) (tracked_trails t x xs k.0) ∙ by_test (eqb x.span 1) (trail_to t x) (order_to t x) (tracks_listed xs (trail_to t x) k.1)
    where
      by_test : (b : Bool) (u : List Node) → order_of u ≡ (path_to (numbers t) x, x.cost) →
          map order_of (trails u (xs ++ rest)) ≡ ending (paths (numbers u) xs) →
          map order_of (cond b (u ∷ trails u (xs ++ rest)) (trails u (xs ++ rest)))
          ≡ cond b ((path_to (numbers t) x, x.cost) ∷ ending (paths (path_to (numbers t) x) xs)) (ending (paths (path_to (numbers t) x) xs))
      by_test true u e ih = ap₂ (λ (q : Order) (qs : List Order). q ∷ qs) e (ih ∙ ap (λ (q : Order). ending (paths q.0 xs)) e)
      by_test false u e ih = ih ∙ ap (λ (q : Order). ending (paths q.0 xs)) e

  -- each of its trails shows its order
  tracks_shown : (xs t : List Node) → Tracks g w t xs → (u : List Node) → In u (trails t (xs ++ rest)) → Shown g w 1 u
  tracks_shown [] t k u i = absurd (subst (In u) (over t) i)
  tracks_shown (x ∷ xs) t k u i =
      by_test (eqb x.span 1) refl (tracks_shown xs (trail_to t x) k.1 u) (subst (In u) (tracked_trails t x xs k.0) i)
    where
      by_test : (b : Bool) → eqb x.span 1 ≡ b → (In u (trails (trail_to t x) (xs ++ rest)) → Shown g w 1 u) →
          In u (cond b (trail_to t x ∷ trails (trail_to t x) (xs ++ rest)) (trails (trail_to t x) (xs ++ rest))) → Shown g w 1 u
      by_test true e ih (inl p) = subst (Shown g w 1) (sym p) (reaches_shown g (trail_to t x) w k.0.to 1 k.0.way (k.0.whole (eqb-true x.span 1 e)))
      by_test true e ih (inr j) = ih j
      by_test false e ih j = ih j

-- a booking has two stops at most
few_stops : (bs : List Booking) → stops bs ≤ 2 * length bs
few_stops [] = omega arith
few_stops (Waiting pickup j ∷ bs) = let h = few_stops bs in omega arith
few_stops (Aboard since j ∷ bs) = let h = few_stops bs in omega arith

-- with something open the valid orders are those that the row lists
some_listed : (w : Walk) (bs : List Booking) (xs : List Node) → 0 < length bs → listed xs ≡ orders_of w bs xs
some_listed w [] xs h = absurd (omega arith)
some_listed w (b ∷ bs) xs h = refl

-- the order of the cheapest trail is the cheapest order
cheapest_orders : (ts : List (List Node)) → option_map order_of (cheapest_trail ts) ≡ cheapest (map order_of ts)
cheapest_orders [] = refl
cheapest_orders (t ∷ ts) = by_rest (cheapest_trail ts) ∙ ap (λ o. Some (cheaper (order_of t) o)) (cheapest_orders ts)
  where
    by_test : (u : List Node) (b : Bool) → order_of (cond b t u) ≡ cond b (order_of t) (order_of u)
    by_test u true = refl
    by_test u false = refl

    by_rest : (o : Option (List Node)) → Some (order_of (cheaper_trail t o)) ≡ Some (cheaper (order_of t) (option_map order_of o))
    by_rest None = refl
    by_rest (Some u) = ap Some (by_test u (leb (trail_cost t) (trail_cost u)))

module _ (g : Rules) where
  shown_timed : (t : List Node) (w : Walk) (d : ℕ) → Shown g w d t → Timed g w (numbers t) (seconds t)
  shown_timed [] w d s = refl
  shown_timed (x ∷ t) w d s = (s.0, s.1, sym s.3.booking, sym s.3.second, shown_timed t (after g w s.0) (d + 1) s.4)

  module _ (size : ℕ) (w : Walk) (h : Open w) where
    tracked : Tracks g w [] (tree_row g w)
    tracked = tracks_row g w (omega (arith, few_stops w.bookings, h.few))

    listed_all : map order_of (slab_trails g size w) ≡ valid_orders g w
    listed_all =
        tracks_listed g w (replicate (size - length (tree_row g w)) blank) (blanks_over _) (tree_row g w) [] tracked
        ∙ some_listed w w.bookings (tree_row g w) h.some

    shown_all : (t : List Node) → In t (slab_trails g size w) → Shown g w 1 t
    shown_all = tracks_shown g w (replicate (size - length (tree_row g w)) blank) (blanks_over _) (tree_row g w) [] tracked

    first_all : option_map order_of (cheapest_trail (slab_trails g size w)) ≡ cheapest (valid_orders g w)
    first_all = cheapest_orders (slab_trails g size w) ∙ ap cheapest listed_all

    at_all : (i : ℕ) → option_map order_of (slice_get (slab_trails g size w) i) ≡ slice_get (valid_orders g w) i
    at_all i = sym (slice_get-map order_of (slab_trails g size w) i) ∙ ap (λ qs. slice_get qs i) listed_all

    -- what a trail of the slab tells
    trail_tells : (t : List Node) (r : Itinerary) → In t (slab_trails g size w) → r ≡ told t → Tells g w (order_of t) r
    trail_tells t r i e = (t, e, refl, shown_all t i)

    plan_all : Ascending w.bookings → (r : Itinerary) → cheapest_order (slab size (tree_row g w)) ≡ Some r →
        (o : List ℕ) × (cost : ℕ) × Plan g w o cost × Tells g w (o, cost) r
    plan_all a r e =
        let m = mapped_some told (cheapest_trail (slab_trails g size w)) r e in
        let t = m.0 in
        let found : cheapest (valid_orders g w) ≡ Some (order_of t) = sym first_all ∙ ap (option_map order_of) m.1 in (
          numbers t,
          trail_cost t,
          ((determined g (exact_orders g)).listed w a (numbers t) (trail_cost t)).1 found,
          trail_tells t r (cheapest_in (slab_trails g size w) t m.1) m.2,
        )

    none_all : (cheapest_order (slab size (tree_row g w)) ≡ None) ↔ NoOrder g w
    none_all =
        let nothing = (determined g (exact_orders g)).none w in (
          λ e. nothing.1 (sym first_all ∙ ap (option_map order_of) (mapped_none told (cheapest_trail (slab_trails g size w)) e)),
          λ n. ap (option_map told) (mapped_none order_of (cheapest_trail (slab_trails g size w)) (first_all ∙ nothing.0 n)),
        )

    index_all : (i : ℕ) (r : Itinerary) → order_at (slab size (tree_row g w)) i ≡ Some r → (q : Order) × (slice_get (valid_orders g w) i ≡ Some q) × Tells g w q r
    index_all i r e =
        let m = mapped_some told (slice_get (slab_trails g size w) i) r e in
        (order_of m.0, sym (at_all i) ∙ ap (option_map order_of) m.1, trail_tells m.0 r (nth_in (slab_trails g size w) i m.0 m.1) m.2)

    past_all : (i : ℕ) → (order_at (slab size (tree_row g w)) i ≡ None) ↔ (length (valid_orders g w) ≤ i)
    past_all i = (
      λ e. nth_none (valid_orders g w) i (sym (at_all i) ∙ ap (option_map order_of) (mapped_none told (slice_get (slab_trails g size w) i) e)),
      λ h. ap (option_map told) (mapped_none order_of (slice_get (slab_trails g size w) i) (at_all i ∙ slice_get_past (valid_orders g w) i h)),
    )

  pub exact_reading : ExactReading g
  exact_reading = record {
    listed = listed_all;
    shown = shown_all;
    timed = λ size w h t i. shown_timed t w 1 (shown_all size w h t i);
    first = first_all;
    plan = plan_all;
    none = none_all;
    at = index_all;
    past = past_all;
  }
