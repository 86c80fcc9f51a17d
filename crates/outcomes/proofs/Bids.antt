-- Shows that a van's bid is its price, and that the best offer is the least bid, the lowest van's among equals.
use Rattle.std.proofs.Common.{◌≡◌, ℕ, zero, suc, ◌+◌, ◌-◌, ◌<◌, ◌≤◌, Bool, true, false, cond, ltb, ◌⊎◌, Some, None, Option, sym, refl, ap, ◌∙◌, subst, inl, inr, ⊎_elim, arith}
use Rattle.std.specs.Option.{option_map}
use Rattle.std.proofs.lemmas.Bool.{cases_lt, cond-true, ltb-true, ltb-false}
use Rattle.orders.specs.declared.Booking.{Booking}
use Rattle.fleet.specs.declared.call.Offer.{Offer}
use Rattle.orders.specs.Bookings.{New}
use Rattle.orders.specs.Rules.{Rules, Lawful}
use Rattle.orders.specs.Walks.{Walk}
use Rattle.orders.specs.Moves.{with_booking}
use Rattle.orders.specs.Orders.{Order, Least, Price, cheapest}
use Rattle.orders.specs.Trees.{valid_orders}
use Rattle.orders.specs.Laws.{Determined}
use Rattle.orders.proofs.Basics.{none_some, some_same}
use Rattle.orders.proofs.Plans.{determined}
use Rattle.orders.proofs.Theorems.{exact_orders, thins}
use Rattle.van_slab.proofs.Picked.{mapped_some}
use Rattle.growth.specs.Surveys.{least_cost}
use Rattle.fleet.specs.declared.state.State.{State}
use Rattle.fleet.specs.declared.state.Van.{Van}
use Rattle.fleet.specs.States.{van_walk, open_bookings, has_room}
use Rattle.outcomes.specs.Offers.{difference, bid, better, best_of}

-- the best of what the first k vans ask
pub record Best (asks : ℕ → Option ℕ) (k : ℕ) (o : Offer) : Type 0 where
  pub some : 1 ≤ o.van
  pub within : o.van ≤ k
  pub its : asks (o.van - 1) ≡ Some o.price
  pub least : (i p : ℕ) → i < k → asks i ≡ Some p → o.price ≤ p
  pub lowest : (i : ℕ) → i < k → asks i ≡ Some o.price → o.van ≤ i + 1

-- the offer of the van at an index from 0
abbrev offer_at : ℕ → ℕ → Offer
offer_at k p = record { van = k + 1; price = p }

-- below k + 1 is below k, or k
below_more : (k i : ℕ) → i < suc k → (i < k) ⊎ (i ≡ k)
below_more k i h = ⊎_elim (λ (l : i < k). inl l) (λ (l : k ≤ i). inr (omega arith)) (cases_lt i k)

-- where a van asks, there is a best offer
better_some : (b : Option Offer) (v p : ℕ) → better b v (Some p) ≡ None → ⊥
better_some None v p e = none_some _ _ e refl
better_some (Some o) v p e = by (ltb p o.price) e
  where
    by : (t : Bool) → cond t (Some (record { van = v; price = p })) (Some o) ≡ None → ⊥
    by true f = none_some _ _ f refl
    by false f = none_some _ _ f refl

module _ (asks : ℕ → Option ℕ) where
  pub nobody_asks : (k : ℕ) → best_of asks k ≡ None → (i : ℕ) → i < k → asks i ≡ None
  nobody_asks zero e i h = absurd (omega arith)
  nobody_asks (suc k) e i h = by (best_of asks k) refl (asks k) refl e (nobody_asks k)
    where
      by : (b : Option Offer) → best_of asks k ≡ b → (a : Option ℕ) → asks k ≡ a → better b (k + 1) a ≡ None →
          (best_of asks k ≡ None → (j : ℕ) → j < k → asks j ≡ None) → asks i ≡ None
      by b f (Some p) l m more = absurd (better_some b (k + 1) p m)
      by b f None l m more = ⊎_elim (λ (n : i < k). more (f ∙ m) i n) (λ (n : i ≡ k). ap asks n ∙ l) (below_more k i h)

  -- the next van asks no less than the best so far
  keeps_best : (k : ℕ) (o : Offer) → Best asks k o → ((p : ℕ) → asks k ≡ Some p → o.price ≤ p) → Best asks (suc k) o
  keeps_best k o b more = record {
    some = b.some;
    within = let l = b.within in omega arith;
    its = b.its;
    least = λ i p h e. ⊎_elim (λ (l : i < k). b.least i p l e) (λ (l : i ≡ k). more p (ap asks (sym l) ∙ e)) (below_more k i h);
    lowest = λ i h e. ⊎_elim (λ (l : i < k). b.lowest i l e) (λ (l : i ≡ k). let m = b.within in omega arith) (below_more k i h);
  }

  -- the next van asks less than all before it
  new_best : (k p : ℕ) → asks k ≡ Some p → ((i q : ℕ) → i < k → asks i ≡ Some q → p < q) → Best asks (suc k) (offer_at k p)
  new_best k p e more =
      let same : k + 1 - 1 ≡ k = omega arith in record {
        some = omega arith;
        within = omega arith;
        its = ap asks same ∙ e;
        least = λ i q h f. ⊎_elim
            (λ (l : i < k). let m = more i q l f in omega arith)
            (λ (l : i ≡ k). let m = some_same (asks k) p q e (ap asks (sym l) ∙ f) in omega arith)
            (below_more k i h);
        lowest = λ i h f. ⊎_elim
            (λ (l : i < k). let m = more i p l f in absurd (omega arith))
            (λ (l : i ≡ k). omega arith)
            (below_more k i h);
      }

  pub best : (k : ℕ) (o : Offer) → best_of asks k ≡ Some o → Best asks k o
  best zero o e = absurd (none_some _ _ refl e)
  best (suc k) o e = by (best_of asks k) refl (asks k) refl e (best k)
    where
      -- the better of the best so far and the next van's
      of_two : (q : Offer) (p : ℕ) → Best asks k q → asks k ≡ Some p → (t : Bool) → ltb p q.price ≡ t → cond t (Some (offer_at k p)) (Some q) ≡ Some o → Best asks (suc k) o
      of_two q p b h true l m =
          subst (Best asks (suc k)) (some_same _ (offer_at k p) o refl m)
          (new_best k p h (λ i r n f. let c = b.least i r n f in let d = ltb-true p q.price l in omega arith))
      of_two q p b h false l m =
          subst (Best asks (suc k)) (some_same _ q o refl m)
          (keeps_best k q b (λ r f. let c = some_same (asks k) p r h f in let d = ltb-false p q.price l in omega arith))

      by : (b : Option Offer) → best_of asks k ≡ b → (a : Option ℕ) → asks k ≡ a → better b (k + 1) a ≡ Some o → ((q : Offer) → best_of asks k ≡ Some q → Best asks k q) → Best asks (suc k) o
      by b f None h m more = keeps_best k o (more o (f ∙ m)) (λ p n. absurd (none_some _ _ h n))
      by None f (Some p) h m more =
          subst (Best asks (suc k)) (some_same _ (offer_at k p) o refl m) (new_best k p h (λ i q n l. absurd (none_some _ _ (nobody_asks k f i n) l)))
      by (Some q) f (Some p) h m more = of_two q p (more q f) h (ltb p q.price) refl m

-- a van's least costs
module _ (g : Rules) where
  known : Determined g
  known = determined g (exact_orders g)

  least_told : (w : Walk) (c : ℕ) → Least g w c → least_cost (valid_orders g w) ≡ Some c
  least_told w c l = ap (option_map (λ (q : Order). q.1)) ((known.least w c).0 l).1

  told_least : (w : Walk) (c : ℕ) → least_cost (valid_orders g w) ≡ Some c → Least g w c
  told_least w c e =
      let m = mapped_some (λ (q : Order). q.1) (cheapest (valid_orders g w)) c e in
      (known.least w c).1 (m.0.0, m.1 ∙ ap (λ d. Some (m.0.0, d)) (sym m.2))

  module _ (s : State) (w : Van) (b : Booking) where
    abbrev with_it : Walk
    with_it = with_booking (van_walk w) b

    -- what it asks, where it has room
    abbrev wanted : Option ℕ
    wanted = difference (least_cost (valid_orders g (van_walk w))) (least_cost (valid_orders g with_it))

    pub price_bid : has_room s w ≡ true → (p : ℕ) → Price g (van_walk w) b p → bid g s b (Some w) ≡ Some p
    price_bid room p price =
        let c : ℕ = price.cost_without in
        let d : ℕ = price.cost_with in
        let e = least_told (van_walk w) c price.least_without in
        let f = least_told with_it d price.least_with in
        let more : d - c ≡ p = let m = price.difference in omega arith in
        cond-true (has_room s w) wanted None room ∙ (λ i. difference (e i) (f i)) ∙ ap Some more

    pub bid_price : Lawful g → New b (open_bookings w) → (p : ℕ) → bid g s b (Some w) ≡ Some p → (has_room s w ≡ true) × Price g (van_walk w) b p
    bid_price lawful new p e = by_room (has_room s w) refl e
      where
        by_costs : (x y : Option ℕ) → least_cost (valid_orders g (van_walk w)) ≡ x → least_cost (valid_orders g with_it) ≡ y → difference x y ≡ Some p → Price g (van_walk w) b p
        by_costs None y f h m = absurd (none_some _ _ refl m)
        by_costs (Some c) None f h m = absurd (none_some _ _ refl m)
        by_costs (Some c) (Some d) f h m =
            let without = told_least (van_walk w) c f in
            let with = told_least with_it d h in
            let more = (thins g lawful).never_negative (van_walk w) b new c d without with in
            let same = some_same _ (d - c) p refl m in
            record { cost_without = c; cost_with = d; least_without = without; least_with = with; difference = omega arith }

        by_room : (t : Bool) → has_room s w ≡ t → cond t wanted None ≡ Some p → (has_room s w ≡ true) × Price g (van_walk w) b p
        by_room true r m = (r, by_costs _ _ refl refl m)
        by_room false r m = absurd (none_some _ _ refl m)
