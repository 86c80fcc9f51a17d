-- Shows that plan, price and winner are determined, and that the first cheapest listed order is the plan.
use Rattle.std.proofs.Common.{◌≡◌, ℕ, ◌<◌, ◌≤◌, Bool, true, false, cond, leb, ◌⊎◌, List, [], ◌∷◌, length, Some, None, Option, sym, refl, ap, ◌∙◌, subst, inl, inr, ⊎_elim, arith}
use Rattle.std.proofs.lemmas.Bool.{cases_order, cases_lt, leb-true, leb-false}
use Rattle.orders.specs.declared.Booking.{Booking}
use Rattle.orders.specs.Rules.{Rules}
use Rattle.orders.specs.Bookings.{In, Ascending}
use Rattle.orders.specs.Walks.{Walk, Valid}
use Rattle.orders.specs.Orders.{Order, Before, NoOrder, Least, Plan, Price, cheaper, cheapest, Offer, Winner}
use Rattle.orders.specs.Trees.{valid_orders}
use Rattle.orders.specs.Listings.{OrdersAscend}
use Rattle.orders.specs.Laws.{ExactOrders, Determined, OneWinner}
use Rattle.orders.proofs.Basics.{none_some, some_same, in_nothing}
use Rattle.orders.proofs.Steps.{valid_length}

before_same : (o : List ℕ) → Before o o → ⊥
before_same [] h = h
before_same (n ∷ o) (inl h) = omega arith
before_same (n ∷ o) (inr h) = before_same o h.1

before_one_way : (o p : List ℕ) → Before o p → Before p o → ⊥
before_one_way [] p h k = h
before_one_way (m ∷ o) [] h k = h
before_one_way (m ∷ o) (n ∷ p) (inl h) (inl k) = omega arith
before_one_way (m ∷ o) (n ∷ p) (inl h) (inr k) = omega arith
before_one_way (m ∷ o) (n ∷ p) (inr h) (inl k) = omega arith
before_one_way (m ∷ o) (n ∷ p) (inr h) (inr k) = before_one_way o p h.1 k.1

-- orders of one length are equal, or one comes before the other
before_either : (o p : List ℕ) → length o ≡ length p → (o ≡ p) ⊎ (Before o p ⊎ Before p o)
before_either [] [] l = inl refl
before_either [] (n ∷ p) l = absurd (omega arith)
before_either (m ∷ o) [] l = absurd (omega arith)
before_either (m ∷ o) (n ∷ p) l = ⊎_elim
    (λ (e : m ≡ n). ⊎_elim
    (λ (r : o ≡ p). inl (λ i. e i ∷ r i))
    (λ (r : Before o p ⊎ Before p o). inr (⊎_elim (λ b. inl (inr (e, b))) (λ b. inr (inr (sym e, b))) r))
    (before_either o p (omega arith)))
    (λ (d : (m < n) ⊎ (n < m)). inr (⊎_elim (λ b. inl (inl b)) (λ b. inr (inl b)) d))
    (cases_order m n)

-- r is the first of least cost in the list, if that ascends
record First (qs : List Order) (r : Order) : Type 0 where
  its : In r qs
  least : (q : Order) → In q qs → r.1 ≤ q.1
  first : OrdersAscend qs → (q : Order) → In q qs → q.1 ≡ r.1 → Before q.0 r.0 → ⊥

first_alone : (q : Order) → First (q ∷ []) q
first_alone q = record {
  its = inl refl;
  least = λ x i. ⊎_elim (λ (e : x ≡ q). let k = ap (λ (y : Order). y.1) e in omega arith) (λ j. absurd j) i;
  first = λ a x i c b. ⊎_elim (λ (e : x ≡ q). before_same q.0 (subst (λ (y : Order). Before y.0 q.0) e b)) (λ j. j) i;
}

first_here : (q r : Order) (qs : List Order) → First qs r → q.1 ≤ r.1 → First (q ∷ qs) q
first_here q r qs f l = record {
  its = inl refl;
  least = λ x i. ⊎_elim (λ (e : x ≡ q). let k = ap (λ (y : Order). y.1) e in omega arith) (λ j. let h = f.least x j in omega arith) i;
  first = λ a x i c b. ⊎_elim
      (λ (e : x ≡ q). before_same q.0 (subst (λ (y : Order). Before y.0 q.0) e b))
      (λ j. before_one_way q.0 x.0 (a.0 x j) b) i;
}

first_later : (q r : Order) (qs : List Order) → First qs r → r.1 < q.1 → First (q ∷ qs) r
first_later q r qs f l = record {
  its = inr f.its;
  least = λ x i. ⊎_elim (λ (e : x ≡ q). let k = ap (λ (y : Order). y.1) e in omega arith) (λ j. f.least x j) i;
  first = λ a x i c b. ⊎_elim (λ (e : x ≡ q). let k = ap (λ (y : Order). y.1) e in omega arith) (λ j. f.first a.1 x j c b) i;
}

cheapest_none : (qs : List Order) → cheapest qs ≡ None → qs ≡ []
cheapest_none [] e = refl
cheapest_none (q ∷ qs) e = absurd (none_some _ _ e refl)

cheapest_first : (qs : List Order) (r : Order) → cheapest qs ≡ Some r → First qs r
cheapest_first [] r e = absurd (none_some None r refl e)
cheapest_first (q ∷ qs) r e = subst (First (q ∷ qs)) (some_same _ _ r refl e) (by_rest (cheapest qs) (cheapest_none qs) (cheapest_first qs))
  where
    by_test : (t : Order) → First qs t → (b : Bool) → leb q.1 t.1 ≡ b → First (q ∷ qs) (cond b q t)
    by_test t f true e' = first_here q t qs f (leb-true _ _ e')
    by_test t f false e' = first_later q t qs f (leb-false _ _ e')

    by_rest : (o : Option Order) → (o ≡ None → qs ≡ []) → ((t : Order) → o ≡ Some t → First qs t) → First (q ∷ qs) (cheaper q o)
    by_rest None none ih = subst (λ l. First (q ∷ l) q) (sym (none refl)) (first_alone q)
    by_rest (Some t) none ih = by_test t (ih t refl) (leb q.1 t.1) refl

module _ (g : Rules) where
  one_plan : (w : Walk) (o p : List ℕ) (c d : ℕ) → Plan g w o c → Plan g w p d → (o ≡ p) × (c ≡ d)
  one_plan w o p c d a b =
      let l = a.least p d b.valid in
      let m = b.least o c a.valid in
      let e : c ≡ d = omega arith in
      let h = valid_length g o w c a.valid in
      let k = valid_length g p w d b.valid in (
        ⊎_elim
            (λ (s : o ≡ p). s)
            (λ (s : Before o p ⊎ Before p o). absurd (⊎_elim
            (λ r. b.first o (subst (Valid g w o) e a.valid) r)
            (λ r. a.first p (subst (Valid g w p) (sym e) b.valid) r) s))
            (before_either o p (omega arith)),
        e,
      )

  one_least : (w : Walk) (c d : ℕ) → Least g w c → Least g w d → c ≡ d
  one_least w c d a b =
      let l = a.least b.reached.0 d b.reached.1 in let m = b.least a.reached.0 c a.reached.1 in omega arith

  one_price : (w : Walk) (b : Booking) (p q : ℕ) → Price g w b p → Price g w b q → p ≡ q
  one_price w b p q x y =
      let e = one_least w x.cost_without y.cost_without x.least_without y.least_without in
      let f = one_least _ x.cost_with y.cost_with x.least_with y.least_with in
      let h = x.difference in
      let k = y.difference in
      omega arith

  module _ (exact : ExactOrders g) where
    first_plan : (w : Walk) → Ascending w.bookings → (r : Order) → cheapest (valid_orders g w) ≡ Some r → Plan g w r.0 r.1
    first_plan w a r e =
        let f = cheapest_first (valid_orders g w) r e in
        record {
          valid = (exact.exactly w r.0 r.1).0 f.its;
          least = λ o other v. f.least (o, other) ((exact.exactly w o other).1 v);
          first = λ o v b. f.first (exact.ascending w a) (o, r.1) ((exact.exactly w o r.1).1 v) refl b;
        }

    some_listed : (w : Walk) (o : List ℕ) (cost : ℕ) → Valid g w o cost → (r : Order) × (cheapest (valid_orders g w) ≡ Some r)
    some_listed w o cost v = by_answer (cheapest (valid_orders g w)) refl
      where
        by_answer : (a : Option Order) → cheapest (valid_orders g w) ≡ a → (r : Order) × (cheapest (valid_orders g w) ≡ Some r)
        by_answer (Some r) e = (r, e)
        by_answer None e = absurd (in_nothing (o, cost) (valid_orders g w) ((exact.exactly w o cost).1 v) (cheapest_none (valid_orders g w) e))

    listed_least : (w : Walk) (r : Order) → cheapest (valid_orders g w) ≡ Some r → Least g w r.1
    listed_least w r e =
        let f = cheapest_first (valid_orders g w) r e in
        record { reached = (r.0, (exact.exactly w r.0 r.1).0 f.its); least = λ o d v. f.least (o, d) ((exact.exactly w o d).1 v) }

    -- a van that has a valid order has a least cost
    pub some_least : (w : Walk) (o : List ℕ) (cost : ℕ) → Valid g w o cost → (c : ℕ) × Least g w c
    some_least w o cost v = let s = some_listed w o cost v in (s.0.1, listed_least w s.0 s.1)

    pub determined : Determined g
    determined = record {
      plan = one_plan;
      listed = λ w a o cost. (
        λ p.
            (let s = some_listed w o cost p.valid in
            let e = one_plan w s.0.0 o s.0.1 cost (first_plan w a s.0 s.1) p in
            s.1 ∙ (λ i. Some (e.0 i, e.1 i))),
        λ e. first_plan w a (o, cost) e,
      );
      none = λ w. (
        λ n. by_answer w n (cheapest (valid_orders g w)) refl,
        λ e o cost v. in_nothing (o, cost) (valid_orders g w) ((exact.exactly w o cost).1 v) (cheapest_none (valid_orders g w) e),
      );
      least = λ w cost. (
        λ l.
            (let s = some_listed w l.reached.0 cost l.reached.1 in
            let e = one_least w s.0.1 cost (listed_least w s.0 s.1) l in
            (s.0.0, s.1 ∙ ap (λ c. Some (s.0.0, c)) e)),
        λ s. listed_least w (s.0, cost) s.1,
      );
      price = one_price;
    }
      where
        by_answer : (w : Walk) → NoOrder g w → (a : Option Order) → cheapest (valid_orders g w) ≡ a → cheapest (valid_orders g w) ≡ None
        by_answer w n None e = e
        by_answer w n (Some r) e = absurd (n r.0 r.1 ((exact.exactly w r.0 r.1).0 (cheapest_first (valid_orders g w) r e).its))

winners_same : (offers : List Offer) (v w : Offer) → Winner offers v → Winner offers w → v ≡ w
winners_same offers v w a b =
    let l = a.least w b.offered in
    let m = b.least v a.offered in
    let e : v.price ≡ w.price = omega arith in
    let h = a.lowest w b.offered (sym e) in
    let k = b.lowest v a.offered e in
    let f : v.van ≡ w.van = omega arith in
    λ i. record { van = f i; price = e i }

-- o asks less than w, or the same as a lower van
abbrev Beats : Offer → Offer → Type 0
Beats o w = (o.price < w.price) ⊎ ((o.price ≡ w.price) × (o.van ≤ w.van))

beats_either : (o w : Offer) → Beats o w ⊎ Beats w o
beats_either o w = ⊎_elim
    (λ (e : o.price ≡ w.price). ⊎_elim (λ (h : o.van < w.van). inl (inr (e, omega arith))) (λ (h : w.van ≤ o.van). inr (inr (sym e, h))) (cases_lt o.van w.van))
    (λ (d : (o.price < w.price) ⊎ (w.price < o.price)). ⊎_elim (λ h. inl (inl h)) (λ h. inr (inl h)) d)
    (cases_order o.price w.price)

beats_price : (o w : Offer) → Beats o w → o.price ≤ w.price
beats_price o w (inl h) = omega arith
beats_price o w (inr h) = let k = h.0 in omega arith

beats_van : (o w : Offer) → Beats o w → w.price ≤ o.price → o.van ≤ w.van
beats_van o w (inl h) k = absurd (omega arith)
beats_van o w (inr h) k = h.1

first_wins : (o w : Offer) (offers : List Offer) → Winner offers w → Beats o w → Winner (o ∷ offers) o
first_wins o w offers a b =
    let c = beats_price o w b in
    record {
      offered = inl refl;
      least = λ x i. ⊎_elim (λ (e : x ≡ o). let k = ap (λ (y : Offer). y.price) e in omega arith) (λ j. let h = a.least x j in omega arith) i;
      lowest = λ x i p. ⊎_elim
          (λ (e : x ≡ o). let k = ap (λ (y : Offer). y.van) e in omega arith)
          (λ j. let h = a.least x j in let v = beats_van o w b (omega arith) in let l = a.lowest x j (omega arith) in omega arith) i;
    }

later_wins : (o w : Offer) (offers : List Offer) → Winner offers w → Beats w o → Winner (o ∷ offers) w
later_wins o w offers a b =
    let c = beats_price w o b in
    record {
      offered = inr a.offered;
      least = λ x i. ⊎_elim (λ (e : x ≡ o). let k = ap (λ (y : Offer). y.price) e in omega arith) (λ j. a.least x j) i;
      lowest = λ x i p. ⊎_elim
          (λ (e : x ≡ o). let k = ap (λ (y : Offer). y.price) e in let m = ap (λ (y : Offer). y.van) e in let v = beats_van w o b (omega arith) in omega arith)
          (λ j. a.lowest x j p) i;
    }

some_winner : (o : Offer) (offers : List Offer) → (w : Offer) × Winner (o ∷ offers) w
some_winner o [] = (
  o,
  record {
    offered = inl refl;
    least = λ x i. ⊎_elim (λ (e : x ≡ o). let k = ap (λ (y : Offer). y.price) e in omega arith) (λ j. absurd j) i;
    lowest = λ x i p. ⊎_elim (λ (e : x ≡ o). let k = ap (λ (y : Offer). y.van) e in omega arith) (λ j. absurd j) i;
  },
)
some_winner o (p ∷ offers) =
    let r = some_winner p offers in
    ⊎_elim (λ b. (o, first_wins o r.0 (p ∷ offers) r.1 b)) (λ b. (r.0, later_wins o r.0 (p ∷ offers) r.1 b)) (beats_either o r.0)

pub one_winner : OneWinner
one_winner = record { one = winners_same; some = some_winner }
