-- Shows that the orders of the grown tree are the valid orders, each once, ascending.
use Rattle.std.proofs.Common.{◌≡◌, ℕ, zero, suc, ◌<◌, ◌⊎◌, List, [], ◌∷◌, map, length, sym, refl, ap, ◌∙◌, subst, inl, inr, ⊎_elim, arith}
use Rattle.orders.specs.declared.Booking.{Booking}
use Rattle.orders.specs.Rules.{Rules}
use Rattle.orders.specs.Bookings.{In, number_of, Ascending}
use Rattle.orders.specs.Walks.{Walk, service, after, Allowed, Valid}
use Rattle.orders.specs.Orders.{Order, Before}
use Rattle.orders.specs.Trees.{Tree, empty, stop, branch, children, grow}
use Rattle.orders.specs.Listings.{OrdersAscend, prefixed, orders}
use Rattle.orders.proofs.Basics.{in_left, in_right, in_append, in_map, of_map, nil_cons, in_nothing, sorted_append, sorted_map}
use Rattle.orders.proofs.Steps.{step_cases, children_some, children_none, after_ascending, above_in}

-- from the walk v on an order ends, if nothing is open, or is one of those below
abbrev pub Onward : Walk → Tree → Order → Type 0
Onward v below q = ((v.bookings ≡ []) × (q ≡ ([], v.cost))) ⊎ ((v.bookings ≡ [] → ⊥) × In q (orders below))

-- the orders of one branch
module _ (b : Booking) (s : ℕ) (v : Walk) where
  of_branch : (bs : List Booking) (below beside : Tree) (q : Order) → v.bookings ≡ bs → In q (orders (branch b s v bs below beside)) →
      ((r : Order) × (q ≡ prefixed (number_of b) r) × Onward v below r) ⊎ In q (orders beside)
  of_branch [] below beside q e (inl p) = inl (([], v.cost), p, inl (e, refl))
  of_branch [] below beside q e (inr i) = inr i
  of_branch (c ∷ cs) empty beside q e i = inr i
  of_branch (c ∷ cs) (stop n k s' t x y) beside q e i = ⊎_elim
      (λ j. let m = of_map (prefixed (number_of b)) q (orders (stop n k s' t x y)) j in inl (m.0, m.2, inr (λ z. nil_cons c cs (sym z ∙ e), m.1)))
      (λ j. inr j)
      (in_append q (map (prefixed (number_of b)) (orders (stop n k s' t x y))) (orders beside) i)

  in_branch : (bs : List Booking) (below beside : Tree) (q : Order) → v.bookings ≡ bs → Onward v below q →
      In (prefixed (number_of b) q) (orders (branch b s v bs below beside))
  in_branch [] below beside q e (inl p) = inl (ap (prefixed (number_of b)) p.1)
  in_branch [] below beside q e (inr p) = absurd (p.0 e)
  in_branch (c ∷ cs) below beside q e (inl p) = absurd (nil_cons c cs (sym p.0 ∙ e))
  in_branch (c ∷ cs) empty beside q e (inr p) = absurd p.1
  in_branch (c ∷ cs) (stop n k s' t x y) beside q e (inr p) =
      in_left (prefixed (number_of b) q) (map (prefixed (number_of b)) (orders (stop n k s' t x y))) (orders beside) (in_map (prefixed (number_of b)) q (orders (stop n k s' t x y)) p.1)

  in_beside : (bs : List Booking) (below beside : Tree) (q : Order) → In q (orders beside) → In q (orders (branch b s v bs below beside))
  in_beside [] below beside q i = inr i
  in_beside (c ∷ cs) empty beside q i = i
  in_beside (c ∷ cs) (stop n k s' t x y) beside q i = in_right q (map (prefixed (number_of b)) (orders (stop n k s' t x y))) (orders beside) i

module _ (g : Rules) where
  -- the branch of b's next stop, served after w
  abbrev pub branch_of : (Walk → Tree) → Walk → Booking → Tree → Tree
  branch_of grows w b beside = branch b (service g w b) (after g w b) (after g w b).bookings (grows (after g w b)) beside

  module _ (grows : Walk → Tree) (w : Walk) where
    -- an order of the children begins with an allowed stop and goes on below it
    pub of_children : (bs : List Booking) (q : Order) → In q (orders (children g grows w bs)) →
        (b : Booking) × In b bs × Allowed g w b × ((r : Order) × (q ≡ prefixed (number_of b) r) × Onward (after g w b) (grows (after g w b)) r)
    unfolding children
    of_children [] q i = absurd i
    of_children (b ∷ bs) q i = ⊎_elim
        (λ s. ⊎_elim
        (λ r. (b, inl refl, s.0, r))
        (λ j. let t = of_children bs q j in (t.0, inr t.1, t.2, t.3))
        (of_branch b (service g w b) (after g w b) (after g w b).bookings (grows (after g w b)) (children g grows w bs) q refl
        (subst (λ t. In q (orders t)) (children_some g grows w b bs (after g w b) s.1) i)))
        (λ s. let t = of_children bs q (subst (λ t. In q (orders t)) (children_none g grows w b bs s.1) i) in (t.0, inr t.1, t.2, t.3))
        (step_cases g w b)

    pub in_children : (bs : List Booking) (b : Booking) (q : Order) → In b bs → Allowed g w b →
        Onward (after g w b) (grows (after g w b)) q → In (prefixed (number_of b) q) (orders (children g grows w bs))
    in_children [] b q i a f = absurd i
    in_children (c ∷ bs) b q i a f = ⊎_elim
        (λ s. subst (λ t. In (prefixed (number_of b) q) (orders t)) (sym (children_some g grows w c bs (after g w c) s.1)) (placed (λ j. in_children bs b q j a f) i))
        (λ s. subst (λ t. In (prefixed (number_of b) q) (orders t)) (sym (children_none g grows w c bs s.1)) (passed (λ j. in_children bs b q j a f) s.0 i))
        (step_cases g w c)
      where
        passed : (In b bs → In (prefixed (number_of b) q) (orders (children g grows w bs))) → (Allowed g w c → ⊥) → (b ≡ c) ⊎ In b bs →
            In (prefixed (number_of b) q) (orders (children g grows w bs))
        passed ih n (inl e) = absurd (n (subst (Allowed g w) e a))
        passed ih n (inr j) = ih j

        placed : (In b bs → In (prefixed (number_of b) q) (orders (children g grows w bs))) → (b ≡ c) ⊎ In b bs →
            In (prefixed (number_of b) q) (orders (branch_of grows w c (children g grows w bs)))
        placed ih (inl e) =
            subst (λ x. In (prefixed (number_of x) q) (orders (branch_of grows w c (children g grows w bs)))) (sym e)
            (in_branch c (service g w c) (after g w c) (after g w c).bookings (grows (after g w c)) (children g grows w bs) q refl (subst (λ x. Onward (after g w x) (grows (after g w x)) q) e f))
        placed ih (inr j) = in_beside c (service g w c) (after g w c) (after g w c).bookings (grows (after g w c)) (children g grows w bs) (prefixed (number_of b) q) (ih j)

  -- an allowed stop, and from there on a valid order
  pub onward_valid : (below : Tree) (w : Walk) (b : Booking) → ((q : Order) → In q (orders below) → Valid g (after g w b) q.0 q.1) →
      In b w.bookings → Allowed g w b → (q : Order) → Onward (after g w b) below q → Valid g w (number_of b ∷ q.0) q.1
  onward_valid below w b ih i a q (inl e) = subst (λ x. Valid g w (number_of b ∷ x.0) x.1) (sym e.1) (b, i, refl, a, (e.0, refl))
  onward_valid below w b ih i a q (inr e) = (b, i, refl, a, ih q e.1)

  -- each order of the tree is valid
  pub sound : (k : ℕ) (w : Walk) (q : Order) → In q (orders (grow g k w)) → Valid g w q.0 q.1
  unfolding grow
  sound zero w q i = absurd i
  sound (suc k) w q i =
      let s = of_children (grow g k) w w.bookings q i in
      subst (λ x. Valid g w x.0 x.1) (sym s.3.1)
      (onward_valid (grow g k (after g w s.0)) w s.0 (sound k (after g w s.0)) s.1 s.2 s.3.0 s.3.2)

  -- each valid order of a stop or more is in the tree, if that is grown deep enough
  pub complete : (k : ℕ) (w : Walk) (n : ℕ) (o : List ℕ) (cost : ℕ) → length o < k → Valid g w (n ∷ o) cost →
      In (n ∷ o, cost) (orders (grow g k w))
  unfolding grow
  complete zero w n o cost h v = absurd (omega arith)
  complete (suc k) w n [] cost h v =
      subst (λ m. In (m ∷ [], cost) (orders (children g (grow g k) w w.bookings))) v.2
      (in_children (grow g k) w w.bookings v.0 ([], cost) v.1 v.3 (inl (v.4.0, ap (λ c. ([], c)) (sym v.4.1))))
  complete (suc k) w n (m ∷ o) cost h v =
      subst (λ n'. In (n' ∷ m ∷ o, cost) (orders (children g (grow g k) w w.bookings))) v.2
      (in_children (grow g k) w w.bookings v.0 (m ∷ o, cost) v.1 v.3
      (inr (in_nothing v.4.0 (after g w v.0).bookings v.4.1, complete k (after g w v.0) m o cost (omega arith) v.4)))

-- the numbers begin above n
abbrev pub BeginsAbove : ℕ → List ℕ → Type 0
BeginsAbove n [] = ⊥
BeginsAbove n (m ∷ o) = n < m

before_above : (n : ℕ) (o p : List ℕ) → BeginsAbove n p → Before (n ∷ o) p
before_above n o [] h = absurd h
before_above n o (m ∷ p) h = inl h

abbrev Ordered : Order → Order → Type 0
Ordered p q = Before p.0 q.0

ascend_branch : (b : Booking) (s : ℕ) (v : Walk) (bs : List Booking) (below beside : Tree) → OrdersAscend (orders below) →
    OrdersAscend (orders beside) → ((q : Order) → In q (orders beside) → BeginsAbove (number_of b) q.0) →
    OrdersAscend (orders (branch b s v bs below beside))
ascend_branch b s v [] below beside r t h = (λ x i. before_above (number_of b) [] x.0 (h x i), t)
ascend_branch b s v (c ∷ cs) empty beside r t h = t
ascend_branch b s v (c ∷ cs) (stop n k s' u x y) beside r t h =
    let below : List Order = orders (stop n k s' u x y) in
    sorted_append Ordered (map (prefixed (number_of b)) below) (orders beside) (sorted_map (prefixed (number_of b)) Ordered Ordered (λ p q e. inr (refl, e)) below r) t
    (λ p q i j. let m = of_map (prefixed (number_of b)) p below i in subst (λ (z : Order). Before z.0 q.0) (sym m.2) (before_above (number_of b) m.0.0 q.0 (h q j)))

module _ (g : Rules) where
  ascend_children : (grows : Walk → Tree) (w : Walk) → ((b : Booking) → OrdersAscend (orders (grows (after g w b)))) →
      (bs : List Booking) → Ascending bs → OrdersAscend (orders (children g grows w bs))
  unfolding children
  ascend_children grows w ascends [] a = tt
  ascend_children grows w ascends (b ∷ bs) a = ⊎_elim
      (λ s. subst (λ t. OrdersAscend (orders t)) (sym (children_some g grows w b bs (after g w b) s.1))
      (ascend_branch b (service g w b) (after g w b) (after g w b).bookings (grows (after g w b)) (children g grows w bs) (ascends b) (ascend_children grows w ascends bs a.1)
      (λ q i. let t = of_children g grows w bs q i in subst (λ (z : Order). BeginsAbove (number_of b) z.0) (sym t.3.1) (above_in (number_of b) t.0 bs a.0 t.1))))
      (λ s. subst (λ t. OrdersAscend (orders t)) (sym (children_none g grows w b bs s.1)) (ascend_children grows w ascends bs a.1))
      (step_cases g w b)

  pub ascend_grow : (k : ℕ) (w : Walk) → Ascending w.bookings → OrdersAscend (orders (grow g k w))
  unfolding grow
  ascend_grow zero w a = tt
  ascend_grow (suc k) w a = ascend_children (grow g k) w (λ b. ascend_grow k (after g w b) (after_ascending g w b a)) w.bookings a
