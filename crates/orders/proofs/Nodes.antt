-- Shows that the grown tree has a node for each beginning of a valid order, in turn.
use Rattle.std.proofs.Common.{◌≡◌, ℕ, zero, suc, ◌+◌, ◌≤◌, ◌⊎◌, List, [], ◌∷◌, ◌++◌, map, sym, refl, ap, ◌∙◌, subst, inl, inr, ⊎_elim, arith}
use Rattle.orders.specs.declared.Booking.{Booking}
use Rattle.orders.specs.declared.Node.{Node}
use Rattle.orders.specs.Rules.{Rules}
use Rattle.orders.specs.Bookings.{In, number_of, stop_kind, stops, Ascending}
use Rattle.orders.specs.Walks.{Walk, service, after, Allowed, Valid, Timed}
use Rattle.orders.specs.Orders.{Order}
use Rattle.orders.specs.Trees.{Tree, empty, stop, Pathed, branch, children, grow, kinetic_tree}
use Rattle.orders.specs.Listings.{prefixed, orders, Earlier, PathsAscend}
use Rattle.orders.specs.Laws.{Shows, Begins, spanning, ExactNodes, ExactSeconds}
use Rattle.orders.proofs.Basics.{in_left, in_right, in_append, in_map, of_map, nil_cons, in_nothing, sorted_append, sorted_map}
use Rattle.orders.proofs.Steps.{valid_length, after_stops, after_ascending, above_in, one_booking, step_cases, children_some, children_none}
use Rattle.orders.proofs.Paths.{tree_paths, paths_nodes, spans_nodes}
use Rattle.orders.proofs.Grown.{Onward, branch_of, sound, complete, BeginsAbove}

-- what stands in a tree has an order
pub some_order : (n k s c : ℕ) (below beside : Tree) → (q : Order) × In q (orders (stop n k s c below beside))
some_order n k s c empty beside = ((n ∷ [], c), inl refl)
some_order n k s c (stop n' k' s' c' x y) beside =
    let r = some_order n' k' s' c' x y in
    (prefixed n r.0, in_left (prefixed n r.0) (map (prefixed n) (orders (stop n' k' s' c' x y))) (orders beside) (in_map (prefixed n) r.0 (orders (stop n' k' s' c' x y)) r.1))

-- a branch is not there, or an order goes on from its stop
pub branch_or : (b : Booking) (s : ℕ) (v : Walk) (bs : List Booking) (below beside : Tree) → v.bookings ≡ bs →
    (branch b s v bs below beside ≡ beside) ⊎ ((q : Order) × Onward v below q)
branch_or b s v [] below beside e = inr (([], v.cost), inl (e, refl))
branch_or b s v (c ∷ cs) empty beside e = inl refl
branch_or b s v (c ∷ cs) (stop n k s' t x y) beside e = let r = some_order n k s' t x y in inr (r.0, inr (λ z. nil_cons c cs (sym z ∙ e), r.1))

-- the nodes of one branch, at depth d
module _ (b : Booking) (s : ℕ) (v : Walk) (d : ℕ) where
  abbrev node_of : ℕ → Node
  node_of span = record { booking = number_of b; kind = stop_kind b; depth = d; span = span; second = s; cost = v.cost }

  -- a node of b's branch is its root, or stands below that
  abbrev At : Tree → Pathed → Type 0
  At below q = ((span : ℕ) × (q ≡ (number_of b ∷ [], node_of span)) × ((r : Order) × Onward v below r)) ⊎ ((r : Pathed) × (q ≡ prefixed (number_of b) r) × In r (tree_paths (d + 1) below))

  of_branch : (bs : List Booking) (below beside : Tree) (q : Pathed) → v.bookings ≡ bs →
      In q (tree_paths d (branch b s v bs below beside)) → At below q ⊎ In q (tree_paths d beside)
  of_branch [] below beside q e (inl p) = inl (inl (_, p, (([], v.cost), inl (e, refl))))
  of_branch [] below beside q e (inr i) = inr i
  of_branch (c ∷ cs) empty beside q e i = inr i
  of_branch (c ∷ cs) (stop n k s' t x y) beside q e (inl p) =
      let r = some_order n k s' t x y in inl (inl (_, p, (r.0, inr (λ z. nil_cons c cs (sym z ∙ e), r.1))))
  of_branch (c ∷ cs) (stop n k s' t x y) beside q e (inr i) = ⊎_elim
      (λ j. let m = of_map (prefixed (number_of b)) q (tree_paths (d + 1) (stop n k s' t x y)) j in inl (inr (m.0, m.2, m.1)))
      (λ j. inr j)
      (in_append q (map (prefixed (number_of b)) (tree_paths (d + 1) (stop n k s' t x y))) (tree_paths d beside) i)

  in_root : (bs : List Booking) (below : Tree) (r : Order) → v.bookings ≡ bs → Onward v below r →
      (span : ℕ) × ((beside : Tree) → In (number_of b ∷ [], node_of span) (tree_paths d (branch b s v bs below beside)))
  in_root [] below r e o = (_, λ beside. inl refl)
  in_root (c ∷ cs) empty r e (inl p) = absurd (nil_cons c cs (sym p.0 ∙ e))
  in_root (c ∷ cs) empty r e (inr p) = absurd p.1
  in_root (c ∷ cs) (stop n k s' t x y) r e o = (_, λ beside. inl refl)

  in_below : (bs : List Booking) (below beside : Tree) (q : Pathed) → v.bookings ≡ bs → (v.bookings ≡ [] → ⊥) →
      In q (tree_paths (d + 1) below) → In (prefixed (number_of b) q) (tree_paths d (branch b s v bs below beside))
  in_below [] below beside q e n i = absurd (n e)
  in_below (c ∷ cs) empty beside q e n i = absurd i
  in_below (c ∷ cs) (stop n' k s' t x y) beside q e n i =
      inr (in_left (prefixed (number_of b) q) (map (prefixed (number_of b)) (tree_paths (d + 1) (stop n' k s' t x y))) (tree_paths d beside) (in_map (prefixed (number_of b)) q (tree_paths (d + 1) (stop n' k s' t x y)) i))

  in_beside : (bs : List Booking) (below beside : Tree) (q : Pathed) → In q (tree_paths d beside) →
      In q (tree_paths d (branch b s v bs below beside))
  in_beside [] below beside q i = inr i
  in_beside (c ∷ cs) empty beside q i = i
  in_beside (c ∷ cs) (stop n k s' t x y) beside q i = inr (in_right q (map (prefixed (number_of b)) (tree_paths (d + 1) (stop n k s' t x y))) (tree_paths d beside) i)

module _ (g : Rules) where
  module _ (grows : Walk → Tree) (w : Walk) (d : ℕ) where
    of_children : (bs : List Booking) (q : Pathed) → In q (tree_paths d (children g grows w bs)) →
        (b : Booking) × In b bs × Allowed g w b × At b (service g w b) (after g w b) d (grows (after g w b)) q
    unfolding children
    of_children [] q i = absurd i
    of_children (b ∷ bs) q i = ⊎_elim
        (λ s. ⊎_elim
        (λ r. (b, inl refl, s.0, r))
        (λ j. let t = of_children bs q j in (t.0, inr t.1, t.2, t.3))
        (of_branch b (service g w b) (after g w b) d (after g w b).bookings (grows (after g w b)) (children g grows w bs) q refl
        (subst (λ t. In q (tree_paths d t)) (children_some g grows w b bs (after g w b) s.1) i)))
        (λ s. let t = of_children bs q (subst (λ t. In q (tree_paths d t)) (children_none g grows w b bs s.1) i) in (t.0, inr t.1, t.2, t.3))
        (step_cases g w b)

    -- what stands in the branch of one booking stands among the children
    in_children : (bs : List Booking) (b : Booking) (q : Pathed) → In b bs → Allowed g w b →
        ((beside : Tree) → In q (tree_paths d (branch_of g grows w b beside))) → In q (tree_paths d (children g grows w bs))
    in_children [] b q i a f = absurd i
    in_children (c ∷ bs) b q i a f = ⊎_elim
        (λ s. subst (λ t. In q (tree_paths d t)) (sym (children_some g grows w c bs (after g w c) s.1)) (placed (λ j. in_children bs b q j a f) i))
        (λ s. subst (λ t. In q (tree_paths d t)) (sym (children_none g grows w c bs s.1)) (passed (λ j. in_children bs b q j a f) s.0 i))
        (step_cases g w c)
      where
        passed : (In b bs → In q (tree_paths d (children g grows w bs))) → (Allowed g w c → ⊥) → (b ≡ c) ⊎ In b bs →
            In q (tree_paths d (children g grows w bs))
        passed ih n (inl e) = absurd (n (subst (Allowed g w) e a))
        passed ih n (inr j) = ih j

        placed : (In b bs → In q (tree_paths d (children g grows w bs))) → (b ≡ c) ⊎ In b bs →
            In q (tree_paths d (branch_of g grows w c (children g grows w bs)))
        placed ih (inl e) = subst (λ x. In q (tree_paths d (branch_of g grows w x (children g grows w bs)))) e (f (children g grows w bs))
        placed ih (inr j) = in_beside c (service g w c) (after g w c) d (after g w c).bookings (grows (after g w c)) (children g grows w bs) q (ih j)

  begins_prefixed : (w : Walk) (d : ℕ) (b : Booking) (p : List ℕ) (x : Node) → In b w.bookings → Allowed g w b →
      Begins g (after g w b) (d + 1) p x → Begins g w d (number_of b ∷ p) x
  begins_prefixed w d b [] x i a h = absurd h
  begins_prefixed w d b (m ∷ p) x i a h = (b, i, refl, a, h)

  onward_sound : (k : ℕ) (v : Walk) (r : Order) → Onward v (grow g k v) r → Valid g v r.0 r.1
  onward_sound k v r (inl e) = subst (λ x. Valid g v x.0 x.1) (sym e.1) (e.0, refl)
  onward_sound k v r (inr e) = sound g k v r e.1

  onward_complete : (k : ℕ) (v : Walk) (o : List ℕ) (cost : ℕ) → stops v.bookings ≤ k → Valid g v o cost →
      Onward v (grow g k v) (o, cost)
  onward_complete k v [] cost l h = inl (h.0, ap (λ c. ([], c)) (sym h.1))
  onward_complete k v (n ∷ o) cost l h =
      let e = valid_length g (n ∷ o) v cost h in
      inr (in_nothing h.0 v.bookings h.1, complete g k v n o cost (omega arith) h)

  -- each node begins a valid order
  begun : (k d : ℕ) (w : Walk) (q : Pathed) → In q (tree_paths d (grow g k w)) → Begins g w d q.0 q.1
  unfolding grow
  begun zero d w q i = absurd i
  begun (suc k) d w q i =
      let t = of_children (grow g k) w d w.bookings q i in
      let b = t.0 in
      ⊎_elim
      (λ h. subst (λ (x : Pathed). Begins g w d x.0 x.1) (sym h.1)
      (b, t.1, refl, t.2, record { booking = refl; kind = refl; depth = refl; second = refl; cost = refl }, (h.2.0.0, h.2.0.1, onward_sound k (after g w b) h.2.0 h.2.1)))
      (λ h. subst (λ (x : Pathed). Begins g w d x.0 x.1) (sym h.1)
      (begins_prefixed w d b h.0.0 h.0.1 t.1 t.2 (begun k (d + 1) (after g w b) h.0 h.2)))
      t.3

  begins_open : (w : Walk) (d m : ℕ) (p : List ℕ) (x : Node) → Begins g w d (m ∷ p) x → w.bookings ≡ [] → ⊥
  begins_open w d m [] x h = in_nothing h.0 w.bookings h.1
  begins_open w d m (n ∷ p) x h = in_nothing h.0 w.bookings h.1

  node_shown : (w : Walk) (b : Booking) (d span : ℕ) (x : Node) → Shows g w b d x →
      node_of b (service g w b) (after g w b) d span ≡ spanning x span
  node_shown w b d span x h =
      λ i. record { booking = sym h.booking i; kind = sym h.kind i; depth = sym h.depth i; span = span; second = sym h.second i; cost = sym h.cost i }

  -- each beginning of a valid order has its node
  has_node : (k d : ℕ) (w : Walk) (p : List ℕ) (x : Node) → stops w.bookings ≤ k → Begins g w d p x →
      (span : ℕ) × In (p, spanning x span) (tree_paths d (grow g k w))
  unfolding grow
  has_node k d w [] x l h = absurd h
  has_node zero d w (n ∷ []) x l h = absurd (let e = after_stops g w h.0 h.1 in omega arith)
  has_node zero d w (n ∷ m ∷ p) x l h = absurd (let e = after_stops g w h.0 h.1 in omega arith)
  has_node (suc k) d w (n ∷ []) x l h =
      let b = h.0 in
      let v = after g w b in
      let e = after_stops g w b h.1 in
      let t = in_root b (service g w b) v d v.bookings (grow g k v) (h.5.0, h.5.1) refl (onward_complete k v h.5.0 h.5.1 (omega arith) h.5.2) in (
        t.0,
        subst (λ (q : Pathed). In q (tree_paths d (children g (grow g k) w w.bookings))) (λ i. (h.2 i ∷ [], node_shown w b d t.0 x h.4 i))
            (in_children (grow g k) w d w.bookings b (number_of b ∷ [], node_of b (service g w b) v d t.0) h.1 h.3 t.1),
      )
  has_node (suc k) d w (n ∷ m ∷ p) x l h =
      let b = h.0 in
      let v = after g w b in
      let e = after_stops g w b h.1 in
      let t = has_node k (d + 1) v (m ∷ p) x (omega arith) h.4 in (
        t.0,
        subst (λ y. In (y ∷ m ∷ p, spanning x t.0) (tree_paths d (children g (grow g k) w w.bookings))) h.2
            (in_children (grow g k) w d w.bookings b (number_of b ∷ m ∷ p, spanning x t.0) h.1 h.3
            (λ beside. in_below b (service g w b) v d v.bookings (grow g k v) beside (m ∷ p, spanning x t.0) refl (begins_open v (d + 1) m p x h.4) t.1)),
      )

earlier_above : (n : ℕ) (o p : List ℕ) → BeginsAbove n p → Earlier (n ∷ o) p
earlier_above n o [] h = absurd h
earlier_above n o (m ∷ p) h = inl h

abbrev InTurn : Pathed → Pathed → Type 0
InTurn p q = Earlier p.0 q.0

-- no path is empty
path_there : (t : Tree) (d : ℕ) (r : Pathed) → In r (tree_paths d t) → Earlier [] r.0
path_there empty d r i = absurd i
path_there (stop n k s c below beside) d r (inl e) = subst (λ (x : Pathed). Earlier [] x.0) (sym e) tt
path_there (stop n k s c below beside) d r (inr i) = ⊎_elim
    (λ j. let m = of_map (prefixed n) r (tree_paths (d + 1) below) j in subst (λ (x : Pathed). Earlier [] x.0) (sym m.2) tt)
    (λ j. path_there beside d r j)
    (in_append r (map (prefixed n) (tree_paths (d + 1) below)) (tree_paths d beside) i)

ascend_branch : (b : Booking) (s : ℕ) (v : Walk) (d : ℕ) (bs : List Booking) (below beside : Tree) →
    PathsAscend (tree_paths (d + 1) below) → PathsAscend (tree_paths d beside) →
    ((q : Pathed) → In q (tree_paths d beside) → BeginsAbove (number_of b) q.0) →
    PathsAscend (tree_paths d (branch b s v bs below beside))
ascend_branch b s v d [] below beside r t h = (λ x i. earlier_above (number_of b) [] x.0 (h x i), t)
ascend_branch b s v d (c ∷ cs) empty beside r t h = t
ascend_branch b s v d (c ∷ cs) (stop n k s' u x y) beside r t h =
    let below : Tree = stop n k s' u x y in
    let lower : List Pathed = tree_paths (d + 1) below in (
      λ q i. ⊎_elim
          (λ j. let m = of_map (prefixed (number_of b)) q lower j in
          subst (λ (z : Pathed). Earlier (number_of b ∷ []) z.0) (sym m.2) (inr (refl, path_there below (d + 1) m.0 m.1)))
          (λ j. earlier_above (number_of b) [] q.0 (h q j))
          (in_append q (map (prefixed (number_of b)) lower) (tree_paths d beside) i),
      sorted_append InTurn (map (prefixed (number_of b)) lower) (tree_paths d beside) (sorted_map (prefixed (number_of b)) InTurn InTurn (λ p q e. inr (refl, e)) lower r) t
          (λ p q i j. let m = of_map (prefixed (number_of b)) p lower i in
          subst (λ (z : Pathed). Earlier z.0 q.0) (sym m.2) (earlier_above (number_of b) m.0.0 q.0 (h q j))),
    )

module _ (g : Rules) where
  ascend_children : (grows : Walk → Tree) (w : Walk) (d : ℕ) → ((b : Booking) → PathsAscend (tree_paths (d + 1) (grows (after g w b)))) →
      (bs : List Booking) → Ascending bs → PathsAscend (tree_paths d (children g grows w bs))
  unfolding children
  ascend_children grows w d ascends [] a = tt
  ascend_children grows w d ascends (b ∷ bs) a = ⊎_elim
      (λ s. subst (λ t. PathsAscend (tree_paths d t)) (sym (children_some g grows w b bs (after g w b) s.1))
      (ascend_branch b (service g w b) (after g w b) d (after g w b).bookings (grows (after g w b)) (children g grows w bs) (ascends b) (ascend_children grows w d ascends bs a.1)
      (λ q i. let t = of_children g grows w d bs q i in ⊎_elim
      (λ h. subst (λ (z : Pathed). BeginsAbove (number_of b) z.0) (sym h.1) (above_in (number_of b) t.0 bs a.0 t.1))
      (λ h. subst (λ (z : Pathed). BeginsAbove (number_of b) z.0) (sym h.1) (above_in (number_of b) t.0 bs a.0 t.1))
      t.3)))
      (λ s. subst (λ t. PathsAscend (tree_paths d t)) (sym (children_none g grows w b bs s.1)) (ascend_children grows w d ascends bs a.1))
      (step_cases g w b)

  ascend_grow : (k d : ℕ) (w : Walk) → Ascending w.bookings → PathsAscend (tree_paths d (grow g k w))
  unfolding grow
  ascend_grow zero d w a = tt
  ascend_grow (suc k) d w a = ascend_children (grow g k) w d (λ b. ascend_grow k (d + 1) (after g w b) (after_ascending g w b a)) w.bookings a

  pub exact_nodes : ExactNodes g
  unfolding kinetic_tree
  exact_nodes = record {
    each = λ w p x i. begun g (stops w.bookings) 1 w (p, x) (subst (In (p, x)) (paths_nodes (kinetic_tree g w)) i);
    all = λ w p x h.
        (let t = has_node g (stops w.bookings) 1 w p x (omega arith) h in
        (t.0, subst (In (p, spanning x t.0)) (sym (paths_nodes (kinetic_tree g w))) t.1));
    ascending = λ w a. subst PathsAscend (sym (paths_nodes (kinetic_tree g w))) (ascend_grow (stops w.bookings) 1 w a);
    spans = λ w. spans_nodes (kinetic_tree g w);
  }

  -- the seconds of service of a valid order, and of a beginning of one
  valid_timed : (o : List ℕ) (w : Walk) (cost : ℕ) → Valid g w o cost → (seconds : List ℕ) × Timed g w o seconds
  valid_timed [] w cost v = ([], refl)
  valid_timed (n ∷ o) w cost v =
      let t = valid_timed o (after g w v.0) cost v.4 in (service g w v.0 ∷ t.0, (v.0, v.1, v.2, refl, t.1))

  one_timing : (o : List ℕ) (w : Walk) → Ascending w.bookings → (s t : List ℕ) → Timed g w o s → Timed g w o t → s ≡ t
  one_timing [] w a s t p q = p ∙ sym q
  one_timing (n ∷ o) w a [] t p q = absurd p
  one_timing (n ∷ o) w a (x ∷ s) [] p q = absurd q
  one_timing (n ∷ o) w a (x ∷ s) (y ∷ t) p q =
      let e = one_booking p.0 q.0 w.bookings a p.1 q.1 (p.2 ∙ sym q.2) in
      let r = one_timing o (after g w p.0) (after_ascending g w p.0 a) s t p.4 (subst (λ b. Timed g (after g w b) o t) (sym e) q.4) in
      let z : x ≡ y = sym p.3 ∙ ap (service g w) e ∙ q.3 in
      λ i. z i ∷ r i

  begins_timed : (p : List ℕ) (w : Walk) (d : ℕ) (x : Node) → Begins g w d p x →
      (earlier : List ℕ) × Timed g w p (earlier ++ (x.second ∷ []))
  begins_timed [] w d x h = absurd h
  begins_timed (n ∷ []) w d x h = ([], (h.0, h.1, h.2, sym h.4.second, refl))
  begins_timed (n ∷ m ∷ p) w d x h =
      let t = begins_timed (m ∷ p) (after g w h.0) (d + 1) x h.4 in (service g w h.0 ∷ t.0, (h.0, h.1, h.2, refl, t.1))

  pub exact_seconds : ExactSeconds g
  exact_seconds = record {
    timed = λ w o. valid_timed o w;
    one = λ w a o. one_timing o w a;
    shown = λ w p x i. begins_timed p w 1 x (exact_nodes.each w p x i);
  }
