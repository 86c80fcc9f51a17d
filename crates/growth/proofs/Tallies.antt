-- Shows what one stop more adds to the nodes of a tree, to their number and to the least cost.
use Rattle.std.proofs.Common.{◌≡◌, ℕ, zero, suc, pred, ◌+◌, min, true, false, leb, List, [], ◌∷◌, ◌++◌, map, length, Some, None, Option, sym, refl, ap, ◌∙◌, subst, arith}
use Rattle.std.specs.Option.{option_map}
use Rattle.std.proofs.lemmas.Bool.{cond_both, leb-true, leb-false}
use Rattle.orders.specs.declared.Booking.{Booking}
use Rattle.orders.specs.declared.Booking.TheVariants.{Waiting, Aboard}
use Rattle.orders.specs.declared.Node.{Node}
use Rattle.orders.specs.Rules.{Rules}
use Rattle.orders.specs.Bookings.{In, number_of, stop_kind, stops}
use Rattle.orders.specs.Walks.{Walk}
use Rattle.orders.specs.Orders.{Order, cheaper, cheapest}
use Rattle.orders.specs.Trees.{Tree, empty, stop, nodes, branch, orders_of}
use Rattle.orders.specs.Listings.{prefixed, or_end, orders}
use Rattle.orders.specs.Growth.{guide_row, guided_children, guided}
use Rattle.orders.proofs.Basics.{none_some}
use Rattle.orders.proofs.Paths.{listed_nodes}
use Rattle.orders.proofs.Nodes.{some_order}
use Rattle.growth.specs.declared.guide.Fresh.{Fresh}
use Rattle.growth.specs.Guides.{new_to, grown, grown_row, grown_from}
use Rattle.growth.specs.declared.tally.Tally.{Tally}
use Rattle.growth.specs.Surveys.{none_open, lesser, least_cost, Tallies}
use Rattle.growth.proofs.Counts.{size, length_nodes}

lesser_assoc : (x y z : Option ℕ) → lesser (lesser x y) z ≡ lesser x (lesser y z)
lesser_assoc None y z = refl
lesser_assoc (Some x) None z = refl
lesser_assoc (Some x) (Some y) None = refl
lesser_assoc (Some x) (Some y) (Some z) = ap Some (let e : min (min x y) z ≡ min x (min y z) = omega arith in e)

lesser_none : (x : Option ℕ) → lesser x None ≡ x
lesser_none None = refl
lesser_none (Some x) = refl

-- the least cost of some orders, one by one
least_first : (q : Order) (qs : List Order) → least_cost (q ∷ qs) ≡ lesser (Some q.1) (least_cost qs)
least_first q qs = by_rest (cheapest qs)
  where
    by_rest : (o : Option Order) → Some (cheaper q o).1 ≡ lesser (Some q.1) (option_map (λ (r : Order). r.1) o)
    by_rest None = refl
    by_rest (Some r) = cond_both (leb q.1 r.1) q r (λ (x : Order). Some x.1 ≡ Some (min q.1 r.1))
        (λ t. ap Some (let h = leb-true _ _ t in let e : q.1 ≡ min q.1 r.1 = omega arith in e))
        (λ t. ap Some (let h = leb-false _ _ t in let e : r.1 ≡ min q.1 r.1 = omega arith in e))

least_append : (qs rs : List Order) → least_cost (qs ++ rs) ≡ lesser (least_cost qs) (least_cost rs)
least_append [] rs = refl
least_append (q ∷ qs) rs =
    least_first q (qs ++ rs) ∙ ap (lesser (Some q.1)) (least_append qs rs) ∙ sym (lesser_assoc (Some q.1) (least_cost qs) (least_cost rs))
    ∙ ap (λ x. lesser x (least_cost rs)) (sym (least_first q qs))

least_prefixed : (n : ℕ) (qs : List Order) → least_cost (map (prefixed n) qs) ≡ least_cost qs
least_prefixed n [] = refl
least_prefixed n (q ∷ qs) = least_first (prefixed n q) (map (prefixed n) qs) ∙ ap (lesser (Some q.1)) (least_prefixed n qs) ∙ sym (least_first q qs)

least_some : (q : Order) (qs : List Order) → In q qs → least_cost qs ≡ None → ⊥
least_some q [] i e = i
least_some q (r ∷ qs) i e = none_some _ _ e refl

-- the orders from a walk on, by its tree
abbrev ahead : List Booking → ℕ → Tree → List Order
ahead [] cost t = ([], cost) ∷ []
ahead (b ∷ bs) cost t = orders t

listed_ahead : (w : Walk) (bs : List Booking) (t : Tree) → orders_of w bs (nodes 1 t) ≡ ahead bs w.cost t
listed_ahead w [] t = refl
listed_ahead w (b ∷ bs) t = listed_nodes t

module _ (b : Booking) (s : ℕ) (v : Walk) where
  -- nothing goes on from the stop
  branch_none : (bs : List Booking) (below beside : Tree) → least_cost (ahead bs v.cost below) ≡ None → branch b s v bs below beside ≡ beside
  branch_none [] below beside e = absurd (none_some None v.cost refl (sym e))
  branch_none (c ∷ cs) empty beside e = refl
  branch_none (c ∷ cs) (stop n k t u x y) beside e = let r = some_order n k t u x y in absurd (least_some r.0 (orders (stop n k t u x y)) r.1 e)

  -- the stop stands in the tree
  branch_some : (bs : List Booking) (below beside : Tree) (cost : ℕ) → (bs ≡ [] → below ≡ empty) → least_cost (ahead bs v.cost below) ≡ Some cost → branch b s v bs below beside ≡ stop (number_of b) (stop_kind b) s v.cost below beside
  branch_some [] below beside cost h e = ap (λ t. stop (number_of b) (stop_kind b) s v.cost t beside) (sym (h refl))
  branch_some (c ∷ cs) empty beside cost h e = absurd (none_some None cost refl e)
  branch_some (c ∷ cs) (stop n k t u x y) beside cost h e = refl

  least_end : (bs : List Booking) (below : Tree) (cost : ℕ) → (bs ≡ [] → below ≡ empty) → least_cost (ahead bs v.cost below) ≡ Some cost → least_cost (or_end below v.cost (orders below)) ≡ Some cost
  least_end [] below cost h e = subst (λ t. least_cost (or_end t v.cost (orders t)) ≡ Some cost) (sym (h refl)) e
  least_end (c ∷ cs) empty cost h e = absurd (none_some None cost refl e)
  least_end (c ∷ cs) (stop n k t u x y) cost h e = e

  -- its orders are those from it on, and those beside it
  least_branch : (bs : List Booking) (below beside : Tree) (cost : ℕ) → (bs ≡ [] → below ≡ empty) → least_cost (ahead bs v.cost below) ≡ Some cost → least_cost (orders (stop (number_of b) (stop_kind b) s v.cost below beside)) ≡ lesser (Some cost) (least_cost (orders beside))
  least_branch bs below beside cost h e =
      least_append (map (prefixed (number_of b)) (or_end below v.cost (orders below))) (orders beside)
      ∙ ap (λ x. lesser x (least_cost (orders beside))) (least_prefixed (number_of b) (or_end below v.cost (orders below)) ∙ least_end bs below cost h e)

none_open_nil : (bs : List Booking) → none_open bs ≡ true → bs ≡ []
none_open_nil [] e = refl
none_open_nil (b ∷ bs) e = let z : ◌≡◌ {A = ℕ} 0 1 = cc in absurd (omega arith)

ahead_open : (bs : List Booking) (cost : ℕ) (t : Tree) → none_open bs ≡ false → ahead bs cost t ≡ orders t
ahead_open [] cost t e = let z : ◌≡◌ {A = ℕ} 0 1 = cc in absurd (omega arith)
ahead_open (b ∷ bs) cost t e = refl

-- with nothing open nothing grows
empty_below : (g : Rules) (fresh : Fresh) (old : List Node) (w : Walk) → w.bookings ≡ [] → grown g fresh old w ≡ empty
unfolding guided guided_children
empty_below g fresh old w e = by_depth (stops w.bookings)
  where
    by_depth : (k : ℕ) → guided g (guide_row (new_to fresh)) k old w ≡ empty
    by_depth zero = refl
    by_depth (suc k) = ap (guided_children g (guide_row (new_to fresh)) (guided g (guide_row (new_to fresh)) k) old w) e

module _ (g : Rules) (fresh : Fresh) (old : List Node) where
  -- what grows is what grows from all open bookings
  pub grown_all : (w : Walk) → grown g fresh old w ≡ grown_from g fresh old w w.bookings
  unfolding guided guided_children
  grown_all w = by_depth (stops w.bookings) refl
    where
      no_stops : (bs : List Booking) → stops bs ≡ 0 → bs ≡ []
      no_stops [] e = refl
      no_stops (Waiting pickup j ∷ bs) e = absurd (omega arith)
      no_stops (Aboard since j ∷ bs) e = absurd (omega arith)

      by_depth : (k : ℕ) → stops w.bookings ≡ k → guided g (guide_row (new_to fresh)) k old w ≡ guided_children g (guide_row (new_to fresh)) (guided g (guide_row (new_to fresh)) (pred k)) old w w.bookings
      by_depth zero e = ap (guided_children g (guide_row (new_to fresh)) (guided g (guide_row (new_to fresh)) zero) old w) (sym (no_stops w.bookings e))
      by_depth (suc k) e = refl

  pub grown_nil : (w : Walk) → grown_from g fresh old w [] ≡ empty
  unfolding guided_children
  grown_nil w = refl

  -- nothing is open
  pub tally_nothing : (w : Walk) → true ≡ none_open w.bookings → Tallies g fresh old w (record { count = 0; least = Some w.cost })
  tally_nothing w e =
      let none = none_open_nil w.bookings (sym e) in
      record {
        count = ap (λ t. length (nodes 1 t)) (sym (empty_below g fresh old w none));
        least = ap (λ bs. least_cost (orders_of w bs (grown_row g fresh old w))) (sym none);
      }

  -- the tally so far, joined with that of the bookings yet to come, is the whole tally
  abbrev pub Tallied : Walk → List Booking → ℕ → Option ℕ → Type 0
  Tallied w bs count least =
      (count + size (grown_from g fresh old w bs) ≡ size (grown_from g fresh old w w.bookings))
      × (lesser least (least_cost (orders (grown_from g fresh old w bs))) ≡ least_cost (orders (grown_from g fresh old w w.bookings)))

  -- these bookings give nothing more than those
  pub tallied_same : (w : Walk) (bs bs' : List Booking) (count count' : ℕ) (least least' : Option ℕ) → grown_from g fresh old w bs ≡ grown_from g fresh old w bs' → count' ≡ count → least' ≡ least → Tallied w bs count least → Tallied w bs' count' least'
  tallied_same w bs bs' count count' least least' r c m t = (
    let e = ap size r in let q = t.0 in omega arith,
    ap (λ x. lesser x (least_cost (orders (grown_from g fresh old w bs')))) m ∙ ap (λ y. lesser least (least_cost (orders y))) (sym r) ∙ t.1,
  )

  -- all open bookings are tried
  pub tallied_all : (w : Walk) (bs : List Booking) (count : ℕ) (least : Option ℕ) → false ≡ none_open w.bookings → bs ≡ [] → Tallied w bs count least → Tallies g fresh old w (record { count = count; least = least })
  tallied_all w bs count least o e t =
      let r : grown_from g fresh old w bs ≡ empty = ap (grown_from g fresh old w) e ∙ grown_nil w in
      let q = grown_all w in
      record {
        count = let a = ap size r in let b = ap size q in let c = t.0 in let n = length_nodes (grown g fresh old w) 1 in omega arith;
        least =
            sym (lesser_none least) ∙ ap (λ y. lesser least (least_cost (orders y))) (sym r) ∙ t.1 ∙ ap (λ y. least_cost (orders y)) (sym q)
            ∙ ap least_cost (sym (ahead_open w.bookings w.cost (grown g fresh old w) (sym o)))
            ∙ ap least_cost (sym (listed_ahead w w.bookings (grown g fresh old w)));
      }

  -- b's next stop leads on to v, from where a tree grows along the nodes that guide on, and r is its tally
  module _ (w : Walk) (b : Booking) (s : ℕ) (bs bs' : List Booking) (bs_is : bs ≡ b ∷ bs') (v : Walk) (on : List Node) (r : Tally) (tallies : Tallies g fresh on v r)
      (stands : (cs : List Booking) → grown_from g fresh old w (b ∷ cs) ≡ branch b s v v.bookings (grown g fresh on v) (grown_from g fresh old w cs)) where
    reached : (o : Option ℕ) → r.least ≡ o → least_cost (ahead v.bookings v.cost (grown g fresh on v)) ≡ o
    reached o e = ap least_cost (sym (listed_ahead v v.bookings (grown g fresh on v))) ∙ sym tallies.least ∙ e

    -- no order goes on from it
    pub dead_end : r.least ≡ None → grown_from g fresh old w bs ≡ grown_from g fresh old w bs'
    dead_end e = ap (grown_from g fresh old w) bs_is ∙ stands bs' ∙ branch_none b s v v.bookings (grown g fresh on v) (grown_from g fresh old w bs') (reached None e)

    -- an order goes on from it
    pub one_stop : (cost : ℕ) → r.least ≡ Some cost → grown_from g fresh old w bs ≡ stop (number_of b) (stop_kind b) s v.cost (grown g fresh on v) (grown_from g fresh old w bs')
    one_stop cost e =
        ap (grown_from g fresh old w) bs_is ∙ stands bs'
        ∙ branch_some b s v v.bookings (grown g fresh on v) (grown_from g fresh old w bs') cost (empty_below g fresh on v) (reached (Some cost) e)

  -- b's next stop is a root, with v the walk from it on, and r is the tally of the tree below it
  module _ (w : Walk) (b : Booking) (s : ℕ) (bs bs' : List Booking) (v : Walk) (on : List Node) (r : Tally) (tallies : Tallies g fresh on v r) (cost : ℕ) (some : r.least ≡ Some cost)
      (stands : grown_from g fresh old w bs ≡ stop (number_of b) (stop_kind b) s v.cost (grown g fresh on v) (grown_from g fresh old w bs')) where
    -- one stop more, and what grows below it
    pub tallied_more : (count count' : ℕ) (least least' : Option ℕ) → count' ≡ count + (1 + r.count) → least' ≡ lesser least (Some cost) → Tallied w bs count least → Tallied w bs' count' least'
    tallied_more count count' least least' c_is l_is t =
        let told = ap least_cost (sym (listed_ahead v v.bookings (grown g fresh on v))) ∙ sym tallies.least ∙ some in (
          let a = ap size stands in let q = t.0 in let m = tallies.count in let n = length_nodes (grown g fresh on v) 1 in omega arith,
          ap (λ x. lesser x (least_cost (orders (grown_from g fresh old w bs')))) l_is
              ∙ lesser_assoc least (Some cost) (least_cost (orders (grown_from g fresh old w bs')))
              ∙ ap (lesser least) (sym (least_branch b s v v.bookings (grown g fresh on v) (grown_from g fresh old w bs') cost (empty_below g fresh on v) told))
              ∙ ap (λ y. lesser least (least_cost (orders y))) (sym stands)
              ∙ t.1,
        )

    -- its node, the nodes below it, and those of its later siblings
    pub one_node : (d n k : ℕ) → n ≡ number_of b → k ≡ stop_kind b →
        nodes d (grown_from g fresh old w bs) ≡ record { booking = n; kind = k; depth = d; span = 1 + r.count; second = s; cost = v.cost } ∷ (nodes (d + 1) (grown g fresh on v) ++ nodes d (grown_from g fresh old w bs'))
    one_node d n k n_is k_is =
        let span_is = length_nodes (grown g fresh on v) (d + 1) ∙ sym (length_nodes (grown g fresh on v) 1) ∙ sym tallies.count in
        ap (nodes d) stands
        ∙ (λ i. record { booking = sym n_is i; kind = sym k_is i; depth = d; span = 1 + span_is i; second = s; cost = v.cost } ∷ (nodes (d + 1) (grown g fresh on v) ++ nodes d (grown_from g fresh old w bs')))
