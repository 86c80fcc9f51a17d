-- Shows that the nodes of a van's tree follow one another, and that the trail to each shows a walk.
use Rattle.std.proofs.Common.{◌≡◌, ℕ, zero, suc, ◌+◌, ◌-◌, ◌<◌, ◌≤◌, List, [], ◌∷◌, ◌++◌, length, take, sym, refl, ap, ◌∙◌, subst, inl, inr, ⊎_elim, append_assoc, append-nil, arith, length-take, take_all, take-take}
use Rattle.std.proofs.lemmas.List.{take_at, length_push}
use Rattle.orders.specs.declared.Booking.{Booking}
use Rattle.orders.specs.declared.Node.{Node}
use Rattle.orders.specs.Rules.{Rules}
use Rattle.orders.specs.Bookings.{In, number_of, stop_kind, stops}
use Rattle.orders.specs.Walks.{Walk, service, after, Allowed}
use Rattle.orders.specs.Trees.{Tree, empty, stop, nodes, branch, children, grow, kinetic_tree, tree_row}
use Rattle.orders.specs.Laws.{Shows}
use Rattle.orders.proofs.Steps.{step_cases, children_some, children_none}
use Rattle.van_slab.specs.Trails.{trail_to}
use Rattle.van_slab.specs.Laws.{Shown}
use Rattle.van_slab.proofs.Entered.{Follows}

-- the trail shows how w goes on until v; it begins at this depth
abbrev pub Reaches : (g : Rules) → Walk → ℕ → List Node → Walk → Type 0
Reaches g w depth [] v = w ≡ v
Reaches g w depth (x ∷ t) v = (b : Booking) × In b w.bookings × Allowed g w b × Shows g w b depth x × Reaches g (after g w b) (depth + 1) t v

-- x can follow t, and the trail to it shows a walk, which leaves nothing open where it ends an order
pub record Tracked (g : Rules) (w : Walk) (t : List Node) (x : Node) : Type 0 where
  pub follow : Follows t x
  pub to : Walk
  pub way : Reaches g w 1 (trail_to t x) to
  pub whole : x.span ≡ 1 → to.bookings ≡ []

-- so it is for all nodes of a row; t leads to the node before it
abbrev pub Tracks : (g : Rules) → Walk → List Node → List Node → Type 0
Tracks g w t [] = Unit {0}
Tracks g w t (x ∷ xs) = Tracked g w t x × Tracks g w (trail_to t x) xs

-- the same for all trails that begin with these d nodes
abbrev Hangs : (g : Rules) → Walk → ℕ → List Node → List Node → Type 0
Hangs g w d p xs = (t : List Node) → take d t ≡ p → Tracks g w t xs

module _ (g : Rules) where
  pub reaches_shown : (t : List Node) (w v : Walk) (d : ℕ) → Reaches g w d t v → v.bookings ≡ [] → Shown g w d t
  reaches_shown [] w v d r e = ap (λ (u : Walk). u.bookings) r ∙ e
  reaches_shown (x ∷ t) w v d r e = (r.0, r.1, r.2, r.3, reaches_shown t (after g w r.0) v (d + 1) r.4 e)

  -- one stop more
  reaches_push : (p : List Node) (w v : Walk) (d e : ℕ) (b : Booking) (x : Node) → Reaches g w d p v → In b v.bookings → Allowed g v b →
      Shows g v b e x → e ≡ d + length p → Reaches g w d (p ++ (x ∷ [])) (after g v b)
  reaches_push [] w v d e b x r i a s l =
      let f : e ≡ d = omega arith in
      subst (λ (u : Walk). Reaches g u d (x ∷ []) (after g v b)) (sym r) (b, i, a, subst (λ m. Shows g v b m x) f s, refl)
  reaches_push (y ∷ p) w v d e b x r i a s l = (r.0, r.1, r.2, r.3, reaches_push p (after g w r.0) v (d + 1) e b x r.4 i a s (omega arith))

  module _ (w : Walk) where
    -- what hangs on d nodes hangs on them and one more
    hangs_more : (d : ℕ) (p : List Node) (x : Node) (xs : List Node) → length p ≡ d → Hangs g w d p xs → Hangs g w (d + 1) (p ++ (x ∷ [])) xs
    hangs_more d p x xs l h t e = h t (sym (take-take d (d + 1) t (omega arith)) ∙ ap (take d) e ∙ take_at p (x ∷ []) d l)

    -- v is reached by the trail p of d nodes, and goes on with b
    module _ (v : Walk) (d : ℕ) (p : List Node) (l : length p ≡ d) (r : Reaches g w 1 p v) (most : d + 1 ≤ 8) (b : Booking) (i : In b v.bookings) (a : Allowed g v b) where
      abbrev shows_next : ℕ → Node
      shows_next span = record { booking = number_of b; kind = stop_kind b; depth = d + 1; span = span; second = service g v b; cost = (after g v b).cost }

      -- the trail to b's next stop
      abbrev onward : ℕ → List Node
      onward span = p ++ (shows_next span ∷ [])

      reaches_onward : (span : ℕ) → Reaches g w 1 (onward span) (after g v b)
      reaches_onward span =
          reaches_push p w v 1 (d + 1) b (shows_next span) r i a (record { booking = refl; kind = refl; depth = refl; second = refl; cost = refl }) (omega arith)

      length_onward : (span : ℕ) → length (onward span) ≡ d + 1
      length_onward span = length_push p (shows_next span) ∙ ap (λ n. n + 1) l

      trail_onward : (span : ℕ) (t : List Node) → take d t ≡ p → onward span ≡ trail_to t (shows_next span)
      trail_onward span t e =
          let m : d ≡ d + 1 - 1 = omega arith in ap (λ u. u ++ (shows_next span ∷ [])) (sym e ∙ ap (λ n. take n t) m)

      next_tracked : (span : ℕ) (t : List Node) → take d t ≡ p → 0 < span → (span ≡ 1 → (after g v b).bookings ≡ []) → Tracked g w t (shows_next span)
      next_tracked span t e s n =
          let k = ap length e in
          let m = length-take d t in record {
            follow = record { spans = s; below = omega arith; near = omega arith; most = most };
            to = after g v b;
            way = subst (λ u. Reaches g w 1 u (after g v b)) (trail_onward span t e) (reaches_onward span);
            whole = n;
          }

      -- a stop, and what hangs on the trail to it
      hangs_stop : (span : ℕ) (xs : List Node) → 0 < span → (span ≡ 1 → (after g v b).bookings ≡ []) → Hangs g w (d + 1) (onward span) xs →
          Hangs g w d p (shows_next span ∷ xs)
      hangs_stop span xs s n h t e = (
        next_tracked span t e s n,
        subst (λ u. Tracks g w u xs) (trail_onward span t e) (h (onward span) (take_all (d + 1) (onward span) (omega (arith, length_onward span)))),
      )

      hangs_branch : (bs : List Booking) (below beside : Tree) (rest : List Node) → (after g v b).bookings ≡ bs →
          ((span : ℕ) (xs : List Node) → Hangs g w (d + 1) (onward span) xs → Hangs g w (d + 1) (onward span) (nodes (d + 1 + 1) below ++ xs)) →
          Hangs g w d p (nodes (d + 1) beside ++ rest) →
          Hangs g w d p (nodes (d + 1) (branch b (service g v b) (after g v b) bs below beside) ++ rest)
      hangs_branch [] below beside rest e f h = hangs_stop 1 (nodes (d + 1) beside ++ rest) (omega arith) (λ z. e) (hangs_more d p (shows_next 1) (nodes (d + 1) beside ++ rest) l h)
      hangs_branch (c ∷ cs) empty beside rest e f h = h
      hangs_branch (c ∷ cs) (stop n k s t x y) beside rest e f h =
          let below : Tree = stop n k s t x y in
          let span : ℕ = 1 + length (nodes (d + 1 + 1) below) in
          subst (λ xs. Hangs g w d p (shows_next span ∷ xs)) (sym (append_assoc (nodes (d + 1 + 1) below) (nodes (d + 1) beside) rest))
          (hangs_stop span (nodes (d + 1 + 1) below ++ (nodes (d + 1) beside ++ rest)) (omega arith) (λ z. absurd (omega arith))
          (f span (nodes (d + 1) beside ++ rest) (hangs_more d p (shows_next span) (nodes (d + 1) beside ++ rest) l h)))

    module _ (grows : Walk → Tree) (v : Walk) (d : ℕ) (p : List Node) (l : length p ≡ d) (r : Reaches g w 1 p v) (most : d + 1 ≤ 8)
        (grown : (u : Walk) (q : List Node) → length q ≡ d + 1 → Reaches g w 1 q u → (rest : List Node) → Hangs g w (d + 1) q rest → Hangs g w (d + 1) q (nodes (d + 1 + 1) (grows u) ++ rest)) where
      hangs_children : (bs : List Booking) → ((b : Booking) → In b bs → In b v.bookings) → (rest : List Node) → Hangs g w d p rest →
          Hangs g w d p (nodes (d + 1) (children g grows v bs) ++ rest)
      unfolding children
      hangs_children [] its rest h = h
      hangs_children (b ∷ bs) its rest h =
          let beside = hangs_children bs (λ c i. its c (inr i)) rest h in
          let i = its b (inl refl) in
          ⊎_elim
          (λ s. subst (λ t. Hangs g w d p (nodes (d + 1) t ++ rest)) (sym (children_some g grows v b bs (after g v b) s.1))
          (hangs_branch v d p l r most b i s.0 (after g v b).bookings (grows (after g v b)) (children g grows v bs) rest refl
          (λ span. grown (after g v b) (onward v d p l r most b i s.0 span) (length_onward v d p l r most b i s.0 span) (reaches_onward v d p l r most b i s.0 span))
          beside))
          (λ s. subst (λ t. Hangs g w d p (nodes (d + 1) t ++ rest)) (sym (children_none g grows v b bs s.1)) beside)
          (step_cases g v b)

    hangs_grow : (k d : ℕ) (v : Walk) (p : List Node) → length p ≡ d → Reaches g w 1 p v → k + d ≤ 8 → (rest : List Node) → Hangs g w d p rest →
        Hangs g w d p (nodes (d + 1) (grow g k v) ++ rest)
    unfolding grow
    hangs_grow zero d v p l r most rest h = h
    hangs_grow (suc k) d v p l r most rest h =
        hangs_children (grow g k) v d p l r (omega arith) (λ u q m s. hangs_grow k (d + 1) u q m s (omega arith)) v.bookings (λ b i. i) rest h

  pub tracks_row : (w : Walk) → stops w.bookings ≤ 8 → Tracks g w [] (tree_row g w)
  unfolding kinetic_tree
  tracks_row w h =
      subst (Tracks g w []) (append-nil (tree_row g w)) (hangs_grow w (stops w.bookings) 0 w [] refl refl (omega arith) [] (λ t e. tt) [] refl)
