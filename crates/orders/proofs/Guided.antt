-- Shows that a tree grown along the old one is the tree grown anew.
use Rattle.std.proofs.Common.{◌≡◌, ℕ, zero, suc, ◌≤◌, Bool, true, false, cond, eqb, ◌⊎◌, List, [], ◌∷◌, Some, None, Option, sym, refl, ap, ◌∙◌, subst, ap₂, inl, inr, ⊎_elim, arith}
use Rattle.std.proofs.lemmas.Bool.{cond-true, cond-false, eq-eqb, eqb-false, ne_eqb}
use Rattle.orders.specs.declared.Booking.{Booking}
use Rattle.orders.specs.Rules.{Rules, Lawful}
use Rattle.orders.specs.Bookings.{In, number_of, stops, Above, Ascending}
use Rattle.orders.specs.Walks.{Walk, service, after, Allowed, Valid}
use Rattle.orders.specs.Orders.{Order}
use Rattle.orders.specs.Trees.{Tree, empty, stop, branch, children, grow}
use Rattle.orders.specs.Growth.{guided_children, guided}
use Rattle.orders.specs.Listings.{leave_out, prefixed, orders}
use Rattle.orders.proofs.Basics.{none_some, some_same, in_append, of_map}
use Rattle.orders.proofs.Steps.{after_stops, after_ascending, above_in, valid_length, step_cases, children_some, children_none, guided_some, guided_none, guided_skip}
use Rattle.orders.proofs.Grown.{onward_valid, sound, complete}
use Rattle.orders.proofs.Nodes.{branch_or}
use Rattle.orders.proofs.Thinned.{Kept, Ride, Ahead, kept_number, gone_or_kept, ahead_both, ahead_first, thinned}
use Rattle.orders.proofs.Rows.{below, guide}

-- a number with which an order begins is a root
has_root : (t : Tree) (n : ℕ) (o : List ℕ) (c : ℕ) → In (n ∷ o, c) (orders t) → (u : Tree) × (below n t ≡ Some u)
has_root empty n o c i = absurd i
has_root (stop m k s d under beside) n o c i = by_test (eqb m n) (λ e. ⊎_elim
    (λ j. let r = of_map (prefixed m) (n ∷ o, c) _ j in absurd (eqb-false m n e (first r.0 r.2)))
    (λ j. has_root beside n o c j)
    (in_append (n ∷ o, c) _ (orders beside) i))
  where
    first : (q : Order) → ◌≡◌ {A = Order} (n ∷ o, c) (prefixed m q) → m ≡ n
    first q e = let z : n ∷ o ≡ m ∷ q.0 = ap (λ (x : Order). x.0) e in cc

    by_test : (b : Bool) → (b ≡ false → (u : Tree) × (below n beside ≡ Some u)) →
        (u : Tree) × (cond b (Some under) (below n beside) ≡ Some u)
    by_test true h = (under, refl)
    by_test false h = h refl

module _ (b : Booking) (s : ℕ) (v : Walk) where
  below_its : (bs : List Booking) (under beside t : Tree) → v.bookings ≡ bs → (v.bookings ≡ [] → under ≡ empty) →
      below (number_of b) (branch b s v bs under beside) ≡ Some t → (t ≡ under) ⊎ (below (number_of b) beside ≡ Some t)
  below_its [] under beside t e h p =
      inl (some_same (Some t) t empty refl (sym p ∙ cond-true _ _ _ (eq-eqb (number_of b) (number_of b) refl)) ∙ sym (h e))
  below_its (c ∷ cs) empty beside t e h p = inr p
  below_its (c ∷ cs) (stop n k s' d x y) beside t e h p =
      inl (some_same (Some t) t (stop n k s' d x y) refl (sym p ∙ cond-true _ _ _ (eq-eqb (number_of b) (number_of b) refl)))

  below_other : (bs : List Booking) (under beside : Tree) (n : ℕ) → (number_of b ≡ n → ⊥) →
      below n (branch b s v bs under beside) ≡ below n beside
  below_other [] under beside n h = cond-false _ _ _ (ne_eqb _ _ h)
  below_other (c ∷ cs) empty beside n h = refl
  below_other (c ∷ cs) (stop m k s' d x y) beside n h = cond-false _ _ _ (ne_eqb _ _ h)

module _ (g : Rules) where
  module _ (grows : Walk → Tree) (nothing : (v : Walk) → v.bookings ≡ [] → grows v ≡ empty) (w : Walk) where
    below_above : (n : ℕ) (bs : List Booking) → Above n bs → below n (children g grows w bs) ≡ None
    unfolding children
    below_above n [] a = refl
    below_above n (b ∷ bs) a = ⊎_elim
        (λ s. ap (below n) (children_some g grows w b bs (after g w b) s.1)
        ∙ below_other b (service g w b) (after g w b) (after g w b).bookings (grows (after g w b)) (children g grows w bs) n (λ e. let h = a.0 in omega arith)
        ∙ below_above n bs a.1)
        (λ s. ap (below n) (children_none g grows w b bs s.1) ∙ below_above n bs a.1)
        (step_cases g w b)

    below_children : (bs : List Booking) (c : Booking) (t : Tree) → Ascending bs → In c bs →
        below (number_of c) (children g grows w bs) ≡ Some t → t ≡ grows (after g w c)
    below_children [] c t a i e = absurd i
    below_children (b ∷ bs) c t a (inl p) e =
        let e' : below (number_of b) (children g grows w (b ∷ bs)) ≡ Some t = ap (λ x. below (number_of x) (children g grows w (b ∷ bs))) (sym p) ∙ e in
        let none = below_above (number_of b) bs a.0 in
        ⊎_elim
        (λ s. ⊎_elim
        (λ q. q ∙ ap (λ x. grows (after g w x)) (sym p))
        (λ q. absurd (none_some _ t none q))
        (below_its b (service g w b) (after g w b) (after g w b).bookings (grows (after g w b)) (children g grows w bs) t refl (nothing (after g w b))
        (ap (below (number_of b)) (sym (children_some g grows w b bs (after g w b) s.1)) ∙ e')))
        (λ s. absurd (none_some _ t none (ap (below (number_of b)) (sym (children_none g grows w b bs s.1)) ∙ e')))
        (step_cases g w b)
    below_children (b ∷ bs) c t a (inr i) e =
        let ne : number_of b ≡ number_of c → ⊥ = λ z. let h = above_in (number_of b) c bs a.0 i in omega arith in
        ⊎_elim
        (λ s. below_children bs c t a.1 i
        (sym (below_other b (service g w b) (after g w b) (after g w b).bookings (grows (after g w b)) (children g grows w bs) (number_of c) ne)
        ∙ ap (below (number_of c)) (sym (children_some g grows w b bs (after g w b) s.1)) ∙ e))
        (λ s. below_children bs c t a.1 i (ap (below (number_of c)) (sym (children_none g grows w b bs s.1)) ∙ e))
        (step_cases g w b)

  grow_nothing : (k : ℕ) (v : Walk) → v.bookings ≡ [] → grow g k v ≡ empty
  unfolding grow
  grow_nothing zero v e = refl
  grow_nothing (suc k) v e = ap (children g (grow g k) v) e

  -- below a root of the grown tree stands what grows from its stop on
  pub below_grow : (j : ℕ) (u : Walk) (c : Booking) (t : Tree) → Ascending u.bookings → In c u.bookings → stops u.bookings ≤ j →
      below (number_of c) (grow g j u) ≡ Some t → (i : ℕ) × (t ≡ grow g i (after g u c)) × (stops (after g u c).bookings ≤ i)
  unfolding grow
  below_grow zero u c t a i l e = absurd (none_some None t refl e)
  below_grow (suc j) u c t a i l e = (j, below_children (grow g j) (grow_nothing j) u u.bookings c t a i e, let h = after_stops g u c i in omega arith)

module _ (g : Rules) (gone : ℕ → Bool) (extra : ℕ) (lawful : Lawful g) where
  -- a stop that the old tree does not have begins no valid order
  pub not_missed : (j : ℕ) (w u : Walk) (n : ℕ) (o : List ℕ) (cost : ℕ) → Ahead g gone extra w u → stops u.bookings ≤ j →
      gone n ≡ false → Valid g w (n ∷ o) cost → below n (grow g j u) ≡ None → ⊥
  not_missed j w u n o cost a l x v e =
      let t = thinned g gone extra lawful (n ∷ o) cost {w = w} {u = u} a v in
      let v' : Valid g u (n ∷ leave_out gone o) t.0 = subst (λ b. Valid g u (cond b (leave_out gone o) (n ∷ leave_out gone o)) t.0) x t.2 in
      let h = valid_length g (n ∷ leave_out gone o) u t.0 v' in
      let r = has_root (grow g j u) n (leave_out gone o) t.0 (complete g j u n (leave_out gone o) t.0 (omega arith) v') in
      none_some _ r.0 e r.1

  module _ (k j : ℕ) (w u : Walk) (a : Ahead g gone extra w u) (asc : Ascending u.bookings) (deep : stops u.bookings ≤ j)
      (ih : (j' : ℕ) (w' u' : Walk) → Ahead g gone extra w' u' → Ascending u'.bookings → stops u'.bookings ≤ j' →
      guided g (guide gone) k (grow g j' u') w' ≡ grow g k w') where
    abbrev Same : List Booking → Type 0
    Same bs = guided_children g (guide gone) (guided g (guide gone) k) (grow g j u) w bs ≡ children g (grow g k) w bs

    -- the old tree guides on, and from there the same grows
    guided_on : (b : Booking) (bs : List Booking) (on : Tree) → guide gone (number_of b) (grow g j u) ≡ Some on →
        (Allowed g w b → guided g (guide gone) k on (after g w b) ≡ grow g k (after g w b)) → Same bs → Same (b ∷ bs)
    guided_on b bs on e h s = ⊎_elim
        (λ t. guided_some g (guide gone) (guided g (guide gone) k) (grow g j u) w b bs on (after g w b) e t.1
        ∙ ap₂ (branch b (service g w b) (after g w b) (after g w b).bookings) (h t.0) s
        ∙ sym (children_some g (grow g k) w b bs (after g w b) t.1))
        (λ t. guided_none g (guide gone) (guided g (guide gone) k) (grow g j u) w b bs on e t.1 ∙ s ∙ sym (children_none g (grow g k) w b bs t.1))
        (step_cases g w b)

    -- the old tree does not have the stop, so nothing grows from it
    guided_past : (b : Booking) (bs : List Booking) → In b w.bookings → gone (number_of b) ≡ false →
        below (number_of b) (grow g j u) ≡ None → Same bs → Same (b ∷ bs)
    guided_past b bs i x e s =
        guided_skip g (guide gone) (guided g (guide gone) k) (grow g j u) w b bs (cond-false _ _ _ x ∙ e) ∙ s
        ∙ ⊎_elim
        (λ t. ⊎_elim
        (λ p. sym (children_some g (grow g k) w b bs (after g w b) t.1 ∙ p))
        (λ p. absurd (not_missed j w u (number_of b) p.0.0 p.0.1 a deep x
        (onward_valid g (grow g k (after g w b)) w b (sound g k (after g w b)) i t.0 p.0 p.1) e))
        (branch_or b (service g w b) (after g w b) (after g w b).bookings (grow g k (after g w b)) (children g (grow g k) w bs) refl))
        (λ t. sym (children_none g (grow g k) w b bs t.1))
        (step_cases g w b)

    guided_kept : (b c : Booking) (bs : List Booking) → In b w.bookings → gone (number_of b) ≡ false → In c u.bookings →
        Kept (Ride g w u) b c → Same bs → (o : Option Tree) → below (number_of b) (grow g j u) ≡ o → Same (b ∷ bs)
    guided_kept b c bs i x ic kept s None e = guided_past b bs i x e s
    guided_kept b c bs i x ic kept s (Some t) e =
        let d = below_grow g j u c t asc ic deep (ap (λ n. below n (grow g j u)) (sym (kept_number kept)) ∙ e) in
        guided_on b bs t (cond-false _ _ _ x ∙ e)
        (λ al. ap (λ t'. guided g (guide gone) k t' (after g w b)) d.1
        ∙ ih d.0 (after g w b) (after g u c) (ahead_both g gone extra lawful {w = w} {u = u} a kept x al) (after_ascending g u c asc) d.2)
        s

    same : (bs : List Booking) → ((b : Booking) → In b bs → In b w.bookings) → Same bs
    unfolding guided_children children
    same [] sub = refl
    same (b ∷ bs) sub =
        let s : Same bs = same bs (λ c i. sub c (inr i)) in
        ⊎_elim
        (λ x. guided_on b bs (grow g j u) (cond-true _ _ _ x)
        (λ al. ih j (after g w b) u (ahead_first g gone extra lawful {w = w} {u = u} b a x al) asc deep) s)
        (λ y. guided_kept b y.0 bs (sub b (inl refl)) y.1 y.2 y.3 s (below (number_of b) (grow g j u)) refl)
        (gone_or_kept a.thin (sub b (inl refl)))

  -- where u is ahead of w, its tree guides to all of w's
  pub guided_grow : (k j : ℕ) (w u : Walk) → Ahead g gone extra w u → Ascending u.bookings → stops u.bookings ≤ j →
      guided g (guide gone) k (grow g j u) w ≡ grow g k w
  unfolding guided grow
  guided_grow zero j w u a asc deep = refl
  guided_grow (suc k) j w u a asc deep = same k j w u a asc deep (λ j' w' u'. guided_grow k j' w' u') w.bookings (λ b i. i)

-- where every booking is new, the old tree does not matter
module _ (g : Rules) {Old : Type 0} (hint : ℕ → Old → Option Old) (free : (n : ℕ) (old : Old) → hint n old ≡ Some old) where
  children_anew : (k : ℕ) → ((old : Old) (w : Walk) → guided g hint k old w ≡ grow g k w) → (old : Old) (w : Walk) (bs : List Booking) →
      guided_children g hint (guided g hint k) old w bs ≡ children g (grow g k) w bs
  unfolding guided_children children
  children_anew k ih old w [] = refl
  children_anew k ih old w (b ∷ bs) = ⊎_elim
      (λ t. guided_some g hint (guided g hint k) old w b bs old (after g w b) (free (number_of b) old) t.1
      ∙ ap₂ (branch b (service g w b) (after g w b) (after g w b).bookings) (ih old (after g w b)) (children_anew k ih old w bs)
      ∙ sym (children_some g (grow g k) w b bs (after g w b) t.1))
      (λ t. guided_none g hint (guided g hint k) old w b bs old (free (number_of b) old) t.1 ∙ children_anew k ih old w bs ∙ sym (children_none g (grow g k) w b bs t.1))
      (step_cases g w b)

  pub guided_anew : (k : ℕ) (old : Old) (w : Walk) → guided g hint k old w ≡ grow g k w
  unfolding guided grow
  guided_anew zero old w = refl
  guided_anew (suc k) old w = children_anew k (guided_anew k) old w w.bookings

-- along an empty tree nothing grows where no booking is new
module _ (g : Rules) (new : ℕ → Bool) (none_new : (n : ℕ) → new n ≡ false) where
  children_empty : (grows : Tree → Walk → Tree) (w : Walk) (bs : List Booking) → guided_children g (guide new) grows empty w bs ≡ empty
  unfolding guided_children
  children_empty grows w [] = refl
  children_empty grows w (b ∷ bs) = guided_skip g (guide new) grows empty w b bs (cond-false _ _ _ (none_new (number_of b))) ∙ children_empty grows w bs

  pub guided_empty : (k : ℕ) (w : Walk) → guided g (guide new) k empty w ≡ empty
  unfolding guided
  guided_empty zero w = refl
  guided_empty (suc k) w = children_empty (guided g (guide new) k) w w.bookings
