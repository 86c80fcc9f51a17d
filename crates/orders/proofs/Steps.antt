-- Shows what one more stop served does to the bookings, to a walk and to the tree.
use Rattle.std.proofs.Common.{◌≡◌, ℕ, ◌+◌, ◌<◌, ◌≤◌, true, false, eqb, ◌⊎◌, List, [], ◌∷◌, ◌++◌, length, Some, None, Option, sym, refl, ap, ◌∙◌, subst, inl, inr, ⊎_elim, arith}
use Rattle.std.proofs.lemmas.Bool.{cond_both, cond-true, cond-false, cases_Bool, both_ways, eqb-false, ltb-true, lt-ltb, leb-true, le-leb, and_parts, and_from}
use Rattle.orders.specs.declared.Booking.{Booking}
use Rattle.orders.specs.declared.Booking.TheVariants.{Waiting, Aboard}
use Rattle.orders.specs.Rules.{Rules}
use Rattle.orders.specs.Bookings.{In, number_of, remaining, served, stops, Above, Ascending}
use Rattle.orders.specs.Walks.{Walk, departs, service, after, Allowed, Valid}
use Rattle.orders.specs.Trees.{Tree, branch, is_allowed, step, children}
use Rattle.orders.specs.Growth.{guided_children}

-- no van drives on before it has served
pub departs_later : (s : ℕ) → s ≤ departs s
unfolding departs
departs_later s = omega arith

-- served no later, a stop is left no later
pub departs_in_turn : (s t : ℕ) → s ≤ t → departs s ≤ departs t
unfolding departs
departs_in_turn s t h = h

-- service takes no time
pub departs_at_once : (s : ℕ) → departs s ≡ s
unfolding departs
departs_at_once s = refl

-- a stop served is one open stop less
pub served_stops : (d : ℕ) (b : Booking) (bs : List Booking) → In b bs → stops (served d (number_of b) bs) + 1 ≡ stops bs
served_stops d b [] i = absurd i
served_stops d b (c ∷ cs) i =
    cond_both (eqb (number_of c) (number_of b)) _ _ (λ l. stops l + 1 ≡ stops (c ∷ cs)) (λ e. now c) (λ e. later c (eqb-false _ _ e) i (served_stops d b cs))
  where
    now : (c' : Booking) → stops (remaining d c' ++ cs) + 1 ≡ stops (c' ∷ cs)
    now (Waiting pickup j) = omega arith
    now (Aboard since j) = omega arith

    later : (c' : Booking) → (number_of c' ≡ number_of b → ⊥) → (b ≡ c') ⊎ In b cs →
        (In b cs → stops (served d (number_of b) cs) + 1 ≡ stops cs) → stops (c' ∷ served d (number_of b) cs) + 1 ≡ stops (c' ∷ cs)
    later c' n (inl e) ih = absurd (n (ap number_of (sym e)))
    later (Waiting pickup j) n (inr i') ih = let h = ih i' in omega arith
    later (Aboard since j) n (inr i') ih = let h = ih i' in omega arith

served_above : (m d n : ℕ) (bs : List Booking) → Above m bs → Above m (served d n bs)
served_above m d n [] a = tt
served_above m d n (c ∷ cs) a =
    cond_both (eqb (number_of c) n) _ _ (Above m) (λ e. now c a) (λ e. (a.0, served_above m d n cs a.1))
  where
    now : (c' : Booking) → Above m (c' ∷ cs) → Above m (remaining d c' ++ cs)
    now (Waiting pickup j) h = h
    now (Aboard since j) h = h.1

pub served_ascending : (d n : ℕ) (bs : List Booking) → Ascending bs → Ascending (served d n bs)
served_ascending d n [] a = tt
served_ascending d n (c ∷ cs) a =
    cond_both (eqb (number_of c) n) _ _ Ascending (λ e. now c a) (λ e. (served_above (number_of c) d n cs a.0, served_ascending d n cs a.1))
  where
    now : (c' : Booking) → Ascending (c' ∷ cs) → Ascending (remaining d c' ++ cs)
    now (Waiting pickup j) h = h
    now (Aboard since j) h = h.1

pub above_in : (n : ℕ) (b : Booking) (bs : List Booking) → Above n bs → In b bs → n < number_of b
above_in n b [] a i = absurd i
above_in n b (c ∷ cs) a (inl e) = subst (λ x. n < number_of x) (sym e) a.0
above_in n b (c ∷ cs) a (inr i) = above_in n b cs a.1 i

-- a number names one booking
pub one_booking : (b c : Booking) (bs : List Booking) → Ascending bs → In b bs → In c bs → number_of b ≡ number_of c → b ≡ c
one_booking b c [] a i j e = absurd i
one_booking b c (x ∷ xs) a (inl p) (inl q) e = p ∙ sym q
one_booking b c (x ∷ xs) a (inl p) (inr j) e =
    let h = above_in (number_of x) c xs a.0 j in let k = ap number_of p in absurd (omega arith)
one_booking b c (x ∷ xs) a (inr i) (inl q) e =
    let h = above_in (number_of x) b xs a.0 i in let k = ap number_of q in absurd (omega arith)
one_booking b c (x ∷ xs) a (inr i) (inr j) e = one_booking b c xs a.1 i j e

module _ (g : Rules) where
  pub after_ascending : (w : Walk) (b : Booking) → Ascending w.bookings → Ascending (after g w b).bookings
  after_ascending w b a = served_ascending _ (number_of b) w.bookings a

  pub after_stops : (w : Walk) (b : Booking) → In b w.bookings → stops (after g w b).bookings + 1 ≡ stops w.bookings
  after_stops w b i = served_stops _ b w.bookings i

  -- a valid order serves every open stop
  pub valid_length : (o : List ℕ) (w : Walk) (cost : ℕ) → Valid g w o cost → length o ≡ stops w.bookings
  valid_length [] w cost v = sym (ap stops v.0)
  valid_length (n ∷ o) w cost v =
      let h = valid_length o (after g w v.0) cost v.4 in let k = after_stops w v.0 v.1 in omega arith

  -- the test says whether a stop may be served next
  pub allowed_true : (w : Walk) (b : Booking) → is_allowed g w b ≡ true → Allowed g w b
  allowed_true w b e =
      let p = and_parts _ _ e in
      let q = and_parts _ _ p.1 in
      let r = and_parts _ _ q.1 in
      record { here = ltb-true _ _ p.0; there = ltb-true _ _ q.0; timely = leb-true _ _ r.0; limits = r.1 }

  pub true_allowed : (w : Walk) (b : Booking) → Allowed g w b → is_allowed g w b ≡ true
  true_allowed w b a =
      and_from _ _ (lt-ltb _ _ a.here) (and_from _ _ (lt-ltb _ _ a.there) (and_from _ _ (le-leb _ _ a.timely) a.limits))

  pub step_allowed : (w : Walk) (b : Booking) → is_allowed g w b ≡ true → step g w b ≡ Some (after g w b)
  unfolding step
  step_allowed w b e = cond-true (is_allowed g w b) _ _ e

  pub step_refused : (w : Walk) (b : Booking) → is_allowed g w b ≡ false → step g w b ≡ None
  unfolding step
  step_refused w b e = cond-false (is_allowed g w b) _ _ e

  -- a step is taken where the stop may be served next, and not where it may not
  pub step_cases : (w : Walk) (b : Booking) →
      (Allowed g w b × (step g w b ≡ Some (after g w b))) ⊎ ((Allowed g w b → ⊥) × (step g w b ≡ None))
  step_cases w b = ⊎_elim
      (λ e. inl (allowed_true w b e, step_allowed w b e))
      (λ e. inr (λ a. both_ways (is_allowed g w b) e (true_allowed w b a), step_refused w b e))
      (cases_Bool (is_allowed g w b))

  module _ (grows : Walk → Tree) (w : Walk) (b : Booking) (bs : List Booking) where
    -- the children with those of one more booking, by what its step answers
    abbrev child_by : Option Walk → Tree
    child_by (Some v) = branch b (service g w b) v v.bookings (grows v) (children g grows w bs)
    child_by None = children g grows w bs

    children_by : children g grows w (b ∷ bs) ≡ child_by (step g w b)
    unfolding children
    children_by = by_cases (step g w b)
      where
        by_cases : (s : Option Walk) →
            (elim s as (λ x. Tree) [ Some v ↦ branch b (service g w b) v v.bookings (grows v) (children g grows w bs) | None ↦ children g grows w bs ]) ≡ child_by s
        by_cases (Some v) = refl
        by_cases None = refl

    pub children_some : (v : Walk) → step g w b ≡ Some v →
        children g grows w (b ∷ bs) ≡ branch b (service g w b) v v.bookings (grows v) (children g grows w bs)
    children_some v e = children_by ∙ ap child_by e

    pub children_none : step g w b ≡ None → children g grows w (b ∷ bs) ≡ children g grows w bs
    children_none e = children_by ∙ ap child_by e

  module _ {Old : Type 0} (hint : ℕ → Old → Option Old) (grows : Old → Walk → Tree) (old : Old) (w : Walk) (b : Booking) (bs : List Booking) where
    -- the same along an old tree, by its hint and by what the step answers
    abbrev stepped_by : Old → Option Walk → Tree
    stepped_by on (Some v) = branch b (service g w b) v v.bookings (grows on v) (guided_children g hint grows old w bs)
    stepped_by on None = guided_children g hint grows old w bs

    abbrev hinted_by : Option Old → Tree
    hinted_by (Some on) = stepped_by on (step g w b)
    hinted_by None = guided_children g hint grows old w bs

    guided_by : guided_children g hint grows old w (b ∷ bs) ≡ hinted_by (hint (number_of b) old)
    unfolding guided_children
    guided_by = by_hint (hint (number_of b) old)
      where
        by_step : (on : Old) (s : Option Walk) →
            (elim s as (λ x. Tree) [ Some v ↦ branch b (service g w b) v v.bookings (grows on v) (guided_children g hint grows old w bs) | None ↦ guided_children g hint grows old w bs ]) ≡ stepped_by on s
        by_step on (Some v) = refl
        by_step on None = refl

        by_hint : (h : Option Old) →
            (elim h as (λ x. Tree) [
              | Some on ↦ elim (step g w b) as (λ x. Tree) [ Some v ↦ branch b (service g w b) v v.bookings (grows on v) (guided_children g hint grows old w bs) | None ↦ guided_children g hint grows old w bs ]
              | None ↦ guided_children g hint grows old w bs
            ]) ≡ hinted_by h
        by_hint (Some on) = by_step on (step g w b)
        by_hint None = refl

    pub guided_some : (on : Old) (v : Walk) → hint (number_of b) old ≡ Some on → step g w b ≡ Some v →
        guided_children g hint grows old w (b ∷ bs) ≡ branch b (service g w b) v v.bookings (grows on v) (guided_children g hint grows old w bs)
    guided_some on v e s = guided_by ∙ ap hinted_by e ∙ ap (stepped_by on) s

    pub guided_none : (on : Old) → hint (number_of b) old ≡ Some on → step g w b ≡ None →
        guided_children g hint grows old w (b ∷ bs) ≡ guided_children g hint grows old w bs
    guided_none on e s = guided_by ∙ ap hinted_by e ∙ ap (stepped_by on) s

    pub guided_skip : hint (number_of b) old ≡ None → guided_children g hint grows old w (b ∷ bs) ≡ guided_children g hint grows old w bs
    guided_skip e = guided_by ∙ ap hinted_by e
