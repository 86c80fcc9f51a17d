-- Shows that a trail that shows an order visits both stops of a booking that waits, and which seconds are told of them.
use Rattle.std.proofs.Common.{◌≡◌, ℕ, ◌+◌, Bool, true, false, cond, ◌&&◌, eqb, ltb, ◌⊎◌, List, [], ◌∷◌, ◌++◌, map, sym, refl, ap, ◌∙◌, subst, inl, inr, ⊎_elim, arith}
use Rattle.std.proofs.lemmas.Bool.{cond_both, cases_eq, and_parts, and_from, both_ways, eqb-true, eqb-false, eq-eqb}
use Rattle.orders.specs.declared.Booking.{Booking}
use Rattle.orders.specs.declared.Booking.TheVariants.{Waiting, Aboard}
use Rattle.orders.specs.declared.Journey.{Journey}
use Rattle.orders.specs.declared.Node.{Node}
use Rattle.orders.specs.declared.Stop.{Stop}
use Rattle.orders.specs.Bookings.{In, number_of, stop_kind, remaining, served, insert, Ascending}
use Rattle.orders.specs.Rules.{Rules}
use Rattle.orders.specs.Walks.{Walk, leg, after}
use Rattle.orders.proofs.Basics.{in_right, in_nothing}
use Rattle.orders.proofs.Steps.{above_in, one_booking, after_ascending}
use Rattle.van_slab.specs.declared.Visit.{Visit}
use Rattle.van_slab.specs.Trails.{visit_of}
use Rattle.van_slab.specs.Laws.{Shown}
use Rattle.outcomes.specs.Offers.{second_of}

-- a booking that came is open
pub in_insert : (b : Booking) (bs : List Booking) → In b (insert b bs)
in_insert b [] = inl refl
in_insert b (c ∷ cs) = cond_both (ltb (number_of b) (number_of c)) _ _ (In b) (λ e. inl refl) (λ e. inr (in_insert b cs))

-- another booking stays open as it is
still_open : (d n : ℕ) (c : Booking) (bs : List Booking) → (number_of c ≡ n → ⊥) → In c bs → In c (served d n bs)
still_open d n c [] other i = i
still_open d n c (x ∷ xs) other i = cond_both (eqb (number_of x) n) _ _ (In c) (λ e. here (eqb-true _ _ e) i) (λ e. later i (still_open d n c xs other))
  where
    here : number_of x ≡ n → (c ≡ x) ⊎ In c xs → In c (remaining d x ++ xs)
    here e (inl f) = absurd (other (ap number_of f ∙ e))
    here e (inr j) = in_right c (remaining d x) xs j

    later : (c ≡ x) ⊎ In c xs → (In c xs → In c (served d n xs)) → In c (x ∷ served d n xs)
    later (inl f) more = inl f
    later (inr j) more = inr (more j)

-- a booking that is picked up is aboard
now_aboard : (d : ℕ) (p : Stop) (j : Journey) (bs : List Booking) → Ascending bs → In (Waiting p j) bs → In (Aboard d j) (served d j.number bs)
now_aboard d p j [] a i = i
now_aboard d p j (x ∷ xs) a i =
    cond_both (eqb (number_of x) j.number) _ _ (In (Aboard d j)) (λ e. here (eqb-true _ _ e) i) (λ e. later (eqb-false _ _ e) i (now_aboard d p j xs a.1))
  where
    here : number_of x ≡ j.number → (Waiting p j ≡ x) ⊎ In (Waiting p j) xs → In (Aboard d j) (remaining d x ++ xs)
    here e (inl f) = subst (λ y. In (Aboard d j) (remaining d y ++ xs)) f (inl refl)
    here e (inr k) = let h = above_in (number_of x) (Waiting p j) xs a.0 k in absurd (omega arith)

    later : (number_of x ≡ j.number → ⊥) → (Waiting p j ≡ x) ⊎ In (Waiting p j) xs → (In (Waiting p j) xs → In (Aboard d j) (served d j.number xs)) →
        In (Aboard d j) (x ∷ served d j.number xs)
    later other (inl f) more = absurd (other (sym (ap number_of f)))
    later other (inr k) more = inr (more k)

-- the trail visits a stop of the booking, its pickup for kind 0 and its drop-off for kind 1
abbrev pub Visits : List Node → (number kind : ℕ) → Type 0
Visits t n k = (x : Node) × In x t × (x.booking ≡ n) × (x.kind ≡ k)

also_visits : (x : Node) (t : List Node) (n k : ℕ) → Visits t n k → Visits (x ∷ t) n k
also_visits x t n k v = (v.0, inr v.1, v.2, v.3)

module _ (g : Rules) where
  -- the next stop of every open booking is visited
  pub next_visited : (t : List Node) (w : Walk) (depth : ℕ) → Ascending w.bookings → Shown g w depth t → (c : Booking) → In c w.bookings → Visits t (number_of c) (stop_kind c)
  next_visited [] w depth a s c i = absurd (in_nothing c w.bookings i s)
  next_visited (x ∷ t) w depth a s c i =
      let b = s.0 in
      ⊎_elim
      (λ (e : number_of b ≡ number_of c). (x, inl refl, s.3.booking ∙ e, s.3.kind ∙ ap stop_kind (one_booking b c w.bookings a s.1 i e)))
      (λ (other : number_of b ≡ number_of c → ⊥). also_visits x t _ _
      (next_visited t (after g w b) (depth + 1) (after_ascending g w b a) s.4 c (still_open _ (number_of b) c w.bookings (λ e. other (sym e)) i)))
      (cases_eq (number_of b) (number_of c))

  -- a booking that waits is dropped off too
  pub drop_visited : (t : List Node) (w : Walk) (depth : ℕ) → Ascending w.bookings → Shown g w depth t → (p : Stop) (j : Journey) → In (Waiting p j) w.bookings → Visits t j.number 1
  drop_visited [] w depth a s p j i = absurd (in_nothing (Waiting p j) w.bookings i s)
  drop_visited (x ∷ t) w depth a s p j i =
      let b = s.0 in
      let ascending = after_ascending g w b a in
      let driven : ℕ = w.driven + leg g w b in
      also_visits x t _ _ (⊎_elim
      (λ (e : number_of b ≡ j.number). next_visited t (after g w b) (depth + 1) ascending s.4 (Aboard driven j)
      (subst (λ n. In (Aboard driven j) (served driven n w.bookings)) (sym e) (now_aboard driven p j w.bookings a i)))
      (λ (other : number_of b ≡ j.number → ⊥). drop_visited t (after g w b) (depth + 1) ascending s.4 p j
      (still_open driven (number_of b) (Waiting p j) w.bookings (λ e. other (sym e)) i))
      (cases_eq (number_of b) j.number))

-- the trail visits it at this second
abbrev pub VisitsAt : List Node → (number kind second : ℕ) → Type 0
VisitsAt t n k second = (x : Node) × In x t × (x.booking ≡ n) × (x.kind ≡ k) × (x.second ≡ second)

-- the second that is told of a stop that the trail visits is that of a visit
pub told_second : (n k : ℕ) (t : List Node) (rest : List Visit) → Visits t n k → VisitsAt t n k (second_of n k (map visit_of t ++ rest))
told_second n k [] rest v = absurd v.1
told_second n k (x ∷ t) rest v = by (eqb x.booking n && eqb x.kind k) refl v.1 (told_second n k t rest)
  where
    by : (b : Bool) → eqb x.booking n && eqb x.kind k ≡ b → (v.0 ≡ x) ⊎ In v.0 t → (Visits t n k → VisitsAt t n k (second_of n k (map visit_of t ++ rest))) →
        VisitsAt (x ∷ t) n k (cond b x.second (second_of n k (map visit_of t ++ rest)))
    by true e i more = let p = and_parts (eqb x.booking n) _ e in (x, inl refl, eqb-true _ _ p.0, eqb-true _ _ p.1, refl)
    by false e (inl f) more =
        let p : x.booking ≡ n = ap (λ (y : Node). y.booking) (sym f) ∙ v.2 in
        let q : x.kind ≡ k = ap (λ (y : Node). y.kind) (sym f) ∙ v.3 in
        absurd (both_ways _ e (and_from _ _ (eq-eqb _ _ p) (eq-eqb _ _ q)))
    by false e (inr i) more = let m = more (v.0, i, v.2, v.3) in (m.0, inr m.1, m.2, m.3, m.4)
