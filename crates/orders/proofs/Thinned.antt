-- Shows that a walk that leaves bookings out keeps up with the walk that has them.
use Rattle.std.proofs.Common.{◌≡◌, ℕ, ◌+◌, ◌<◌, ◌≤◌, max, Bool, true, false, cond, eqb, ◌⊎◌, List, [], ◌∷◌, ◌++◌, Some, sym, refl, ap, ◌∙◌, subst, inl, inr, ⊎_elim, arith}
use Rattle.std.proofs.lemmas.Bool.{cond_both, both_ways, eqb-true, leb-true, le-leb}
use Rattle.stowage.specs.Together.{Part, none as no_loads, without as one_less, keeping}
use Rattle.stowage.proofs.Together.{any_part}
use Rattle.orders.specs.declared.Stop.{Stop}
use Rattle.orders.specs.declared.Journey.{Journey}
use Rattle.orders.specs.declared.Booking.{Booking}
use Rattle.orders.specs.declared.Booking.TheVariants.{Waiting, Aboard}
use Rattle.orders.specs.Rules.{Rules, Lawful}
use Rattle.orders.specs.Bookings.{In, number_of, next_stop, remaining, served, loads}
use Rattle.orders.specs.Walks.{Walk, departs, service, after, Allowed, Valid}
use Rattle.orders.specs.Listings.{leave_out}
use Rattle.orders.proofs.Basics.{cond_two}
use Rattle.orders.proofs.Steps.{departs_later, departs_in_turn}

-- the same booking, but for what had been driven at its pickup: there R holds
pub data Kept (R : ℕ → ℕ → Type 0) : Booking → Booking → Type 0 where
  waits : {pickup : Stop} {j : Journey} → Kept R (Waiting pickup j) (Waiting pickup j)
  rides : {since since' : ℕ} {j : Journey} → R since since' → Kept R (Aboard since j) (Aboard since' j)

-- the second list is the first without the bookings that are gone
pub data Thin (gone : ℕ → Bool) (R : ℕ → ℕ → Type 0) : List Booking → List Booking → Type 0 where
  none : Thin gone R [] []
  skip : {b : Booking} {bs cs : List Booking} → gone (number_of b) ≡ true → Thin gone R bs cs → Thin gone R (b ∷ bs) cs
  keep : {b c : Booking} {bs cs : List Booking} → gone (number_of b) ≡ false → Kept R b c → Thin gone R bs cs →
      Thin gone R (b ∷ bs) (c ∷ cs)

pub kept_number : {R : ℕ → ℕ → Type 0} {b c : Booking} → Kept R b c → number_of b ≡ number_of c
kept_number waits = refl
kept_number (rides r) = refl

kept_map : {R R' : ℕ → ℕ → Type 0} → ((a a' : ℕ) → R a a' → R' a a') → {b c : Booking} → Kept R b c → Kept R' b c
kept_map up waits = waits
kept_map up (rides r) = rides (up _ _ r)

module _ {gone : ℕ → Bool} where
  -- the loads aboard are some of those aboard with the bookings that are gone
  thin_loads : {R : ℕ → ℕ → Type 0} {bs cs : List Booking} → Thin gone R bs cs → Part (loads cs) (loads bs)
  thin_loads none = no_loads
  thin_loads (skip {b = Waiting pickup j} x t) = thin_loads t
  thin_loads (skip {b = Aboard since j} x t) = one_less (thin_loads t)
  thin_loads (keep x waits t) = thin_loads t
  thin_loads (keep x (rides r) t) = keeping (thin_loads t)

  thin_nothing : {R : ℕ → ℕ → Type 0} {cs : List Booking} → Thin gone R [] cs → cs ≡ []
  thin_nothing none = refl

  -- a booking of the first list is gone, or kept in the second
  pub gone_or_kept : {R : ℕ → ℕ → Type 0} {b : Booking} {bs cs : List Booking} → Thin gone R bs cs → In b bs →
      (gone (number_of b) ≡ true) ⊎ ((c : Booking) × (gone (number_of b) ≡ false) × In c cs × Kept R b c)
  gone_or_kept none i = absurd i
  gone_or_kept (skip x t) (inl e) = inl (ap (λ y. gone (number_of y)) e ∙ x)
  gone_or_kept (skip x t) (inr i) = gone_or_kept t i
  gone_or_kept {R} (keep {c = c} x k t) (inl e) = inr (c, ap (λ y. gone (number_of y)) e ∙ x, inl refl, subst (λ y. Kept R y c) (sym e) k)
  gone_or_kept (keep x k t) (inr i) = ⊎_elim (λ y. inl y) (λ y. inr (y.0, y.1, inr y.2, y.3)) (gone_or_kept t i)

  module _ {R R' : ℕ → ℕ → Type 0} (up : (a a' : ℕ) → R a a' → R' a a') where
    thin_map : {bs cs : List Booking} → Thin gone R bs cs → Thin gone R' bs cs
    thin_map none = none
    thin_map (skip x t) = skip x (thin_map t)
    thin_map (keep x k t) = keep x (kept_map up k) (thin_map t)

    -- both serve the stop of number n, which is kept
    pub thin_both : {bs cs : List Booking} (n d d' : ℕ) → gone n ≡ false → R' d d' → Thin gone R bs cs →
        Thin gone R' (served d n bs) (served d' n cs)
    thin_both n d d' x r none = none
    thin_both n d d' x r (skip {b = b} {bs = bs} {cs = cs} y t) =
        cond_both (eqb (number_of b) n) _ _ (λ l. Thin gone R' l (served d' n cs))
        (λ e. absurd (both_ways (gone n) x (ap gone (sym (eqb-true _ _ e)) ∙ y)))
        (λ e. skip y (thin_both n d d' x r t))
    thin_both n d d' x r (keep {b = Waiting pickup j} y waits t) =
        cond_two (eqb j.number n) _ _ _ _ (Thin gone R') (λ e. keep y (rides r) (thin_map t)) (λ e. keep y waits (thin_both n d d' x r t))
    thin_both n d d' x r (keep y (rides {j = j} q) t) =
        cond_two (eqb j.number n) _ _ _ _ (Thin gone R') (λ e. thin_map t) (λ e. keep y (rides (up _ _ q)) (thin_both n d d' x r t))

    -- the first alone serves the stop of number n, which is gone
    thin_first : {bs cs : List Booking} (n d : ℕ) → gone n ≡ true → Thin gone R bs cs → Thin gone R' (served d n bs) cs
    thin_first n d x none = none
    thin_first n d x (skip {b = b} {bs = bs} {cs = cs} y t) =
        cond_both (eqb (number_of b) n) _ _ (λ l. Thin gone R' l cs) (λ e. rest b y) (λ e. skip y (thin_first n d x t))
      where
        rest : (b' : Booking) → gone (number_of b') ≡ true → Thin gone R' (remaining d b' ++ bs) cs
        rest (Waiting pickup j) z = skip z (thin_map t)
        rest (Aboard since j) z = thin_map t
    thin_first n d x (keep {b = b} {c = c} {cs = cs} y k t) =
        cond_both (eqb (number_of b) n) _ _ (λ l. Thin gone R' l (c ∷ cs))
        (λ e. absurd (both_ways (gone n) (ap gone (sym (eqb-true _ _ e)) ∙ y) x))
        (λ e. keep y (kept_map up k) (thin_first n d x t))

module _ (g : Rules) where
  -- of a booking aboard in both walks: its ride to any place is no longer in u than in w
  abbrev pub Ride : Walk → Walk → ℕ → ℕ → Type 0
  Ride w u since since' = (p : ℕ) → p < g.places → (u.driven + g.trip u.place p) + since ≤ (w.driven + g.trip w.place p) + since'

  -- u is w without the bookings that are gone; it is at any place no later, and has cost no more there, but for what is extra
  pub record Ahead (gone : ℕ → Bool) (extra : ℕ) (w u : Walk) : Type 0 where
    pub placed : w.place < g.places → u.place < g.places
    pub sooner : (p : ℕ) → p < g.places → u.second + g.trip u.place p ≤ w.second + g.trip w.place p
    pub cheaper : (p : ℕ) → p < g.places → u.cost + g.trip u.place p ≤ (w.cost + extra) + g.trip w.place p
    pub cheap : u.cost ≤ w.cost + extra
    pub thin : Thin gone (Ride w u) w.bookings u.bookings

  -- the walk w once it has served the stop s of the booking of number n
  abbrev arrival : Walk → Stop → ℕ
  arrival w s = max (w.second + g.trip w.place s.place) s.window.opens

  abbrev at_stop : Walk → Stop → ℕ → Walk
  at_stop w s n = record {
    place = s.place;
    second = departs (arrival w s);
    driven = w.driven + g.trip w.place s.place;
    cost = w.cost + g.trip w.place s.place;
    bookings = served (w.driven + g.trip w.place s.place) n w.bookings;
  }

module _ (g : Rules) (gone : ℕ → Bool) (extra : ℕ) (lawful : Lawful g) where
  -- both walks come to one stop, of the number n, which is kept
  ahead_stop : {w u : Walk} (s : Stop) (n : ℕ) → Ahead g gone extra w u → s.place < g.places → gone n ≡ false →
      Ahead g gone extra (at_stop g w s n) (at_stop g u s n)
  ahead_stop {w} {u} s n a known x =
      let sooner = a.sooner s.place known in
      let cheaper = a.cheaper s.place known in
      let leaves = departs_in_turn (arrival g u s) (arrival g w s) (omega arith) in
      record {
        placed = λ h. h;
        sooner = λ p h. omega arith;
        cheaper = λ p h. omega arith;
        cheap = omega arith;
        thin = thin_both (λ q q' r p h. let ride = r s.place known in omega arith) n _ _ x (λ p h. omega arith) a.thin;
      }

  -- both walks serve the stop of a booking that is kept
  pub ahead_both : {w u : Walk} {b c : Booking} → Ahead g gone extra w u → Kept (Ride g w u) b c → gone (number_of b) ≡ false →
      Allowed g w b → Ahead g gone extra (after g w b) (after g u c)
  ahead_both {w} {u} a (waits {pickup = pickup} {j = j}) x al = ahead_stop {w = w} {u = u} pickup j.number a al.there x
  ahead_both {w} {u} a (rides {j = j} r) x al = ahead_stop {w = w} {u = u} j.dropoff j.number a al.there x

  -- the walk w alone serves the stop of a booking that is gone
  pub ahead_first : {w u : Walk} (b : Booking) → Ahead g gone extra w u → gone (number_of b) ≡ true → Allowed g w b →
      Ahead g gone extra (after g w b) u
  ahead_first {w} {u} b a x al =
      let round : (p : ℕ) → p < g.places → g.trip w.place p ≤ g.trip w.place (next_stop b).place + g.trip (next_stop b).place p
      = λ p h. lawful.roads.direct w.place (next_stop b).place p al.here al.there h in
      record {
        placed = λ h. a.placed al.here;
        sooner = λ p h. let s = a.sooner p h in let k = round p h in let l = departs_later (service g w b) in omega arith;
        cheaper = λ p h. let s = a.cheaper p h in let k = round p h in omega arith;
        cheap = let s = a.cheap in omega arith;
        thin = thin_first (λ q q' r p h. let s = r p h in let k = round p h in omega arith) (number_of b) _ x a.thin;
      }

  -- a stop that w may serve next, u may
  pub allowed_both : {w u : Walk} {b c : Booking} → Ahead g gone extra w u → Kept (Ride g w u) b c → gone (number_of b) ≡ false →
      Allowed g w b → Allowed g u c
  allowed_both {w} {u} a (waits {pickup = pickup} {j = j}) x al = record {
    here = a.placed al.here;
    there = al.there;
    timely = let h = a.sooner pickup.place al.there in let k = al.timely in omega arith;
    limits = any_part g.stow lawful.exchange (thin_loads (ahead_stop {w = w} {u = u} pickup j.number a al.there x).thin) (Some g.empty) al.limits;
  }
  allowed_both {w} {u} a (rides {j = j} r) x al = record {
    here = a.placed al.here;
    there = al.there;
    timely = let h = a.sooner j.dropoff.place al.there in let k = al.timely in omega arith;
    limits = let h = r j.dropoff.place al.there in let k = leb-true _ _ al.limits in le-leb _ _ (omega arith);
  }

  -- an order valid with the bookings that are gone is valid when they are left out, and costs no more, but for what is extra
  pub thinned : (o : List ℕ) (cost : ℕ) {w u : Walk} → Ahead g gone extra w u → Valid g w o cost →
      (less : ℕ) × (less ≤ cost + extra) × Valid g u (leave_out gone o) less
  thinned [] cost {w} {u} a v = (
    u.cost,
    let h = a.cheap in let e = v.1 in omega arith,
    (thin_nothing (subst (λ l. Thin gone (Ride g w u) l u.bookings) v.0 a.thin), refl),
  )
  thinned (n ∷ o) cost {w} {u} a v = ⊎_elim
      (λ (x : gone (number_of v.0) ≡ true).
      subst Rest (sym (ap gone (sym v.2) ∙ x)) (thinned o cost (ahead_first {w = w} {u = u} v.0 a x v.3) v.4))
      (λ (y : (c : Booking) × (gone (number_of v.0) ≡ false) × In c u.bookings × Kept (Ride g w u) v.0 c).
      let t = thinned o cost (ahead_both {w = w} {u = u} a y.3 y.1 v.3) v.4 in
      subst Rest (sym (ap gone (sym v.2) ∙ y.1))
      (t.0, t.1, (y.0, y.2, sym (kept_number y.3) ∙ v.2, allowed_both {w = w} {u = u} a y.3 y.1 v.3, t.2)))
      (gone_or_kept a.thin v.1)
    where
      Rest : Bool → Type 0
      Rest t = (less : ℕ) × (less ≤ cost + extra) × Valid g u (cond t (leave_out gone o) (n ∷ leave_out gone o)) less
