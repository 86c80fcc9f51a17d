-- Shows that each move leaves a walk behind the one from before it.
use Rattle.std.proofs.Common.{◌≡◌, ℕ, ◌+◌, ◌<◌, ◌≤◌, max, Bool, false, ltb, List, [], ◌∷◌, sym, refl, ap, ◌∙◌, subst, inl, inr, arith}
use Rattle.std.proofs.lemmas.Bool.{cond_both, eq-eqb, ne_eqb}
use Rattle.orders.specs.declared.Booking.{Booking}
use Rattle.orders.specs.declared.Booking.TheVariants.{Waiting, Aboard}
use Rattle.orders.specs.Rules.{Rules, Lawful}
use Rattle.orders.specs.Bookings.{In, number_of, next_stop, served, insert, New}
use Rattle.orders.specs.Walks.{Walk, departs, leg, service, after}
use Rattle.orders.specs.Moves.{with_booking, at_time, bound_to, served_at}
use Rattle.orders.specs.Growth.{only, nobody}
use Rattle.orders.specs.Listings.{leave_out}
use Rattle.orders.specs.Laws.{Serves}
use Rattle.orders.proofs.Steps.{departs_in_turn}
use Rattle.orders.proofs.Thinned.{Kept, waits, rides, Thin, none, skip, keep, thin_both, Ahead}

module _ {R : ℕ → ℕ → Type 0} (r : (a : ℕ) → R a a) where
  kept_same : (b : Booking) → Kept R b b
  kept_same (Waiting pickup j) = waits
  kept_same (Aboard since j) = rides (r since)

  thin_same : (gone : ℕ → Bool) (bs : List Booking) → ((c : Booking) → In c bs → gone (number_of c) ≡ false) → Thin gone R bs bs
  thin_same gone [] h = none
  thin_same gone (b ∷ bs) h = keep (h b (inl refl)) (kept_same b) (thin_same gone bs (λ c i. h c (inr i)))

  thin_insert : (b : Booking) (bs : List Booking) → New b bs → Thin (only (number_of b)) R (insert b bs) bs
  thin_insert b [] h = skip (eq-eqb (number_of b) (number_of b) refl) none
  thin_insert b (c ∷ cs) h =
      cond_both (ltb (number_of b) (number_of c)) _ _ (λ l. Thin (only (number_of b)) R l (c ∷ cs))
      (λ e. skip (eq-eqb (number_of b) (number_of b) refl) (thin_same (only (number_of b)) (c ∷ cs) (λ x i. ne_eqb _ _ (λ z. h x i (sym z)))))
      (λ e. keep (ne_eqb _ _ (λ z. h c (inl refl) (sym z))) (kept_same c) (thin_insert b cs (λ x i. h x (inr i))))

pub leave_out_nobody : (o : List ℕ) → leave_out nobody o ≡ o
leave_out_nobody [] = refl
leave_out_nobody (n ∷ o) = ap (λ l. n ∷ l) (leave_out_nobody o)

module _ (g : Rules) where
  pub ahead_booked : (w : Walk) (b : Booking) → New b w.bookings → Ahead g (only (number_of b)) 0 (with_booking w b) w
  ahead_booked w b h = record {
    placed = λ p. p;
    sooner = λ p k. omega arith;
    cheaper = λ p k. omega arith;
    cheap = omega arith;
    thin = thin_insert (λ a p k. omega arith) b w.bookings h;
  }

  pub ahead_clock : (w : Walk) (second : ℕ) → w.second ≤ second → Ahead g nobody 0 (at_time w second) w
  ahead_clock w second h = record {
    placed = λ p. p;
    sooner = λ p k. omega arith;
    cheaper = λ p k. omega arith;
    cheap = omega arith;
    thin = thin_same (λ a p k. omega arith) nobody w.bookings (λ c i. refl);
  }

  module _ (lawful : Lawful g) where
    pub ahead_bound : (w : Walk) (place second : ℕ) → w.place < g.places → place < g.places →
        w.second + g.trip w.place place ≤ second → Ahead g nobody (g.trip w.place place) (bound_to g w place second) w
    ahead_bound w place second here there h =
        let round : (q : ℕ) → q < g.places → g.trip w.place q ≤ g.trip w.place place + g.trip place q = λ q k. lawful.roads.direct w.place place q here there k in
        record {
          placed = λ k. here;
          sooner = λ q k. let r = round q k in omega arith;
          cheaper = λ q k. let r = round q k in omega arith;
          cheap = omega arith;
          thin = thin_same (λ a q k. let r = round q k in omega arith) nobody w.bookings (λ c i. refl);
        }

    module _ (w : Walk) (b : Booking) (second : ℕ) (s : Serves g w b second) where
      pub no_leg : leg g w b ≡ 0
      no_leg = ap (g.trip w.place) (sym s.there) ∙ lawful.roads.here w.place s.here

      pub stop_known : (next_stop b).place < g.places
      stop_known = subst (λ p. p < g.places) s.there s.here

      same_trips : (p : ℕ) → g.trip w.place p ≡ g.trip (next_stop b).place p
      same_trips p = ap (λ q. g.trip q p) s.there

      -- an order would have served the stop no later
      pub ahead_served : Ahead g nobody 0 (served_at w b second) (after g w b)
      ahead_served =
          let k = no_leg in
          let t = s.time in
          let o = s.opened in
          let l = departs_in_turn (service g w b) second (omega arith) in
          record {
            placed = λ h. stop_known;
            sooner = λ p h. let e = same_trips p in omega arith;
            cheaper = λ p h. let e = same_trips p in omega arith;
            cheap = omega arith;
            thin = thin_both {R = λ a a'. a ≡ a'} (λ a a' z p h. let e = same_trips p in omega arith) (number_of b) _ _ refl
                (λ p h. let e = same_trips p in omega arith)
                (thin_same (λ a. refl) nobody w.bookings (λ c i. refl));
          }

      -- from this second on it is served at it, there
      pub after_served : after g (at_time w second) b ≡ served_at w b second
      after_served =
          let k = no_leg in
          let t : max (second + leg g w b) (next_stop b).window.opens ≡ second = (let o = s.opened in omega arith) in
          let d : w.driven + leg g w b ≡ w.driven = omega arith in
          let c : w.cost + leg g w b ≡ w.cost = omega arith in
          λ i. record { place = sym s.there i; second = departs (t i); driven = d i; cost = c i; bookings = served (d i) (number_of b) w.bookings }
