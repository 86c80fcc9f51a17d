-- Shows that every accepted call leaves the vans housed: at places that the roads have, with loads that fit together.
use Rattle.std.proofs.Common.{◌≡◌, ℕ, zero, suc, ◌-◌, ◌<◌, true, cond, eqb, ltb, ◌⊎◌, List, [], ◌∷◌, get_or, set, is_some, Some, None, Ok, Option, sym, refl, ap, ◌∙◌, subst, inl, inr, ⊎_elim}
use Rattle.std.specs.List.{AllByRecursion}
use Rattle.std.proofs.lemmas.Bool.{cond_both}
use Rattle.stowage.specs.declared.Load.{Load}
use Rattle.stowage.specs.declared.Promise.{Promise}
use Rattle.stowage.specs.Together.{stowed, Part, none, without, keeping}
use Rattle.stowage.proofs.Together.{any_part}
use Rattle.orders.specs.declared.Booking.{Booking}
use Rattle.orders.specs.declared.Booking.TheVariants.{Waiting, Aboard}
use Rattle.orders.specs.declared.Journey.{Journey}
use Rattle.orders.specs.declared.Stop.{Stop}
use Rattle.orders.specs.Bookings.{served, insert, remove, loads}
use Rattle.orders.specs.Rules.{Rules, Lawful}
use Rattle.growth.specs.Positions.{fit_together}
use Rattle.fleet.specs.declared.state.State.{State}
use Rattle.fleet.specs.declared.state.Van.{Van}
use Rattle.fleet.specs.Slots.{slots, numbered}
use Rattle.fleet.specs.States
use Rattle.fleet.specs.Terms.{Terms}
use Rattle.fleet.specs.Housed.{StopsBelow, HousedVan, Housed}
use Rattle.fleet.proofs.Packed.{compact_slots, served_aboard}
use Rattle.fleet.proofs.Vans.{van_waited}
use Rattle.fleet.proofs.Accepted as accepted
use Rattle.fleet.proofs.Edited.{all_insert, all_remove, all_served}
use Rattle.fleet.proofs.Ranges.{quoted_places}
use Rattle.fleet.proofs.Soundness.{at_index}

-- all loads are a part of themselves
whole : (ls : List Load) → Part ls ls
whole [] = none
whole (l ∷ ls) = keeping (whole ls)

-- with one booking less, what is aboard is a part of what was
fewer_loads : (n : ℕ) (bs : List Booking) → Part (loads (remove n bs)) (loads bs)
fewer_loads n [] = none
fewer_loads n (Waiting p j ∷ bs) = cond_both (eqb j.number n) _ _ (λ l. Part (loads l) (loads bs)) (λ e. whole (loads bs)) (λ e. fewer_loads n bs)
fewer_loads n (Aboard d j ∷ bs) = cond_both (eqb j.number n) _ _ (λ l. Part (loads l) (j.load ∷ loads bs)) (λ e. without (whole (loads bs))) (λ e. keeping (fewer_loads n bs))

-- with one booking more that waits, the same is aboard
same_loads : (p : Stop) (j : Journey) (bs : List Booking) → loads (insert (Waiting p j) bs) ≡ loads bs
same_loads p j [] = refl
same_loads p j (Waiting q k ∷ bs) = cond_both (ltb j.number k.number) _ _ (λ l. loads l ≡ loads bs) (λ e. refl) (λ e. same_loads p j bs)
same_loads p j (Aboard d k ∷ bs) = cond_both (ltb j.number k.number) _ _ (λ l. loads l ≡ k.load ∷ loads bs) (λ e. refl) (λ e. ap (λ l. k.load ∷ l) (same_loads p j bs))

module _ (g : Rules) where
  -- what fits together still does with one booking less
  fits_without : Lawful g → (n : ℕ) (bs : List Booking) → fit_together g bs ≡ true → fit_together g (remove n bs) ≡ true
  fits_without lawful n bs h = any_part g.stow lawful.exchange (fewer_loads n bs) (Some g.empty) h

  -- a van whose bookings stand in their places
  in_places : (place second driven : ℕ) (bs : List Booking) → place < g.places → AllByRecursion (StopsBelow g.places) bs → fit_together g bs ≡ true →
      HousedVan g (record { place = place; second = second; driven = driven; bookings = slots bs })
  in_places place second driven bs p a h = record {
    place = p;
    stops = subst (AllByRecursion (StopsBelow g.places)) (sym (compact_slots bs)) a;
    fits = ap (fit_together g) (compact_slots bs) ∙ h;
  }

  -- another van at an index, or none, that is housed
  pub set_housed : (s : State) → Housed g s → (i : ℕ) (o : Option Van) → ((w : Van) → o ≡ Some w → HousedVan g w) → Housed g (at_index s i o)
  set_housed s h i o its = record { each = λ j w e. ⊎_elim (λ f. its w (sym f ∙ e)) (λ f. h.each j w (sym f ∙ e)) (that_or_old s.vans i j) }
    where
      that_or_old : (os : List (Option Van)) (i j : ℕ) → (get_or (set os i o) j None ≡ o) ⊎ (get_or (set os i o) j None ≡ get_or os j None)
      that_or_old [] i j = inr refl
      that_or_old (x ∷ xs) zero zero = inl refl
      that_or_old (x ∷ xs) zero (suc j) = inr refl
      that_or_old (x ∷ xs) (suc i) zero = inr refl
      that_or_old (x ∷ xs) (suc i) (suc j) = that_or_old xs i j

  -- a van on duty
  van_housed : (s : State) → Housed g s → (i : ℕ) (w : Van) → HousedVan g w → Housed g (at_index s i (Some w))
  van_housed s h i w its = set_housed s h i (Some w) (λ u e. let same : w ≡ u = cc in subst (HousedVan g) same its)

-- the calls on a state whose vans are housed
module _ (g : Rules) (s s' : State) (h : Housed g s) where
  pub clock_housed : (time : ℕ) → States.clock_call s time ≡ Ok s' → Housed g s'
  clock_housed time e =
      let a = accepted.clock_accepted s time s' e in
      subst (Housed g) (sym a.after) (record { each = λ i w f. waits (get_or s.vans i None) (h.each i) w (sym (van_waited time s.vans i) ∙ f) })
    where
      waits : (o : Option Van) → ((w : Van) → o ≡ Some w → HousedVan g w) → (u : Van) → States.waited time o ≡ Some u → HousedVan g u
      waits None k u f = absurd (accepted.none_some f)
      waits (Some w) k u f =
          let its = k w refl in
          let same : record { place = w.place; second = cond (ltb w.second time) time w.second; driven = w.driven; bookings = w.bookings } ≡ u = cc in
          subst (HousedVan g) same (record { place = its.place; stops = its.stops; fits = its.fits })

  pub join_housed : (v place time : ℕ) → States.join_call s g.places v place time ≡ Ok s' → Housed g s'
  join_housed v place time e =
      let a = accepted.join_accepted s g.places v place time s' e in
      subst (Housed g) (sym a.after) (van_housed g s h (v - 1) (States.fresh place time) (in_places g place time 0 [] a.there tt refl))

  pub leave_housed : (v : ℕ) → States.leave_call s v ≡ Ok s' → Housed g s'
  leave_housed v e =
      let a = accepted.leave_accepted s v s' e in
      subst (Housed g) (sym a.after) (set_housed g s h (v - 1) None (λ w f. absurd (accepted.none_some f)))

  pub bound_housed : (v place time : ℕ) → States.bound_call s g.places g.trip v place time ≡ Ok s' → Housed g s'
  bound_housed v place time e =
      let a = accepted.bound_accepted s g.places g.trip v place time s' e in
      let its = h.each (v - 1) a.van a.at in
      subst (Housed g) (sym a.after)
      (van_housed g s h (v - 1) (States.bound_for a.van place time (g.trip a.van.place place)) (record { place = a.there; stops = its.stops; fits = its.fits }))

  pub served_housed : Lawful g → (v n time : ℕ) (x : States.Service) → States.served_call g s v n time ≡ Ok (s', x) → Housed g s'
  served_housed lawful v n time x e =
      let a = accepted.served_accepted g s v n time (s', x) e in
      let its = h.each (v - 1) a.van a.at in
      let bs = States.open_bookings a.van in
      let d = a.van.driven in
      subst (Housed g) (sym a.after)
      (van_housed g s h (v - 1) (States.served_van a.van n time)
      (in_places g a.van.place _ d (served d n bs) its.place (all_served (StopsBelow g.places) d n (λ p j k. k.1) bs its.stops) (aboard d bs a.booking a.booked a.fits its.fits)))
    where
      aboard : (d : ℕ) (bs : List Booking) (b : Booking) → numbered n bs ≡ Some b → States.fits_aboard g b (served d n bs) ≡ true → fit_together g bs ≡ true → fit_together g (served d n bs) ≡ true
      aboard d bs (Waiting p j) k fits before = fits
      aboard d bs (Aboard since j) k fits before = ap (fit_together g) (served_aboard d n since j bs k) ∙ fits_without g lawful n bs before

  pub cancel_housed : Lawful g → (n : ℕ) → States.cancel_call s n ≡ Ok s' → Housed g s'
  cancel_housed lawful n e =
      let a = accepted.cancel_accepted s n s' e in
      let its = h.each a.at a.van a.there in
      let bs = States.open_bookings a.van in
      subst (Housed g) (sym a.after)
      (van_housed g s h a.at (States.relieved n a.van)
      (in_places g a.van.place _ _ (remove n bs) its.place (all_remove (StopsBelow g.places) n bs its.stops) (fits_without g lawful n bs its.fits)))

-- the same when a van takes a booking that was asked for
pub taken_housed : (t : Terms) (s : State) → Housed t.rules s → (n from to : ℕ) (figures : List ℕ) (b : Booking) → States.requested t s n from to figures ≡ Ok b → (v : ℕ) → Housed t.rules (States.taken s v b)
taken_housed t s h n from to figures b e v =
    let a = accepted.request_accepted t s n from to figures b e in
    let q = quoted_places t.rules.places t.rules.trip t.promise from to figures a.promise a.quotes in
    subst (λ x. Housed t.rules (States.taken s v x)) (sym a.its) (by a.promise q.0 q.1 (States.van_at s v) refl)
  where
    by : (p : Promise) → from < t.rules.places → to < t.rules.places → (o : Option Van) → States.van_at s v ≡ o → Housed t.rules (States.taken_by s v (States.promised n from to p) o)
    by p k l None f = h
    by p k l (Some w) f =
        let its = h.each (v - 1) w f in
        let bs = States.open_bookings w in
        cond_both (States.has_room s w) _ _ (Housed t.rules)
        (λ r. van_housed t.rules s h (v - 1) (States.taking w (States.promised n from to p))
        (in_places t.rules w.place _ _ (insert (States.promised n from to p) bs) its.place (all_insert (StopsBelow t.rules.places) (States.promised n from to p) bs (k, l) its.stops)
        (ap (λ ls. is_some (stowed t.rules.stow t.rules.empty ls)) (same_loads _ _ bs) ∙ its.fits)))
        (λ r. h)
