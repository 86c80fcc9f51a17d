-- Vans that change one after the other.
use Rattle.std.proofs.Common.{◌≡◌, Bool, true, false, Err, ℕ, zero, suc, ◌+◌, ◌<◌, ◌≤◌, List, [], ◌∷◌, ◌++◌, map, length, get_or, take, drop, set, Some, None, Ok, Option, sym, refl, ap, ◌∙◌, subst, append-nil, add-one, arith, length-append, length-drop, length-take, drop-cons}
use Rattle.std.proofs.lemmas.List.Edits.{map_over_more}
use Rattle.std.proofs.lemmas.List.{take_all, drop_all, length-map, get_or_default}
use Rattle.orders.specs.declared.Booking.{Booking}
use Rattle.orders.specs.declared.Booking.TheVariants.{Waiting}
use Rattle.orders.specs.declared.Journey.{Journey}
use Rattle.orders.specs.declared.Stop.{Stop}
use Rattle.orders.specs.Bookings.{remove}
use Rattle.growth.specs.Positions.{compact}
use Rattle.fleet.specs.Slots.{slots}
use Rattle.fleet.specs.States.{check, is_van, van_at, on_duty, waited, open_on, holder_of, of_holder, of_van, cancelled_from, cancelled_on, cancel_call, Changes}
use Rattle.fleet.specs.declared.refusal.Refusal.TheVariants.{NoSuchVan}
use Rattle.fleet.specs.declared.state.State.{State}
use Rattle.fleet.specs.declared.state.Van.{Van}

-- the state with these vans
abbrev pub with_vans : State → List (Option Van) → State
with_vans s vans = record { size = s.size; open_limit = s.open_limit; clock = s.clock; vans = vans }

module _ (change : Option Van → Option Van) (vs : List (Option Van)) where
  -- the vans before the i-th are changed
  abbrev pub changed_to : ℕ → List (Option Van)
  changed_to i = map change (take i vs) ++ drop i vs

  pub one_more : (xs : List (Option Van)) (i : ℕ) → i < length vs → xs ≡ changed_to i → set xs i (change (get_or xs i None)) ≡ changed_to (i + 1)
  one_more xs i h e =
      let long : i < length (changed_to i) = simp (length-append, length-map, length-take, length-drop) (omega arith) in
      ap (λ (l : List (Option Van)). set l i (change (get_or l i None))) e
      ∙ map_over_more change vs (changed_to i) i (get_or (changed_to i) i None) h refl (get_or_default (changed_to i) i None _ long)

  pub all_changed : (i : ℕ) → length vs ≤ i → changed_to i ≡ map change vs
  all_changed i h = (λ j. map change (take_all i vs h j) ++ drop_all i vs h j) ∙ append-nil (map change vs)

err_is_err : {X E : Type 0} {f : E} {x : X} → Err f ≡ Ok x → ⊥
err_is_err e = let z : ◌≡◌ {A = ℕ} 0 1 = cc in omega arith

-- the van at an index once every van has waited
pub van_waited : (time : ℕ) (os : List (Option Van)) (i : ℕ) → get_or (map (waited time) os) i None ≡ waited time (get_or os i None)
van_waited time [] i = refl
van_waited time (o ∷ os) zero = refl
van_waited time (o ∷ os) (suc i) = van_waited time os i

-- one turn of looking for the van that holds a booking, from the i-th on, to the answer r
module _ (n : ℕ) (vs : List (Option Van)) (i : ℕ) (r : Option (ℕ × Booking)) (left : holder_of n i (drop i vs) ≡ r) where
  -- what is found at the i-th, or else behind it
  abbrev then_on : Option Booking → Option (ℕ × Booking)
  then_on (Some b) = Some (i, b)
  then_on None = holder_of n (i + 1) (drop (i + 1) vs)

  cut : (l : List (Option Van)) (v : Option Van) → l ≡ v ∷ drop (i + 1) vs → (o : Option Booking) → open_on n v ≡ o → holder_of n i l ≡ then_on o
  cut l v e o f = ap (holder_of n i) e ∙ by (open_on n v) f
    where
      by : (p : Option Booking) → p ≡ o → elim p [ Some b ↦ Some (i, b) | None ↦ holder_of n (i + 1) (drop (i + 1) vs) ] ≡ then_on o
      by (Some b) g = ap then_on g
      by None g = ap then_on g

  pub turn_van : i < length vs → (o : Option Booking) → open_on n (get_or vs i None) ≡ o → then_on o ≡ r
  turn_van h o f =
      let e : drop i vs ≡ get_or vs i None ∷ drop (i + 1) vs = rw (add-one, drop-cons vs i None) in
      sym (cut (drop i vs) (get_or vs i None) e o f) ∙ left

  pub turn_end : length vs ≤ i → None ≡ r
  turn_end h = ap (holder_of n i) (sym (drop_all i vs h)) ∙ left

-- the van with other bookings in its places
abbrev pub with_bookings : Van → List (Option Booking) → Van
with_bookings w held = record { place = w.place; second = w.second; driven = w.driven; bookings = held }

-- the waiting booking of number n is taken off the van that holds it
pub cancel_changes : (s : State) (n i : ℕ) (p : Stop) (j : Journey) (w : Van) (held : List (Option Booking)) →
    holder_of n 0 s.vans ≡ Some (i, Waiting p j) → get_or s.vans i None ≡ Some w → held ≡ slots (remove n (compact w.bookings)) →
    Changes (cancel_call s n) s (with_vans s (set s.vans i (Some (with_bookings w held)))) (Ok tt)
cancel_changes s n i p j w held e f h =
    let after = with_vans s (set s.vans i (Some (with_bookings w held))) in
    let Held : Option (ℕ × Booking) → Type 0 = λ o. Changes (of_holder o (cancelled_from s n)) s after (Ok tt) in
    let On : Option Van → Type 0 = λ o. Changes (of_van o (λ v. Ok (cancelled_on s n i v))) s after (Ok tt) in
    subst Held (sym e) (subst On (sym f) (ap (λ l. with_vans s (set s.vans i (Some (with_bookings w l)))) h, refl))

-- a van that is on duty has a number and stands at its place
pub duty_at : (s : State) (v : ℕ) (w : Van) → on_duty s v ≡ Ok w → (is_van s v ≡ true) × (van_at s v ≡ Some w)
duty_at s v w = numbered (is_van s v)
  where
    there : (o : Option Van) → of_van o (λ w. Ok w) ≡ Ok w → o ≡ Some w
    there None e = absurd (err_is_err e)
    there (Some u) e = let g : u ≡ w = cc in ap Some g

    numbered : (t : Bool) → check t NoSuchVan (of_van (van_at s v) (λ w. Ok w)) ≡ Ok w → (t ≡ true) × (van_at s v ≡ Some w)
    numbered true e = (refl, there (van_at s v) e)
    numbered false e = absurd (err_is_err e)
