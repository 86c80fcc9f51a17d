-- Shows what is known of the state where a call is accepted.
use Rattle.std.proofs.Common.{◌≡◌, ℕ, ◌+◌, ◌<◌, ◌≤◌, Bool, true, false, cond, not, ◌&&◌, eqb, ltb, leb, List, get_or, is_some, Some, None, Ok, Err, Option, Result, sym, refl, ap, ◌∙◌, arith}
use Rattle.std.proofs.lemmas.Bool.{and_parts, leb-true, eqb-true, ltb-true, not-true}
use Rattle.roads.specs.Roads.{between}
use Rattle.stowage.specs.Figures.{week}
use Rattle.stowage.specs.declared.Promise.{Promise}
use Rattle.orders.specs.declared.Booking.{Booking}
use Rattle.orders.specs.declared.Booking.TheVariants.{Waiting, Aboard}
use Rattle.orders.specs.declared.Journey.{Journey}
use Rattle.orders.specs.declared.Stop.{Stop}
use Rattle.orders.specs.Rules.{Rules}
use Rattle.orders.specs.Bookings.{next_stop, served}
use Rattle.fleet.specs.declared.refusal.Refusal.{Refusal}
use Rattle.fleet.specs.declared.state.State.{State}
use Rattle.fleet.specs.declared.state.Van.{Van}
use Rattle.fleet.specs.Terms.{Terms}
use Rattle.fleet.specs.Slots.{numbered}
use Rattle.fleet.specs.Quotes.{quoted}
use Rattle.fleet.specs.States

-- refused is not accepted
pub never : {X : Type 0} {f : Refusal} {x : X} → ◌≡◌ {A = Result X Refusal} (Err f) (Ok x) → ⊥
never e = let z : ◌≡◌ {A = ℕ} 0 1 = cc in omega arith

pub none_some : {X : Type 0} {x : X} → None ≡ Some x → ⊥
none_some e = let z : ◌≡◌ {A = ℕ} 0 1 = cc in omega arith

-- a check that did not refuse has passed
pub passed : {X : Type 0} (t : Bool) (f : Refusal) (on : Result X Refusal) (x : X) → States.check t f on ≡ Ok x → (t ≡ true) × (on ≡ Ok x)
passed true f on x e = (refl, e)
passed false f on x e = absurd (never e)

module _ {X : Type 0} {x : X} where
  pub on_duty : (o : Option Van) (ask : Van → Result X Refusal) → States.of_van o ask ≡ Ok x → (w : Van) × (o ≡ Some w) × (ask w ≡ Ok x)
  on_duty None ask e = absurd (never e)
  on_duty (Some w) ask e = (w, refl, e)

  pub is_open : (o : Option Booking) (ask : Booking → Result X Refusal) → States.of_booking o ask ≡ Ok x → (b : Booking) × (o ≡ Some b) × (ask b ≡ Ok x)
  is_open None ask e = absurd (never e)
  is_open (Some b) ask e = (b, refl, e)

  pub has_leg : (o : Option ℕ) (place : ℕ) (ask : ℕ → Result X Refusal) → States.of_leg o place ask ≡ Ok x → (leg : ℕ) × (o ≡ Some leg) × (ask leg ≡ Ok x)
  has_leg None place ask e = absurd (never e)
  has_leg (Some leg) place ask e = (leg, refl, e)

  pub is_held : (o : Option (ℕ × Booking)) (ask : ℕ → Booking → Result X Refusal) → States.of_holder o ask ≡ Ok x → (h : ℕ × Booking) × (o ≡ Some h) × (ask h.0 h.1 ≡ Ok x)
  is_held None ask e = absurd (never e)
  is_held (Some h) ask e = (h, refl, e)

-- the trip between two places that the roads know
pub known_leg : (places : ℕ) (trip : ℕ → ℕ → ℕ) (a b leg : ℕ) → between places trip a b ≡ Some leg → (a < places) × (b < places) × (leg ≡ trip a b)
known_leg places trip a b leg e = by (ltb a places && ltb b places) refl e
  where
    by : (t : Bool) → ltb a places && ltb b places ≡ t → cond t (Some (trip a b)) None ≡ Some leg → (a < places) × (b < places) × (leg ≡ trip a b)
    by true t f = let p = and_parts (ltb a places) (ltb b places) t in (ltb-true a places p.0, ltb-true b places p.1, let g : trip a b ≡ leg = cc in sym g)
    by false t f = absurd (none_some f)

pub record Clocked (s : State) (time : ℕ) (s' : State) : Type 0 where
  pub week : time ≤ 604800
  pub on : s.clock ≤ time
  pub after : s' ≡ States.clocked s time

pub clock_accepted : (s : State) (time : ℕ) (s' : State) → States.clock_call s time ≡ Ok s' → Clocked s time s'
clock_accepted s time s' e =
    let a = passed (leb time week) _ _ s' e in
    let b = passed (leb s.clock time) _ _ s' a.1 in
    record { week = leb-true time week a.0; on = leb-true s.clock time b.0; after = let g : States.clocked s time ≡ s' = let h = b.1 in cc in sym g }

pub record Joined (s : State) (places v place time : ℕ) (s' : State) : Type 0 where
  pub its : States.is_van s v ≡ true
  pub off : States.van_at s v ≡ None
  pub there : place < places
  pub week : time ≤ 604800
  pub on : s.clock ≤ time
  pub after : s' ≡ States.with_van s v (Some (States.fresh place time))

pub join_accepted : (s : State) (places v place time : ℕ) (s' : State) → States.join_call s places v place time ≡ Ok s' → Joined s places v place time s'
join_accepted s places v place time s' e =
    let a = passed (States.is_van s v) _ _ s' e in
    let b = passed (not (is_some (States.van_at s v))) _ _ s' a.1 in
    let c = passed (ltb place places) _ _ s' b.1 in
    let d = passed (leb time week) _ _ s' c.1 in
    let f = passed (leb s.clock time) _ _ s' d.1 in
    record {
      its = a.0;
      off = nothing (States.van_at s v) (not-true _ b.0);
      there = ltb-true place places c.0;
      week = leb-true time week d.0;
      on = leb-true s.clock time f.0;
      after = let g : States.with_van s v (Some (States.fresh place time)) ≡ s' = let h = f.1 in cc in sym g;
    }
  where
    nothing : (o : Option Van) → is_some o ≡ false → o ≡ None
    nothing None h = refl
    nothing (Some w) h = absurd (let z : ◌≡◌ {A = ℕ} 0 1 = cc in omega arith)

pub record Left (s : State) (v : ℕ) (s' : State) : Type 0 where
  pub van : Van
  pub its : States.is_van s v ≡ true
  pub at : States.van_at s v ≡ Some van
  pub free : is_some (get_or van.bookings 0 None) ≡ false
  pub after : s' ≡ States.with_van s v None

pub leave_accepted : (s : State) (v : ℕ) (s' : State) → States.leave_call s v ≡ Ok s' → Left s v s'
leave_accepted s v s' e =
    let a = passed (States.is_van s v) _ _ s' e in
    let b = on_duty (States.van_at s v) _ a.1 in
    let c = passed (not (is_some (get_or b.0.bookings 0 None))) _ _ s' b.2 in
    record { van = b.0; its = a.0; at = b.1; free = not-true _ c.0; after = let g : States.with_van s v None ≡ s' = let h = c.1 in cc in sym g }

pub record Bound (s : State) (places : ℕ) (trip : ℕ → ℕ → ℕ) (v place time : ℕ) (s' : State) : Type 0 where
  pub van : Van
  pub its : States.is_van s v ≡ true
  pub at : States.van_at s v ≡ Some van
  pub here : van.place < places
  pub there : place < places
  pub week : time ≤ 604800
  pub on : van.second + trip van.place place ≤ time
  pub after : s' ≡ States.with_van s v (Some (States.bound_for van place time (trip van.place place)))

pub bound_accepted : (s : State) (places : ℕ) (trip : ℕ → ℕ → ℕ) (v place time : ℕ) (s' : State) → States.bound_call s places trip v place time ≡ Ok s' → Bound s places trip v place time s'
bound_accepted s places trip v place time s' e =
    let a = passed (States.is_van s v) _ _ s' e in
    let b = on_duty (States.van_at s v) _ a.1 in
    let c = has_leg (between places trip b.0.place place) place _ b.2 in
    let k = known_leg places trip b.0.place place c.0 c.1 in
    let d = passed (leb time week) _ _ s' c.2 in
    let f = passed (leb (b.0.second + c.0) time) _ _ s' d.1 in
    let on = leb-true (b.0.second + c.0) time f.0 in
    let same = k.2 in
    let g : States.with_van s v (Some (States.bound_for b.0 place time c.0)) ≡ s' = let h = f.1 in cc in
    record {
      van = b.0;
      its = a.0;
      at = b.1;
      here = k.0;
      there = k.1;
      week = leb-true time week d.0;
      on = omega arith;
      after = sym g ∙ ap (λ leg. States.with_van s v (Some (States.bound_for b.0 place time leg))) same;
    }

pub record Served (g : Rules) (s : State) (v n time : ℕ) (q : State × States.Service) : Type 0 where
  pub van : Van
  pub booking : Booking
  pub its : States.is_van s v ≡ true
  pub at : States.van_at s v ≡ Some van
  pub booked : numbered n (States.open_bookings van) ≡ Some booking
  pub there : van.place ≡ (next_stop booking).place
  pub week : time ≤ 604800
  pub on : van.second ≤ time
  pub opened : (next_stop booking).window.opens ≤ time
  pub fits : States.fits_aboard g booking (served van.driven n (States.open_bookings van)) ≡ true
  pub after : q.0 ≡ States.with_van s v (Some (States.served_van van n time))
  pub told : q.1 ≡ States.service_of van booking time

pub served_accepted : (g : Rules) (s : State) (v n time : ℕ) (q : State × States.Service) → States.served_call g s v n time ≡ Ok q → Served g s v n time q
served_accepted g s v n time q e =
    let a = passed (States.is_van s v) _ _ q e in
    let b = on_duty (States.van_at s v) _ a.1 in
    let c = is_open (numbered n (States.open_bookings b.0)) _ b.2 in
    let d = passed (eqb b.0.place (next_stop c.0).place) _ _ q c.2 in
    let f = passed (leb time week) _ _ q d.1 in
    let h = passed (leb b.0.second time && leb (next_stop c.0).window.opens time) _ _ q f.1 in
    let i = passed (States.fits_aboard g c.0 (served b.0.driven n (States.open_bookings b.0))) _ _ q h.1 in
    let due = and_parts (leb b.0.second time) (leb (next_stop c.0).window.opens time) h.0 in
    let same : (States.with_van s v (Some (States.served_van b.0 n time)), States.service_of b.0 c.0 time) ≡ q = let l = i.1 in cc in
    record {
      van = b.0;
      booking = c.0;
      its = a.0;
      at = b.1;
      booked = c.1;
      there = eqb-true _ _ d.0;
      week = leb-true time week f.0;
      on = leb-true _ _ due.0;
      opened = leb-true _ _ due.1;
      fits = i.0;
      after = sym (ap (λ (p : State × States.Service). p.0) same);
      told = sym (ap (λ (p : State × States.Service). p.1) same);
    }

pub record Cancelled (s : State) (n : ℕ) (s' : State) : Type 0 where
  pub at : ℕ
  pub van : Van
  pub pickup : Stop
  pub journey : Journey
  pub held : States.holder_of n 0 s.vans ≡ Some (at, Waiting pickup journey)
  pub there : get_or s.vans at None ≡ Some van
  pub after : s' ≡ States.cancelled_on s n at van

pub cancel_accepted : (s : State) (n : ℕ) (s' : State) → States.cancel_call s n ≡ Ok s' → Cancelled s n s'
cancel_accepted s n s' e =
    let a = is_held (States.holder_of n 0 s.vans) (States.cancelled_from s n) e in
    by a.0.0 a.0.1 a.1 a.2
  where
    by : (i : ℕ) (b : Booking) → States.holder_of n 0 s.vans ≡ Some (i, b) → States.cancelled_from s n i b ≡ Ok s' → Cancelled s n s'
    by i (Waiting pickup journey) h f =
        let d = on_duty (get_or s.vans i None) (λ w. Ok (States.cancelled_on s n i w)) f in
        record { at = i; van = d.0; pickup = pickup; journey = journey; held = h; there = d.1; after = let g : States.cancelled_on s n i d.0 ≡ s' = let l = d.2 in cc in sym g }
    by i (Aboard since journey) h f = absurd (never f)

pub record Requested (t : Terms) (s : State) (n from to : ℕ) (figures : List ℕ) (b : Booking) : Type 0 where
  pub promise : Promise
  pub new : States.holder_of n 0 s.vans ≡ None
  pub quotes : quoted t.rules.places t.rules.trip t.promise from to figures ≡ Ok promise
  pub some : 1 ≤ n
  pub most : n ≤ 65535
  pub its : b ≡ States.promised n from to promise

pub request_accepted : (t : Terms) (s : State) (n from to : ℕ) (figures : List ℕ) (b : Booking) → States.requested t s n from to figures ≡ Ok b → Requested t s n from to figures b
request_accepted t s n from to figures b e =
    let a = passed (leb 1 n && leb n 65535) _ _ b e in
    let c = passed (not (is_some (States.holder_of n 0 s.vans))) _ _ b a.1 in
    let p = and_parts (leb 1 n) (leb n 65535) a.0 in
    by (quoted t.rules.places t.rules.trip t.promise from to figures) refl c.1 (nothing (States.holder_of n 0 s.vans) (not-true _ c.0)) (leb-true 1 n p.0) (leb-true n 65535 p.1)
  where
    nothing : {X : Type 0} (o : Option X) → is_some o ≡ false → o ≡ None
    nothing None h = refl
    nothing (Some w) h = absurd (let z : ◌≡◌ {A = ℕ} 0 1 = cc in omega arith)

    by : (q : Result Promise Refusal) → quoted t.rules.places t.rules.trip t.promise from to figures ≡ q → States.if_promised n from to q ≡ Ok b → States.holder_of n 0 s.vans ≡ None → 1 ≤ n → n ≤ 65535 → Requested t s n from to figures b
    by (Ok p) h f new some most = record { promise = p; new = new; quotes = h; some = some; most = most; its = let g : States.promised n from to p ≡ b = cc in sym g }
    by (Err x) h f new some most = absurd (never f)
