-- Shows what the test of a sound state tells, and that every accepted call leaves a sound state.
use Rattle.std.proofs.Common.{◌≡◌, ℕ, zero, suc, ◌+◌, ◌-◌, ◌<◌, ◌≤◌, Bool, true, false, cond, eqb, ltb, leb, ◌⊎◌, List, [], ◌∷◌, ◌++◌, map, length, get_or, drop, set, replicate, Some, None, Ok, Option, sym, refl, ap, ◌∙◌, subst, inl, inr, ⊎_elim, arith}
use Rattle.std.specs.List.{AllByRecursion}
use Rattle.std.proofs.ByRecursion.{All-map, All-weaker}
use Rattle.std.proofs.lemmas.List.{length-set, length-map, length-append, length-replicate, nil_from_length, get_or-set_same, get_or-set_other, drop-set-lt, drop-map}
use Rattle.std.proofs.lemmas.Bool.{and_parts, and_from, leb-true, le-leb, eqb-true, eq-eqb, ltb-true, ltb-false, lt-ltb, cond_both, cases_eq, cases_lt}
use Rattle.stowage.specs.Figures.{week}
use Rattle.orders.specs.declared.Booking.{Booking}
use Rattle.orders.specs.declared.Booking.TheVariants.{Waiting, Aboard}
use Rattle.orders.specs.Bookings.{In, number_of, remaining, served, insert, remove, Above, Ascending, New}
use Rattle.orders.specs.Rules.{Rules}
use Rattle.orders.proofs.Basics.{in_map, of_map}
use Rattle.orders.proofs.Inserted.{insert_ascending, insert_length, remove_ascending}
use Rattle.orders.proofs.Steps.{served_ascending, departs_at_once}
use Rattle.growth.specs.Positions.{compact}
use Rattle.fleet.specs.declared.state.State.{State}
use Rattle.fleet.specs.declared.state.Van.{Van}
use Rattle.fleet.specs.Slots.{slots, numbered}
use Rattle.fleet.specs.States
use Rattle.fleet.specs.Sound as plain
use Rattle.fleet.specs.SoundTest.{is_sound_booking, is_sound_bookings, is_packed, is_above, is_ascending, is_sound_slots, is_sound_van, is_sound_place, all_sound, all_off, numbers_on, is_once, is_sound}
use Rattle.fleet.proofs.Packed.{compact_slots}
use Rattle.fleet.proofs.Vans.{van_waited}
use Rattle.fleet.proofs.Accepted as accepted
use Rattle.fleet.proofs.Edited.{all_in, all_from_in, all_insert, all_remove, all_served}
use Rattle.fleet.proofs.Ranges.{SoundBooking, booking_of, bookings_of, bookings_test, driven_on, picked_up}
use Rattle.fleet.proofs.Once.{Once, once_of, once_test, ascending_once}

-- the places of bookings: four, those taken in front, ascending, within the limit
pub record SoundSlots (limit : ℕ) (held : List (Option Booking)) : Type 0 where
  pub four : length held ≡ 4
  pub packed : held ≡ slots (compact held)
  pub ascending : Ascending (compact held)
  pub few : length (compact held) ≤ limit

-- a van: its place, its time and what it has driven in range, and its bookings in range and in their places
pub record SoundVan (clock limit : ℕ) (w : Van) : Type 0 where
  pub place : w.place < 64
  pub time : clock ≤ w.second
  pub week : w.second ≤ 604800
  pub driven : w.driven ≤ w.second
  pub bookings : AllByRecursion (SoundBooking w.driven) (States.open_bookings w)
  pub its : SoundSlots limit w.bookings

-- what the test of a state tells
pub record Sound (s : State) : Type 0 where
  pub one : 1 ≤ s.size
  pub most : s.size ≤ 32
  pub some : 1 ≤ s.open_limit
  pub four : s.open_limit ≤ 4
  pub week : s.clock ≤ 604800
  pub long : length s.vans ≡ 32
  pub each : (i : ℕ) → is_sound_place s.clock s.open_limit (get_or s.vans i None) ≡ true
  pub off : all_off (drop s.size s.vans) ≡ true
  pub once : Once s.vans

above_of : (n : ℕ) (bs : List Booking) → is_above n bs ≡ true → Above n bs
above_of n [] h = tt
above_of n (b ∷ bs) h = let p = and_parts (ltb n (number_of b)) (is_above n bs) h in (ltb-true n (number_of b) p.0, above_of n bs p.1)

above_test : (n : ℕ) (bs : List Booking) → Above n bs → is_above n bs ≡ true
above_test n [] a = refl
above_test n (b ∷ bs) a = and_from _ _ (lt-ltb n (number_of b) a.0) (above_test n bs a.1)

ascending_of : (bs : List Booking) → is_ascending bs ≡ true → Ascending bs
ascending_of [] h = tt
ascending_of (b ∷ bs) h = let p = and_parts (is_above (number_of b) bs) (is_ascending bs) h in (above_of (number_of b) bs p.0, ascending_of bs p.1)

ascending_test : (bs : List Booking) → Ascending bs → is_ascending bs ≡ true
ascending_test [] a = refl
ascending_test (b ∷ bs) a = and_from _ _ (above_test (number_of b) bs a.0) (ascending_test bs a.1)

-- places that no booking takes
unused : (os : List (Option Booking)) → length (compact os) ≡ 0 → os ≡ replicate (length os) None
unused [] h = refl
unused (None ∷ os) h = ap (λ l. None ∷ l) (unused os h)
unused (Some b ∷ os) h = absurd (omega arith)

few_taken : (os : List (Option Booking)) → length (compact os) ≤ length os
few_taken [] = omega arith
few_taken (None ∷ os) = let h = few_taken os in omega arith
few_taken (Some b ∷ os) = let h = few_taken os in omega arith

packed_of : (os : List (Option Booking)) → is_packed os ≡ true → os ≡ map Some (compact os) ++ replicate (length os - length (compact os)) None
packed_of [] h = refl
packed_of (None ∷ os) h =
    let z = eqb-true (length (compact os)) 0 h in
    let e : length (None ∷ os) - length (compact os) ≡ suc (length os) = omega arith in
    let l = nil_from_length (compact os) z in
    ap (λ l. None ∷ l) (unused os z) ∙ (λ i. map Some (sym l i) ++ replicate (sym e i) None)
packed_of (Some b ∷ os) h =
    let e : length os - length (compact os) ≡ length (Some b ∷ os) - length (b ∷ compact os) = omega arith in
    ap (λ l. Some b ∷ l) (packed_of os h ∙ ap (λ n. map Some (compact os) ++ replicate n None) e)

none_packed : (k : ℕ) → is_packed (replicate k None) ≡ true
none_packed zero = refl
none_packed (suc k) = eq-eqb _ 0 (none_taken k)
  where
    none_taken : (j : ℕ) → length (compact (replicate j None)) ≡ 0
    none_taken zero = refl
    none_taken (suc j) = none_taken j

packed_test : (bs : List Booking) (k : ℕ) → is_packed (map Some bs ++ replicate k None) ≡ true
packed_test [] k = none_packed k
packed_test (b ∷ bs) k = packed_test bs k

pub slots_of : (limit : ℕ) (held : List (Option Booking)) → is_sound_slots limit held ≡ true → SoundSlots limit held
slots_of limit held h =
    let p = and_parts (eqb (length held) 4) _ h in
    let q = and_parts (is_packed held) _ p.1 in
    let r = and_parts (is_ascending (compact held)) _ q.1 in
    let four = eqb-true (length held) 4 p.0 in
    record {
      four = four;
      packed = packed_of held q.0 ∙ ap (λ n. map Some (compact held) ++ replicate (n - length (compact held)) None) four;
      ascending = ascending_of (compact held) r.0;
      few = leb-true _ _ r.1;
    }

abbrev unused_place : Option Booking
unused_place = None

-- bookings that ascend, and keep an open limit of at most four, stand soundly in their places
pub slots_sound : (limit : ℕ) (bs : List Booking) → limit ≤ 4 → length bs ≤ limit → Ascending bs → SoundSlots limit (slots bs)
slots_sound limit bs l h a =
    let e = compact_slots bs in
    let m = length-append (map Some bs) (replicate (4 - length bs) None) in
    let n = length-map bs (λ (b : Booking). Some b) in
    let o = length-replicate (4 - length bs) unused_place in
    record { four = omega arith; packed = ap slots (sym e); ascending = subst Ascending (sym e) a; few = subst (λ c. length c ≤ limit) (sym e) h }

-- places that stand soundly pass their test
slots_test : (limit : ℕ) (held : List (Option Booking)) → SoundSlots limit held → is_sound_slots limit held ≡ true
slots_test limit held h =
    and_from _ _ (eq-eqb _ 4 h.four)
    (and_from _ _ (ap is_packed h.packed ∙ packed_test (compact held) (4 - length (compact held)))
    (and_from _ _ (ascending_test (compact held) h.ascending) (le-leb _ _ h.few)))

-- what holds of each of the bookings holds of each in their places
in_slots : (P : Booking → Type 0) (bs : List Booking) → AllByRecursion P bs → AllByRecursion P (compact (slots bs))
in_slots P bs a = subst (AllByRecursion P) (sym (compact_slots bs)) a

-- what the test of a van tells, and the test from it
pub van_of : (clock limit : ℕ) (w : Van) → is_sound_van clock limit w ≡ true → SoundVan clock limit w
van_of clock limit w h =
    let o = and_parts (ltb w.place 64) _ h in
    let p = and_parts (leb clock w.second) _ o.1 in
    let q = and_parts (leb w.second week) _ p.1 in
    let r = and_parts (leb w.driven w.second) _ q.1 in
    let t = and_parts (is_sound_bookings w.driven (States.open_bookings w)) _ r.1 in
    record {
      place = ltb-true _ _ o.0;
      time = leb-true _ _ p.0;
      week = leb-true _ _ q.0;
      driven = leb-true _ _ r.0;
      bookings = bookings_of w.driven (States.open_bookings w) t.0;
      its = slots_of limit w.bookings t.1;
    }

van_test : (clock limit : ℕ) (w : Van) → SoundVan clock limit w → is_sound_van clock limit w ≡ true
van_test clock limit w h =
    and_from _ _ (lt-ltb _ _ h.place) (and_from _ _ (le-leb _ _ h.time) (and_from _ _ (le-leb _ _ h.week) (and_from _ _ (le-leb _ _ h.driven)
    (and_from _ _ (bookings_test w.driven (States.open_bookings w) h.bookings) (slots_test limit w.bookings h.its)))))

all_at : (clock limit : ℕ) (os : List (Option Van)) → all_sound clock limit os ≡ true → (i : ℕ) → is_sound_place clock limit (get_or os i None) ≡ true
all_at clock limit [] h i = refl
all_at clock limit (o ∷ os) h zero = (and_parts (is_sound_place clock limit o) _ h).0
all_at clock limit (o ∷ os) h (suc i) = all_at clock limit os (and_parts (is_sound_place clock limit o) _ h).1 i

all_from : (clock limit : ℕ) (os : List (Option Van)) → ((i : ℕ) → is_sound_place clock limit (get_or os i None) ≡ true) → all_sound clock limit os ≡ true
all_from clock limit [] h = refl
all_from clock limit (o ∷ os) h = and_from _ _ (h 0) (all_from clock limit os (λ i. h (suc i)))

pub sound_of : (s : State) → is_sound s ≡ true → Sound s
unfolding is_sound
sound_of s h =
    let a = and_parts (leb 1 s.size) _ h in
    let b = and_parts (leb s.size 32) _ a.1 in
    let c = and_parts (leb 1 s.open_limit) _ b.1 in
    let d = and_parts (leb s.open_limit 4) _ c.1 in
    let e = and_parts (leb s.clock week) _ d.1 in
    let f = and_parts (eqb (length s.vans) 32) _ e.1 in
    let g = and_parts (all_sound s.clock s.open_limit s.vans) _ f.1 in
    let i = and_parts (all_off (drop s.size s.vans)) _ g.1 in
    record {
      one = leb-true _ _ a.0;
      most = leb-true _ _ b.0;
      some = leb-true _ _ c.0;
      four = leb-true _ _ d.0;
      week = leb-true _ _ e.0;
      long = eqb-true _ _ f.0;
      each = all_at s.clock s.open_limit s.vans g.0;
      off = i.0;
      once = once_of s.vans i.1;
    }

pub sound_test : (s : State) → Sound s → is_sound s ≡ true
unfolding is_sound
sound_test s h =
    and_from _ _ (le-leb _ _ h.one) (and_from _ _ (le-leb _ _ h.most) (and_from _ _ (le-leb _ _ h.some) (and_from _ _ (le-leb _ _ h.four) (and_from _ _ (le-leb _ _ h.week)
    (and_from _ _ (eq-eqb _ _ h.long) (and_from _ _ (all_from s.clock s.open_limit s.vans h.each) (and_from _ _ h.off
    (once_test s.vans (λ i. one_van (get_or s.vans i None) (h.each i)) h.once))))))))
  where
    one_van : (o : Option Van) → is_sound_place s.clock s.open_limit o ≡ true → is_once (numbers_on o) ≡ true
    one_van None t = refl
    one_van (Some w) t = ascending_once (States.open_bookings w) (van_of s.clock s.open_limit w t).its.ascending

-- a van on duty is sound
pub sound_at : (s : State) → Sound s → (i : ℕ) (w : Van) → get_or s.vans i None ≡ Some w → SoundVan s.clock s.open_limit w
sound_at s h i w e = van_of s.clock s.open_limit w (subst (λ o. is_sound_place s.clock s.open_limit o ≡ true) e (h.each i))

-- a state that passes the test is sound: what `bound` and `cancel` ask for
pub sound_plainly : (s : State) → is_sound s ≡ true → plain.Sound s
sound_plainly s h = record { some = known.some; four = known.four; each = λ i. by i (get_or s.vans i None) refl }
  where
    known : Sound s
    known = sound_of s h

    by : (i : ℕ) (o : Option Van) → get_or s.vans i None ≡ o → plain.SoundPlace s.clock s.open_limit o
    by i None e = tt
    by i (Some w) e =
        let sound = sound_at s known i w e in
        record { time = sound.time; week = sound.week; driven = sound.driven; packed = sound.its.packed; ascending = sound.its.ascending; few = sound.its.few }

-- what is known of a van's number
pub number_within : (s : State) (v : ℕ) → States.is_van s v ≡ true → (1 ≤ v) × (v ≤ s.size) × (v ≤ 32)
number_within s v h =
    let p = and_parts (leb 1 v) _ h in
    let q = and_parts (leb v s.size) _ p.1 in
    (leb-true _ _ p.0, leb-true _ _ q.0, leb-true _ _ q.1)

-- the state with another van at an index
abbrev pub at_index : State → ℕ → Option Van → State
at_index s i o = record { size = s.size; open_limit = s.open_limit; clock = s.clock; vans = set s.vans i o }

-- the number n is open on no van but the one at index i
abbrev pub OnlyOn : State → ℕ → ℕ → Type 0
OnlyOn s i n = (j : ℕ) → In n (numbers_on (get_or s.vans j None)) → j ≡ i

-- what is open on a van is open on no other
pub its_own : (s : State) → Sound s → (i : ℕ) (w : Van) → get_or s.vans i None ≡ Some w → AllByRecursion (λ b. OnlyOn s i (number_of b)) (States.open_bookings w)
its_own s h i w e =
    all_from_in _ (States.open_bookings w)
    (λ b k j there. h.once (number_of b) j i there (subst (λ o. In (number_of b) (numbers_on o)) (sym e) (in_map number_of b (States.open_bookings w) k)))

-- the state is sound with another van at an index, if its numbers are open on no other van
pub set_sound : (s : State) → Sound s → (i : ℕ) (o : Option Van) → i < s.size → is_sound_place s.clock s.open_limit o ≡ true → AllByRecursion (OnlyOn s i) (numbers_on o) → Sound (at_index s i o)
set_sound s h i o l t own = record {
  one = h.one;
  most = h.most;
  some = h.some;
  four = h.four;
  week = h.week;
  long = length-set s.vans i o ∙ h.long;
  each = λ j. ⊎_elim
      (λ (e : j ≡ i). subst (λ x. is_sound_place s.clock s.open_limit x ≡ true) (sym (now_there j e)) t)
      (λ (n : j ≡ i → ⊥). subst (λ x. is_sound_place s.clock s.open_limit x ≡ true) (sym (get_or-set_other s.vans i j o None n)) (h.each j))
      (cases_eq j i);
  off = ap all_off (drop-set-lt s.size s.vans i o l) ∙ h.off;
  once = λ n j k p q. both n j k (before n j p) (before n k q);
}
  where
    now_there : (j : ℕ) → j ≡ i → get_or (set s.vans i o) j None ≡ o
    now_there j e =
        let k : i < length s.vans = let m = h.most in let n = h.long in omega arith in
        ap (λ x. get_or (set s.vans i o) x None) e ∙ get_or-set_same s.vans i o None k

    -- a number that is open now is one of the van's, or was open there before
    before : (n j : ℕ) → In n (numbers_on (get_or (set s.vans i o) j None)) → ((j ≡ i) × In n (numbers_on o)) ⊎ In n (numbers_on (get_or s.vans j None))
    before n j p = ⊎_elim
        (λ (e : j ≡ i). inl (e, subst (λ x. In n (numbers_on x)) (now_there j e) p))
        (λ (f : j ≡ i → ⊥). inr (subst (λ x. In n (numbers_on x)) (get_or-set_other s.vans i j o None f) p))
        (cases_eq j i)

    both : (n j k : ℕ) → ((j ≡ i) × In n (numbers_on o)) ⊎ In n (numbers_on (get_or s.vans j None)) → ((k ≡ i) × In n (numbers_on o)) ⊎ In n (numbers_on (get_or s.vans k None)) → j ≡ k
    both n j k (inl p) (inl q) = p.0 ∙ sym q.0
    both n j k (inl p) (inr q) = p.0 ∙ sym (all_in (OnlyOn s i) (numbers_on o) own n p.1 k q)
    both n j k (inr p) (inl q) = all_in (OnlyOn s i) (numbers_on o) own n q.1 j p ∙ sym q.0
    both n j k (inr p) (inr q) = h.once n j k p q

-- the state is sound with another van at an index, if the van is, and its numbers are open on no other van
van_sound : (s : State) → Sound s → (i : ℕ) (w : Van) → i < s.size → SoundVan s.clock s.open_limit w → AllByRecursion (λ b. OnlyOn s i (number_of b)) (States.open_bookings w) → is_sound (at_index s i (Some w)) ≡ true
van_sound s h i w l t own =
    sound_test (at_index s i (Some w)) (set_sound s h i (Some w) l (van_test s.clock s.open_limit w t) (All-map (OnlyOn s i) number_of (States.open_bookings w) own))

-- the index of a van's number
index_within : (s : State) (v : ℕ) → States.is_van s v ≡ true → v - 1 < s.size
index_within s v i = let p = number_within s v i in let a = p.0 in let b = p.1 in omega arith

module _ (s s' : State) (h : is_sound s ≡ true) where
  abbrev known : Sound s
  known = sound_of s h

  -- a changed van keeps the state sound
  changed : (v : ℕ) (w : Van) → States.is_van s v ≡ true → SoundVan s.clock s.open_limit w → AllByRecursion (λ b. OnlyOn s (v - 1) (number_of b)) (States.open_bookings w) → s' ≡ States.with_van s v (Some w) → is_sound s' ≡ true
  changed v w i t own e = subst (λ x. is_sound x ≡ true) (sym e) (van_sound s known (v - 1) w (index_within s v i) t own)

  pub join_sound : (places v place time : ℕ) → places ≤ 64 → States.join_call s places v place time ≡ Ok s' → is_sound s' ≡ true
  join_sound places v place time few e =
      let a = accepted.join_accepted s places v place time s' e in
      let there = a.there in
      let some = known.some in
      changed v (States.fresh place time) a.its (record {
        place = omega arith;
        time = a.on;
        week = a.week;
        driven = omega arith;
        bookings = tt;
        its = slots_sound s.open_limit [] known.four (omega arith) tt;
      }) tt a.after

  pub leave_sound : (v : ℕ) → States.leave_call s v ≡ Ok s' → is_sound s' ≡ true
  leave_sound v e =
      let a = accepted.leave_accepted s v s' e in
      subst (λ x. is_sound x ≡ true) (sym a.after) (sound_test (States.with_van s v None) (set_sound s known (v - 1) None (index_within s v a.its) refl tt))

  pub bound_sound : (places : ℕ) (trip : ℕ → ℕ → ℕ) (v place time : ℕ) → places ≤ 64 → States.bound_call s places trip v place time ≡ Ok s' → is_sound s' ≡ true
  bound_sound places trip v place time few e =
      let a = accepted.bound_accepted s places trip v place time s' e in
      let w = sound_at s known (v - 1) a.van a.at in
      let there = a.there in
      let on = a.on in
      let before = w.time in
      let driven = w.driven in
      changed v (States.bound_for a.van place time (trip a.van.place place)) a.its (record {
        place = omega arith;
        time = omega arith;
        week = a.week;
        driven = omega arith;
        bookings = All-weaker _ _ (driven_on a.van.driven (a.van.driven + trip a.van.place place) (omega arith)) (States.open_bookings a.van) w.bookings;
        its = w.its;
      }) (its_own s known (v - 1) a.van a.at) a.after

  pub served_sound : (g : Rules) (v n time : ℕ) (x : States.Service) → States.served_call g s v n time ≡ Ok (s', x) → is_sound s' ≡ true
  served_sound g v n time x e =
      let a = accepted.served_accepted g s v n time (s', x) e in
      let w = sound_at s known (v - 1) a.van a.at in
      let bs = States.open_bookings a.van in
      let on = a.on in
      let d = departs_at_once time in
      let before = w.time in
      let driven = w.driven in
      let fewer = served_few a.van.driven n bs in
      let few = w.its.few in
      let week = a.week in
      changed v (States.served_van a.van n time) a.its (record {
        place = w.place;
        time = omega arith;
        week = omega arith;
        driven = omega arith;
        bookings = in_slots _ (served a.van.driven n bs) (all_served (SoundBooking a.van.driven) a.van.driven n (picked_up a.van.driven) bs w.bookings);
        its = slots_sound s.open_limit (served a.van.driven n bs) known.four (omega arith) (served_ascending a.van.driven n bs w.its.ascending);
      }) (in_slots _ (served a.van.driven n bs) (all_served _ a.van.driven n (λ p j own. own) bs (its_own s known (v - 1) a.van a.at))) a.after
    where
      served_few : (d n : ℕ) (bs : List Booking) → length (served d n bs) ≤ length bs
      served_few d n [] = omega arith
      served_few d n (b ∷ bs) =
          cond_both (eqb (number_of b) n) _ _ (λ l. length l ≤ length (b ∷ bs)) (λ e. now b) (λ e. let h = served_few d n bs in omega arith)
        where
          now : (c : Booking) → length (remaining d c ++ bs) ≤ length (b ∷ bs)
          now (Waiting pickup j) = omega arith
          now (Aboard since j) = omega arith

  pub clock_sound : (time : ℕ) → States.clock_call s time ≡ Ok s' → is_sound s' ≡ true
  clock_sound time e =
      let a = accepted.clock_accepted s time s' e in
      let k = known in
      subst (λ x. is_sound x ≡ true) (sym a.after)
      (sound_test (States.clocked s time) (record {
        one = k.one;
        most = k.most;
        some = k.some;
        four = k.four;
        week = a.week;
        long = length-map s.vans (States.waited time) ∙ k.long;
        each = λ i. subst (λ o. is_sound_place time s.open_limit o ≡ true) (sym (van_waited time s.vans i)) (waits a.week (get_or s.vans i None) (k.each i));
        off = ap all_off (drop-map (States.waited time) s.size s.vans) ∙ still_off (drop s.size s.vans) k.off;
        once = λ n i j p q. k.once n i j (still_open n i p) (still_open n j q);
      }))
    where
      waits : time ≤ 604800 → (o : Option Van) → is_sound_place s.clock s.open_limit o ≡ true → is_sound_place time s.open_limit (States.waited time o) ≡ true
      waits t None h = refl
      waits t (Some w) h =
          let p = van_of s.clock s.open_limit w h in
          let driven = p.driven in
          cond_both (ltb w.second time) time w.second (λ second. is_sound_van time s.open_limit (record { place = w.place; second = second; driven = w.driven; bookings = w.bookings }) ≡ true)
          (λ e. let l = ltb-true w.second time e in van_test time s.open_limit (record { place = w.place; second = time; driven = w.driven; bookings = w.bookings })
          (record { place = p.place; time = omega arith; week = t; driven = omega arith; bookings = p.bookings; its = p.its }))
          (λ e. van_test time s.open_limit (record { place = w.place; second = w.second; driven = w.driven; bookings = w.bookings })
          (record { place = p.place; time = ltb-false w.second time e; week = p.week; driven = driven; bookings = p.bookings; its = p.its }))

      still_off : (os : List (Option Van)) → all_off os ≡ true → all_off (map (States.waited time) os) ≡ true
      still_off [] h = refl
      still_off (None ∷ os) h = still_off os h
      still_off (Some w ∷ os) h = h

      -- a number that is open was open before
      still_open : (n i : ℕ) → In n (numbers_on (get_or (map (States.waited time) s.vans) i None)) → In n (numbers_on (get_or s.vans i None))
      still_open n i p = same (get_or s.vans i None) (subst (λ o. In n (numbers_on o)) (van_waited time s.vans i) p)
        where
          same : (o : Option Van) → In n (numbers_on (States.waited time o)) → In n (numbers_on o)
          same None k = k
          same (Some w) k = k

-- a van that is not off duty is one of those that there are
pub within_size : (s : State) → Sound s → (i : ℕ) (w : Van) → get_or s.vans i None ≡ Some w → i < s.size
within_size s h i w e = ⊎_elim (λ (l : i < s.size). l) (λ (l : s.size ≤ i). absurd (accepted.none_some (sym (nowhere s.vans s.size i l h.off) ∙ e))) (cases_lt i s.size)
  where
    all_none : (os : List (Option Van)) (j : ℕ) → all_off os ≡ true → get_or os j None ≡ None
    all_none [] j t = refl
    all_none (None ∷ os) zero t = refl
    all_none (None ∷ os) (suc j) t = all_none os j t
    all_none (Some x ∷ os) j t = absurd (let z : ◌≡◌ {A = ℕ} 0 1 = cc in omega arith)

    nowhere : (os : List (Option Van)) (n j : ℕ) → n ≤ j → all_off (drop n os) ≡ true → get_or os j None ≡ None
    nowhere [] n j l t = refl
    nowhere (o ∷ os) zero j l t = all_none (o ∷ os) j t
    nowhere (o ∷ os) (suc n) zero l t = absurd (omega arith)
    nowhere (o ∷ os) (suc n) (suc j) l t = nowhere os n j (omega arith) t

-- a number that is not found is none of the bookings'
not_numbered : (n : ℕ) (bs : List Booking) → numbered n bs ≡ None → (c : Booking) → In c bs → number_of c ≡ n → ⊥
not_numbered n [] g c j m = j
not_numbered n (x ∷ xs) g c j m = here (eqb (number_of x) n) refl g j (not_numbered n xs)
  where
    here : (t : Bool) → eqb (number_of x) n ≡ t → cond t (Some x) (numbered n xs) ≡ None → (c ≡ x) ⊎ In c xs → (numbered n xs ≡ None → (d : Booking) → In d xs → number_of d ≡ n → ⊥) → ⊥
    here true u v l more = accepted.none_some (sym v)
    here false u v (inl l) more = let z = eq-eqb (number_of x) n (ap number_of (sym l) ∙ m) in let y : ◌≡◌ {A = ℕ} 0 1 = cc in omega arith
    here false u v (inr l) more = more v c l m

-- a booking that no van holds is new to each
pub new_to_van : (n : ℕ) (b : Booking) → number_of b ≡ n → (k : ℕ) (os : List (Option Van)) → States.holder_of n k os ≡ None → (i : ℕ) (w : Van) → get_or os i None ≡ Some w → New b (States.open_bookings w)
new_to_van n b f k [] h i w e = absurd (accepted.none_some e)
new_to_van n b f k (o ∷ os) h i w e = by (States.open_on n o) refl h i e (new_to_van n b f (k + 1) os)
  where
    by : (p : Option Booking) → States.open_on n o ≡ p → ◌≡◌ {A = Option (ℕ × Booking)} (elim p [ Some c ↦ Some (k, c) | None ↦ States.holder_of n (k + 1) os ]) None → (i : ℕ) → get_or (o ∷ os) i None ≡ Some w →
        (States.holder_of n (k + 1) os ≡ None → (j : ℕ) (x : Van) → get_or os j None ≡ Some x → New b (States.open_bookings x)) → New b (States.open_bookings w)
    by (Some c) g l i e more = absurd (accepted.none_some (sym l))
    by None g l zero e more = λ c j m. not_numbered n (States.open_bookings w) (ap (States.open_on n) (sym e) ∙ g) c j (m ∙ f)
    by None g l (suc i) e more = more l i w e

-- a number that no van holds is open on none
open_nowhere : (n k : ℕ) (os : List (Option Van)) → States.holder_of n k os ≡ None → (j : ℕ) → In n (numbers_on (get_or os j None)) → ⊥
open_nowhere n k os h j there = on (get_or os j None) refl there
  where
    on : (o : Option Van) → get_or os j None ≡ o → In n (numbers_on o) → ⊥
    on None e i = i
    on (Some w) e i = let m = of_map number_of n (States.open_bookings w) i in new_to_van n m.0 (sym m.2) k os h j w e m.0 m.1 refl

module _ (s : State) (h : is_sound s ≡ true) where
  abbrev its : Sound s
  its = sound_of s h

  pub cancel_sound : (n : ℕ) (s' : State) → States.cancel_call s n ≡ Ok s' → is_sound s' ≡ true
  cancel_sound n s' e =
      let a = accepted.cancel_accepted s n s' e in
      let w = sound_at s its a.at a.van a.there in
      let bs = States.open_bookings a.van in
      let fewer = remove_few n bs in
      let few = w.its.few in
      subst (λ x. is_sound x ≡ true) (sym a.after)
      (van_sound s its a.at (States.relieved n a.van) (within_size s its a.at a.van a.there) (record {
        place = w.place;
        time = w.time;
        week = w.week;
        driven = w.driven;
        bookings = in_slots _ (remove n bs) (all_remove _ n bs w.bookings);
        its = slots_sound s.open_limit (remove n bs) its.four (omega arith) (remove_ascending n bs w.its.ascending);
      }) (in_slots _ (remove n bs) (all_remove _ n bs (its_own s its a.at a.van a.there))))
    where
      remove_few : (n : ℕ) (bs : List Booking) → length (remove n bs) ≤ length bs
      remove_few n [] = omega arith
      remove_few n (b ∷ bs) = let i = remove_few n bs in cond_both (eqb (number_of b) n) _ _ (λ l. length l ≤ length (b ∷ bs)) (λ e. omega arith) (λ e. omega arith)

  -- the booking is in range on the van that takes it, and no van holds its number
  pub taken_sound : (v : ℕ) (b : Booking) → States.is_van s v ≡ true → ((w : Van) → States.van_at s v ≡ Some w → is_sound_booking w.driven b ≡ true) → States.holder_of (number_of b) 0 s.vans ≡ None →
      is_sound (States.taken s v b) ≡ true
  taken_sound v b i ranges new = by (States.van_at s v) refl
    where
      by : (o : Option Van) → States.van_at s v ≡ o → is_sound (States.taken_by s v b o) ≡ true
      by None e = h
      by (Some w) e =
          let sound = sound_at s its (v - 1) w e in
          let bs = States.open_bookings w in
          cond_both (States.has_room s w) _ _ (λ x. is_sound x ≡ true)
          (λ r. let room = ltb-true (length bs) s.open_limit r in
          let long = insert_length b bs in
          van_sound s its (v - 1) (States.taking w b) (index_within s v i) (record {
            place = sound.place;
            time = sound.time;
            week = sound.week;
            driven = sound.driven;
            bookings = in_slots _ (insert b bs) (all_insert _ b bs (booking_of w.driven b (ranges w e)) sound.bookings);
            its = slots_sound s.open_limit (insert b bs) its.four (omega arith) (insert_ascending b bs (new_to_van (number_of b) b refl 0 s.vans new (v - 1) w e) sound.its.ascending);
          }) (in_slots _ (insert b bs) (all_insert _ b bs (λ j there. absurd (open_nowhere (number_of b) 0 s.vans new j there)) (its_own s its (v - 1) w e))))
          (λ r. h)
