-- Shows that a step from a position is a step of its walk.
use Rattle.std.proofs.Common.{◌≡◌, ℕ, zero, suc, ◌+◌, ◌<◌, ◌≤◌, max, Bool, true, false, ◌&&◌, ltb, leb, List, [], ◌∷◌, get_or, set, Some, None, Option, sym, refl, ap, ◌∙◌, subst, inl, inr, ⊎_elim, arith, length-set}
use Rattle.std.proofs.lemmas.Bool.{cond-true, cond-false, eq-eqb, ne_eqb, ltb-true, lt-ltb, and_parts, and_from, both_ways, cases_Bool}
use Rattle.roads.specs.Roads.{between}
use Rattle.orders.specs.declared.Stop.{Stop}
use Rattle.orders.specs.declared.Booking.{Booking}
use Rattle.orders.specs.declared.Booking.TheVariants.{Waiting, Aboard}
use Rattle.orders.specs.Rules.{Rules}
use Rattle.orders.specs.Bookings.{In, number_of, next_stop, served, stops, Ascending}
use Rattle.orders.specs.Walks.{Walk, departs, leg, service, after, within_limits, Allowed}
use Rattle.orders.specs.Trees.{step}
use Rattle.orders.proofs.Basics.{none_some, some_same}
use Rattle.orders.proofs.Steps.{departs_later, served_ascending, served_stops, above_in, step_cases}
use Rattle.growth.specs.declared.walk.Position.{Position}
use Rattle.growth.specs.declared.walk.Visit.{Visit}
use Rattle.growth.specs.Positions.{compact, walk_of, Sound, left_of, fit_together, limits_kept, Visited, Stepped}

-- the i-th booking is open
pub ith_in : (bs : List (Option Booking)) (i : ℕ) (b : Booking) → get_or bs i None ≡ Some b → In b (compact bs)
ith_in [] i b e = absurd (none_some None b refl e)
ith_in (o ∷ os) zero b e = subst (λ p. In b (compact (p ∷ os))) (sym e) (inl refl)
ith_in (None ∷ os) (suc i) b e = ith_in os i b e
ith_in (Some c ∷ os) (suc i) b e = inr (ith_in os i b e)

served_first : (d : ℕ) (b : Booking) (os : List (Option Booking)) → served d (number_of b) (b ∷ compact os) ≡ compact (left_of d b ∷ os)
served_first d (Waiting pickup j) os = cond-true _ _ _ (eq-eqb j.number j.number refl)
served_first d (Aboard since j) os = cond-true _ _ _ (eq-eqb j.number j.number refl)

-- serving the i-th booking's next stop changes its place alone
served_ith : (bs : List (Option Booking)) (i : ℕ) (b : Booking) (d : ℕ) → Ascending (compact bs) → get_or bs i None ≡ Some b → served d (number_of b) (compact bs) ≡ compact (set bs i (left_of d b))
served_ith [] i b d a e = absurd (none_some None b refl e)
served_ith (o ∷ os) zero b d a e = subst (λ p. served d (number_of b) (compact (p ∷ os)) ≡ compact (left_of d b ∷ os)) (sym e) (served_first d b os)
served_ith (None ∷ os) (suc i) b d a e = served_ith os i b d a e
served_ith (Some c ∷ os) (suc i) b d a e =
    let h = above_in (number_of c) b (compact os) a.0 (ith_in os i b e) in
    let ne : number_of c ≡ number_of b → ⊥ = λ z. omega arith in
    cond-false _ _ _ (ne_eqb (number_of c) (number_of b) ne) ∙ ap (λ l. c ∷ l) (served_ith os i b d a.1 e)

module _ (places : ℕ) (trip : ℕ → ℕ → ℕ) (a b : ℕ) where
  -- roads that answer know both places
  answered : (s : ℕ) → Some s ≡ between places trip a b → (a < places) × (b < places) × (s ≡ trip a b)
  answered s e = ⊎_elim
      (λ t. let p = and_parts _ _ t in (ltb-true _ _ p.0, ltb-true _ _ p.1, some_same (between places trip a b) s (trip a b) (sym e) (cond-true _ _ _ t)))
      (λ t. absurd (none_some _ s (cond-false _ _ _ t) (sym e)))
      (cases_Bool (ltb a places && ltb b places))

  unanswered : None ≡ between places trip a b → a < places → b < places → ⊥
  unanswered e h k = none_some _ (trip a b) (sym e) (cond-true _ _ _ (and_from _ _ (lt-ltb _ _ h) (lt-ltb _ _ k)))

module _ (g : Rules) where
  step_yes : (w : Walk) (b : Booking) → Allowed g w b → step g w b ≡ Some (after g w b)
  step_yes w b a = ⊎_elim (λ t. t.1) (λ t. absurd (t.0 a)) (step_cases g w b)

  step_no : (w : Walk) (b : Booking) → (Allowed g w b → ⊥) → step g w b ≡ None
  step_no w b n = ⊎_elim (λ t. absurd (n t.0)) (λ t. t.1) (step_cases g w b)

  module _ (p : Position) (i : ℕ) (b : Booking) (sound : Sound p) (its : get_or p.bookings i None ≡ Some b) where
    abbrev now_driven : ℕ
    now_driven = (after g (walk_of p) b).driven

    abbrev now_open : List (Option Booking)
    now_open = set p.bookings i (left_of now_driven b)

    open_same : (after g (walk_of p) b).bookings ≡ compact now_open
    open_same = served_ith p.bookings i b now_driven sound.ascending its

    -- the limits are judged over the bookings as they then stand
    limits_same : (c : Booking) → b ≡ c → within_limits g (walk_of p) c ≡ limits_kept g c now_driven (compact now_open)
    limits_same (Waiting pickup j) e =
        ap (λ x. fit_together g (after g (walk_of p) x).bookings) (sym e)
        ∙ ap (fit_together g) open_same
    limits_same (Aboard since j) e = ap (λ x. leb (after g (walk_of p) x).driven (since + j.ride_limit)) (sym e)

    abbrev visit : Visit
    visit = record {
      second = service g (walk_of p) b;
      position = record { place = (next_stop b).place; second = departs (service g (walk_of p) b); driven = now_driven; cost = (after g (walk_of p) b).cost; bookings = now_open };
    }

    visited : Allowed g (walk_of p) b → Visited g p b visit
    visited a =
        let later = departs_later (service g (walk_of p) b) in
        record {
          onward = step_yes (walk_of p) b a
              ∙ ap (λ l. Some (record { place = visit.position.place; second = visit.position.second; driven = now_driven; cost = visit.position.cost; bookings = l })) open_same;
          second = refl;
          sound = record {
            driven = (let h = sound.driven in omega arith);
            cost = (let h = sound.cost in omega arith);
            ascending = subst Ascending open_same (served_ascending now_driven (number_of b) (compact p.bookings) sound.ascending);
            four = length-set p.bookings i (left_of now_driven b) ∙ sound.four;
          };
          fewer = subst (λ l. stops l + 1 ≡ stops (compact p.bookings)) open_same (served_stops now_driven b (compact p.bookings) (ith_in p.bookings i b its));
        }

    -- the booking's next stop may not be served next
    pub not_visited : (v : Option Visit) → v ≡ None → step g (walk_of p) b ≡ None → Stepped g p (get_or p.bookings i None) v
    not_visited v none refused = subst (λ o. Stepped g p o v) (sym its) (subst (Stepped g p (Some b)) (sym none) refused)

    is_visited : (v : Visit) → Visited g p b v → Stepped g p (get_or p.bookings i None) (Some v)
    is_visited v h = subst (λ o. Stepped g p o (Some v)) (sym its) h

    module _ (its_stop : Stop) (stop_is : its_stop ≡ next_stop b) where
      -- the roads do not answer
      pub step_unknown : None ≡ between g.places g.trip p.place its_stop.place → step g (walk_of p) b ≡ None
      step_unknown e = step_no (walk_of p) b (λ a. unanswered g.places g.trip p.place (next_stop b).place (e ∙ ap (λ s. between g.places g.trip p.place s.place) stop_is) a.here a.there)

      module _ (seconds : ℕ) (known : Some seconds ≡ between g.places g.trip p.place its_stop.place) (second : ℕ) (second_is : second ≡ max (p.second + seconds) its_stop.window.opens) where
        road : (p.place < g.places) × ((next_stop b).place < g.places) × (seconds ≡ leg g (walk_of p) b)
        road = answered g.places g.trip p.place (next_stop b).place seconds (known ∙ ap (λ s. between g.places g.trip p.place s.place) stop_is)

        service_is : second ≡ service g (walk_of p) b
        service_is = second_is ∙ ap (λ x. max (p.second + x) its_stop.window.opens) road.2 ∙ ap (λ s. max (p.second + leg g (walk_of p) b) s.window.opens) stop_is

        pub step_late : its_stop.window.closes < second → step g (walk_of p) b ≡ None
        step_late h = step_no (walk_of p) b (λ a. let t = a.timely in let k = service_is in let c = ap (λ s. s.window.closes) stop_is in omega arith)

        module _ (timely : second ≤ its_stop.window.closes) (o : Option Booking) (o_is : o ≡ left_of (p.driven + seconds) b) where
          left_is : o ≡ left_of now_driven b
          left_is = o_is ∙ ap (λ x. left_of (p.driven + x) b) road.2

          limits_are : limits_kept g b (p.driven + seconds) (compact (set p.bookings i o)) ≡ within_limits g (walk_of p) b
          limits_are =
              ap (λ x. limits_kept g b (p.driven + x) (compact (set p.bookings i o))) road.2
              ∙ ap (λ x. limits_kept g b now_driven (compact (set p.bookings i x))) left_is
              ∙ sym (limits_same b refl)

          pub step_beyond : (t : Bool) → t ≡ limits_kept g b (p.driven + seconds) (compact (set p.bookings i o)) → t ≡ false → step g (walk_of p) b ≡ None
          step_beyond t e f = step_no (walk_of p) b (λ a. both_ways (within_limits g (walk_of p) b) (sym limits_are ∙ sym e ∙ f) a.limits)

          pub step_taken : (t : Bool) → t ≡ limits_kept g b (p.driven + seconds) (compact (set p.bookings i o)) → t ≡ true → (leaves : ℕ) → leaves ≡ departs second →
              Stepped g p (get_or p.bookings i None) (Some (record { second = second; position = record { place = its_stop.place; second = leaves; driven = p.driven + seconds; cost = p.cost + seconds; bookings = set p.bookings i o } }))
          step_taken t e f leaves l =
              let place_is = ap (λ s. s.place) stop_is in
              let leaves_is = l ∙ ap departs service_is in
              let closes_is = ap (λ s. s.window.closes) stop_is in
              let served = service_is in
              let same : record { second = second; position = record { place = its_stop.place; second = leaves; driven = p.driven + seconds; cost = p.cost + seconds; bookings = set p.bookings i o } } ≡ visit =
              (λ k. record { second = service_is k; position = record { place = place_is k; second = leaves_is k; driven = p.driven + road.2 k; cost = p.cost + road.2 k; bookings = set p.bookings i (left_is k) } }) in
              is_visited _ (subst (Visited g p b) (sym same)
              (visited (record { here = road.0; there = road.1; timely = omega arith; limits = sym limits_are ∙ sym e ∙ f })))
