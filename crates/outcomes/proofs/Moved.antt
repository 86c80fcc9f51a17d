-- Shows that node memory is settled after each call that changes one van: join, leave, bound, served, cancel.
use Rattle.std.proofs.Common.{◌≡◌, ℕ, ◌+◌, ◌-◌, ◌<◌, ◌≤◌, Bool, true, false, cond, eqb, ltb, leb, ◌⊎◌, List, [], ◌∷◌, ◌++◌, length, get_or, set, is_some, Some, None, Ok, Option, sym, refl, ap, ◌∙◌, subst, inl, inr, ⊎_elim, arith}
use Rattle.std.proofs.lemmas.List.{get_or-set_same, get_or-set_other, nil_from_length}
use Rattle.std.proofs.lemmas.Bool.{and_parts, and_from, eqb-true, ltb-true, ltb-false, le-leb, cases_eq}
use Rattle.stowage.specs.Together.{stowed}
use Rattle.orders.specs.declared.Booking.{Booking}
use Rattle.orders.specs.declared.Booking.TheVariants.{Waiting, Aboard}
use Rattle.orders.specs.declared.Node.{Node}
use Rattle.orders.specs.declared.StopKind.{StopKind}
use Rattle.orders.specs.Rules.{Rules, Lawful}
use Rattle.orders.specs.Bookings.{In, number_of, next_stop, remaining, loads}
use Rattle.orders.specs.Bookings.{served as served_bookings}
use Rattle.orders.specs.Walks.{Walk, departs, within_limits, van}
use Rattle.orders.specs.Laws.{below_root}
use Rattle.orders.specs.Trees.{tree_row, kinetic_tree, grow, children}
use Rattle.orders.specs.Slabs.{slab}
use Rattle.growth.specs.declared.guide.Fresh.{Fresh}
use Rattle.growth.specs.declared.guide.Fresh.TheVariants.{Nobody, Everybody}
use Rattle.growth.specs.Changes.{Suffices, bound, served, anew}
use Rattle.fleet.specs.declared.state.State.{State}
use Rattle.fleet.specs.declared.state.Van.{Van}
use Rattle.fleet.specs.Slots.{slots, numbered}
use Rattle.fleet.specs.States
use Rattle.fleet.specs.SoundTest.{is_sound}
use Rattle.fleet.proofs.Accepted as accepted
use Rattle.fleet.proofs.Packed.{compact_slots}
use Rattle.fleet.proofs.Soundness.{SoundVan, sound_of, sound_at, number_within, within_size}
use Rattle.outcomes.specs.Settled.{slab_nodes, needed, slab_at, van_row, has_tree, Writes, Regrown, RegrownIf, RegrownAfter, as_ordered, untouched, one_van, holding_van}
use Rattle.outcomes.proofs.Written.{one_written}

-- a booking that is found by its number is open, and has that number
pub found_open : (n : ℕ) (bs : List Booking) (b : Booking) → numbered n bs ≡ Some b → (number_of b ≡ n) × In b bs
found_open n [] b e = absurd (accepted.none_some e)
found_open n (c ∷ cs) b e = by (eqb (number_of c) n) refl e (found_open n cs b)
  where
    by : (t : Bool) → eqb (number_of c) n ≡ t → cond t (Some c) (numbered n cs) ≡ Some b → (numbered n cs ≡ Some b → (number_of b ≡ n) × In b cs) → (number_of b ≡ n) × ((b ≡ c) ⊎ In b cs)
    by true t f more = let same : c ≡ b = cc in (ap number_of (sym same) ∙ eqb-true _ _ t, inl (sym same))
    by false t f more = let m = more f in (m.0, inr m.1)

-- what is aboard after service does not depend on what the van had driven
loads_served : (d e n : ℕ) (bs : List Booking) → loads (served_bookings d n bs) ≡ loads (served_bookings e n bs)
loads_served d e n [] = refl
loads_served d e n (b ∷ bs) = by (eqb (number_of b) n) b (loads_served d e n bs)
  where
    by : (t : Bool) (c : Booking) → loads (served_bookings d n bs) ≡ loads (served_bookings e n bs) → loads (cond t (remaining d c ++ bs) (c ∷ served_bookings d n bs)) ≡ loads (cond t (remaining e c ++ bs) (c ∷ served_bookings e n bs))
    by true (Waiting pickup j) more = refl
    by true (Aboard since j) more = refl
    by false (Waiting pickup j) more = more
    by false (Aboard since j) more = ap (λ l. j.load ∷ l) more

-- a stop that was served as an order may have it keeps the limits
kept_limits : (g : Rules) (w : Walk) (b : Booking) → g.trip w.place (next_stop b).place ≡ 0 → (n : ℕ) → number_of b ≡ n → States.fits_aboard g b (served_bookings w.driven n w.bookings) ≡ true → States.over_by w.driven b ≡ 0 → within_limits g w b ≡ true
kept_limits g w (Waiting pickup j) z n m fits o =
    ap (λ l. is_some (stowed g.stow g.empty l)) (loads_served _ w.driven j.number w.bookings ∙ ap (λ k. loads (served_bookings w.driven k w.bookings)) m) ∙ fits
kept_limits g w (Aboard since j) z n m fits o = le-leb _ _ (omega arith)

-- then the nodes below the stop suffice
service_suffices : (g : Rules) → Lawful g → (s : State) (v n time : ℕ) (s' : State) (kind : StopKind) (late over : ℕ) (a : accepted.Served g s v n time (s', (kind, late, over))) → SoundVan s.clock s.open_limit a.van →
    as_ordered late over (ltb a.van.place g.places) ≡ true → (kind, late, over) ≡ States.service_of a.van a.booking time → (old : List Node) → old ≡ slab (slab_nodes s) (tree_row g (States.van_walk a.van)) →
    Suffices g Nobody (below_root n old) (States.van_walk (States.served_van a.van n time))
service_suffices g lawful s v n time s' kind late over a van m told old e =
    let u = States.van_walk a.van in
    let b = a.booking in
    let p = and_parts (eqb late 0) _ m in
    let q = and_parts (eqb over 0) _ p.1 in
    let here = ltb-true _ _ q.1 in
    let is_late : late ≡ States.late_by time b = ap (λ (x : States.Service). x.1) told in
    let is_over : over ≡ States.over_by a.van.driven b = ap (λ (x : States.Service). x.2) told in
    let no_late = eqb-true late 0 p.0 in
    let no_over = eqb-true over 0 q.0 in
    let f = found_open n (States.open_bookings a.van) b a.booked in
    let zero_leg : g.trip a.van.place (next_stop b).place ≡ 0 = ap (g.trip a.van.place) (sym a.there) ∙ lawful.roads.here a.van.place here in
    served (slab_nodes s) u b time
    ((λ i. below_root (sym f.0 i) (e i)))
    van.its.ascending
    (record {
      its = f.1;
      here = here;
      there = a.there;
      time = a.on;
      opened = a.opened;
      closes = omega arith;
      limits = kept_limits g u b zero_leg n f.0 a.fits (sym is_over ∙ no_over);
    })
    refl
    ((λ i. record { place = a.van.place; second = departs time; driven = a.van.driven; cost = 0; bookings = (compact_slots (served_bookings a.van.driven n (States.open_bookings a.van)) ∙ ap (λ k. served_bookings a.van.driven k (States.open_bookings a.van)) (sym f.0)) i }))

-- a van that changes with nothing open has no node before and after: nothing is written
module _ (g : Rules) (s : State) (h : is_sound s ≡ true) (nodes : List Node) where
  bare : (touched : ℕ → Type 0) (v : ℕ) → States.is_van s v ≡ true → (o : Option Van) → slab (slab_nodes s) (van_row g (States.van_at s v)) ≡ slab (slab_nodes s) (van_row g o) → Writes g s nodes touched true (States.with_van s v o) nodes
  bare touched v i o e =
      let n = number_within s v i in
      let low = n.0 in
      let high = n.2 in
      let long = (sound_of s h).long in
      record {
        settled = λ a. record {
          room = a.room;
          each = λ j l. a.each j l ∙ ⊎_elim
              (λ (f : j ≡ v - 1). subst (λ k. slab (slab_nodes s) (van_row g (get_or s.vans k None)) ≡ slab (slab_nodes s) (van_row g (get_or (set s.vans (v - 1) o) k None))) (sym f)
              (e ∙ ap (λ x. slab (slab_nodes s) (van_row g x)) (sym (get_or-set_same s.vans (v - 1) o None (omega arith)))))
              (λ (f : j ≡ v - 1 → ⊥). ap (λ x. slab (slab_nodes s) (van_row g x)) (sym (get_or-set_other s.vans (v - 1) j o None f)))
              (cases_eq j (v - 1));
          work = a.work;
        };
        others = λ j l t. refl;
        beyond = refl;
        refused = λ t. refl;
      }

  -- the tree of a van with nothing open
  pub bare_tree : (w : Van) → States.open_bookings w ≡ [] → tree_row g (States.van_walk w) ≡ []
  unfolding kinetic_tree grow children
  bare_tree w e = ap (λ bs. tree_row g (van w.place w.second w.driven bs)) e

  -- a van has no tree where it has nothing open
  pub no_tree : (w : Van) → has_tree w ≡ false → tree_row g (States.van_walk w) ≡ []
  no_tree w e = bare_tree w (nil_from_length (States.open_bookings w) (let l = ltb-false 0 (length (States.open_bookings w)) e in omega arith))

module _ (g : Rules) (s : State) (h : is_sound s ≡ true) (nodes nodes' : List Node) (room : needed s ≤ length nodes) (same : length nodes' ≡ length nodes) where
  -- the van that was put in its number's place stands there
  pub stands : (v : ℕ) → States.is_van s v ≡ true → (o : Option Van) → States.van_at (States.with_van s v o) v ≡ o
  stands v i o =
      let n = number_within s v i in
      let low = n.0 in
      let high = n.2 in
      let long = (sound_of s h).long in
      get_or-set_same s.vans (v - 1) o None (omega arith)

  -- the van of that number changes to w, and its tree grows along old nodes that suffice where memory was settled
  pub regrown_van : (v : ℕ) → States.is_van s v ≡ true → (u w : Van) → States.van_at s v ≡ Some u → (fresh : Fresh) (old : List Node) → Regrown g (States.with_van s v (Some w)) (v - 1) fresh old w nodes nodes' →
      (slab_at s nodes (v - 1) ≡ slab (slab_nodes s) (tree_row g (States.van_walk u)) → Suffices g fresh old (States.van_walk w)) → (touched : ℕ → Type 0) → touched (v - 1) →
      Writes g s nodes touched true (States.with_van s v (Some w)) nodes'
  regrown_van v i u w at fresh old r enough touched its =
      let n = number_within s v i in
      let low = n.0 in
      let high = n.1 in
      one_written g s h nodes nodes' room same (v - 1) (omega arith) (Some w) _ r.replaced touched its
      (λ a. r.exact (enough (a.each (v - 1) (omega arith) ∙ ap (λ o. slab (slab_nodes s) (van_row g o)) at)))

  pub bound_written : (v place time : ℕ) (s' : State) → States.bound_call s g.places g.trip v place time ≡ Ok s' →
      ((w : Van) → States.van_at s' v ≡ Some w → RegrownIf g s' (v - 1) (has_tree w) w nodes nodes') → Writes g s nodes (one_van v) true s' nodes'
  bound_written v place time s' e r =
      let a = accepted.bound_accepted s g.places g.trip v place time s' e in
      let w = States.bound_for a.van place time (g.trip a.van.place place) in
      subst (λ x. Writes g s nodes (one_van v) true x nodes') (sym a.after)
      (by a (has_tree a.van) refl
      (subst (λ x. (u : Van) → States.van_at x v ≡ Some u → RegrownIf g x (v - 1) (has_tree u) u nodes nodes') a.after r w (stands v a.its (Some w))))
    where
      by : (a : accepted.Bound s g.places g.trip v place time s') (t : Bool) → has_tree a.van ≡ t →
          RegrownIf g (States.with_van s v (Some (States.bound_for a.van place time (g.trip a.van.place place)))) (v - 1) t (States.bound_for a.van place time (g.trip a.van.place place)) nodes nodes' →
          Writes g s nodes (one_van v) true (States.with_van s v (Some (States.bound_for a.van place time (g.trip a.van.place place)))) nodes'
      by a true m q =
          let van = sound_at s (sound_of s h) (v - 1) a.van a.at in
          regrown_van v a.its a.van (States.bound_for a.van place time (g.trip a.van.place place)) a.at Nobody (slab_at s nodes (v - 1)) q
          (λ old. bound (slab_nodes s) (States.van_walk a.van) place time old van.its.ascending a.here a.there a.on refl refl) (one_van v) refl
      by a false m q =
          let w = States.bound_for a.van place time (g.trip a.van.place place) in
          subst (Writes g s nodes (one_van v) true (States.with_van s v (Some w))) (sym q)
          (bare g s h nodes (one_van v) v a.its (Some w)
          (ap (λ o. slab (slab_nodes s) (van_row g o)) a.at ∙ ap (slab (slab_nodes s)) (no_tree g s h nodes a.van m ∙ sym (no_tree g s h nodes w m))))

  pub served_written : Lawful g → (v n time : ℕ) (s' : State) (kind : StopKind) (late over : ℕ) → States.served_call g s v n time ≡ Ok (s', (kind, late, over)) →
      ((w : Van) → States.van_at s' v ≡ Some w → RegrownAfter g s' (v - 1) n (as_ordered late over (ltb w.place g.places)) w nodes nodes') → Writes g s nodes (one_van v) true s' nodes'
  served_written lawful v n time s' kind late over e r =
      let a = accepted.served_accepted g s v n time (s', (kind, late, over)) e in
      let w = States.served_van a.van n time in
      let van = sound_at s (sound_of s h) (v - 1) a.van a.at in
      let told : (kind, late, over) ≡ States.service_of a.van a.booking time = a.told in
      subst (λ x. Writes g s nodes (one_van v) true x nodes') (sym a.after)
      (by a (as_ordered late over (ltb a.van.place g.places)) refl van told
      (subst (λ x. (u : Van) → States.van_at x v ≡ Some u → RegrownAfter g x (v - 1) n (as_ordered late over (ltb u.place g.places)) u nodes nodes') a.after r w (stands v a.its (Some w))))
    where
      by : (a : accepted.Served g s v n time (s', (kind, late, over))) (t : Bool) → as_ordered late over (ltb a.van.place g.places) ≡ t →
          SoundVan s.clock s.open_limit a.van → (kind, late, over) ≡ States.service_of a.van a.booking time →
          RegrownAfter g (States.with_van s v (Some (States.served_van a.van n time))) (v - 1) n t (States.served_van a.van n time) nodes nodes' →
          Writes g s nodes (one_van v) true (States.with_van s v (Some (States.served_van a.van n time))) nodes'
      by a true m van told q =
          regrown_van v a.its a.van (States.served_van a.van n time) a.at Nobody (below_root n (slab_at s nodes (v - 1))) q
          (λ old. service_suffices g lawful s v n time s' kind late over a van m told (slab_at s nodes (v - 1)) old) (one_van v) refl
      by a false m van told q =
          regrown_van v a.its a.van (States.served_van a.van n time) a.at Everybody (slab_at s nodes (v - 1)) q (λ old. anew refl) (one_van v) refl

  pub cancel_written : (n : ℕ) (s' : State) → States.cancel_call s n ≡ Ok s' → (i : ℕ) → (b : Booking) → States.holder_of n 0 s.vans ≡ Some (i, b) →
      ((w : Van) → States.van_at s' (i + 1) ≡ Some w → Regrown g s' ((i + 1) - 1) Everybody (slab_at s' nodes ((i + 1) - 1)) w nodes nodes') → Writes g s nodes (holding_van s n) true s' nodes'
  cancel_written n s' e i b held r =
      let a = accepted.cancel_accepted s n s' e in
      let m : Some (a.at, Waiting a.pickup a.journey) ≡ Some (i, b) = sym a.held ∙ held in
      let f : a.at ≡ i = ap (λ (o : Option (ℕ × Booking)). elim o [ Some q ↦ q.0 | None ↦ 0 ]) m in
      let within = within_size s (sound_of s h) a.at a.van a.there in
      let known = sound_of s h in
      let most = known.most in
      let long = known.long in
      let w = States.relieved n a.van in
      let at : (i + 1) - 1 ≡ a.at = omega arith in
      let grown : Regrown g (States.cancelled_on s n a.at a.van) a.at Everybody (slab_at s nodes a.at) w nodes nodes' =
      subst (λ j. Regrown g (States.cancelled_on s n a.at a.van) j Everybody (slab_at s nodes j) w nodes nodes') at
      (subst (λ x. (u : Van) → States.van_at x (i + 1) ≡ Some u → Regrown g x ((i + 1) - 1) Everybody (slab_at x nodes ((i + 1) - 1)) u nodes nodes') a.after r w
      (ap (λ j. get_or (set s.vans a.at (Some w)) j None) at ∙ get_or-set_same s.vans a.at (Some w) None (omega arith))) in
      subst (λ x. Writes g s nodes (holding_van s n) true x nodes') (sym a.after)
      (one_written g s h nodes nodes' room same a.at within (Some w) _ grown.replaced (holding_van s n) (Waiting a.pickup a.journey, a.held) (λ x. grown.exact (anew refl)))

-- a van comes or goes with nothing open
module _ (g : Rules) (s : State) (h : is_sound s ≡ true) (nodes : List Node) where
  pub join_written : (places v place time : ℕ) (s' : State) → States.join_call s places v place time ≡ Ok s' → Writes g s nodes untouched true s' nodes
  join_written places v place time s' e =
      let a = accepted.join_accepted s places v place time s' e in
      subst (λ x. Writes g s nodes untouched true x nodes) (sym a.after)
      (bare g s h nodes untouched v a.its _ (ap (λ o. slab (slab_nodes s) (van_row g o)) a.off ∙ ap (slab (slab_nodes s)) (sym (bare_tree g s h nodes (States.fresh place time) refl))))

  pub leave_written : (v : ℕ) (s' : State) → States.leave_call s v ≡ Ok s' → Writes g s nodes untouched true s' nodes
  leave_written v s' e =
      let a = accepted.leave_accepted s v s' e in
      let w = sound_at s (sound_of s h) (v - 1) a.van a.at in
      let none = nothing_open (States.open_bookings a.van) (ap (λ l. is_some (get_or l 0 None)) (sym w.its.packed) ∙ a.free) in
      subst (λ x. Writes g s nodes untouched true x nodes) (sym a.after)
      (bare g s h nodes untouched v a.its None (ap (λ o. slab (slab_nodes s) (van_row g o)) a.at ∙ ap (slab (slab_nodes s)) (bare_tree g s h nodes a.van none)))
    where
      nothing_open : (bs : List Booking) → is_some (get_or (slots bs) 0 None) ≡ false → bs ≡ []
      nothing_open [] f = refl
      nothing_open (b ∷ bs) f = absurd (let z : ◌≡◌ {A = ℕ} 0 1 = cc in omega arith)

-- the van at an index has the number after it
pub is_numbered_van : (s : State) (i : ℕ) → i < s.size → s.size ≤ 32 → States.is_van s (i + 1) ≡ true
is_numbered_van s i l m =
    and_from (leb 1 (i + 1)) _ (le-leb 1 (i + 1) (omega arith)) (and_from (leb (i + 1) s.size) _ (le-leb _ _ (omega arith)) (le-leb (i + 1) 32 (omega arith)))

pub is_number_of_van : (s : State) (v : ℕ) → 1 ≤ v → v ≤ s.size → s.size ≤ 32 → States.is_van s v ≡ true
is_number_of_van s v one l m = and_from (leb 1 v) _ (le-leb 1 v one) (and_from (leb v s.size) _ (le-leb _ _ l) (le-leb v 32 (omega arith)))

-- what the calls leave as it was: how many vans there are, and how many nodes they need
module _ (g : Rules) (s s' : State) (h : is_sound s ≡ true) where
  pub served_keeps : (v n time : ℕ) (x : States.Service) → States.served_call g s v n time ≡ Ok (s', x) → (States.is_van s' v ≡ true) × (needed s' ≡ needed s)
  served_keeps v n time x e = let a = accepted.served_accepted g s v n time (s', x) e in (ap (λ y. States.is_van y v) a.after ∙ a.its, ap needed a.after)

  pub cancel_keeps : (n : ℕ) → States.cancel_call s n ≡ Ok s' → (i : ℕ) (b : Booking) → States.holder_of n 0 s.vans ≡ Some (i, b) → (States.is_van s' (i + 1) ≡ true) × (needed s' ≡ needed s)
  cancel_keeps n e i b held =
      let a = accepted.cancel_accepted s n s' e in
      let m : Some (a.at, Waiting a.pickup a.journey) ≡ Some (i, b) = sym a.held ∙ held in
      let f : a.at ≡ i = ap (λ (o : Option (ℕ × Booking)). elim o [ Some q ↦ q.0 | None ↦ 0 ]) m in
      let within = within_size s (sound_of s h) a.at a.van a.there in
      let most = (sound_of s h).most in
      (ap (λ y. States.is_van y (i + 1)) a.after ∙ is_numbered_van s i (omega arith) most, ap needed a.after)
