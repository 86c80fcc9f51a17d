-- Shows what trying the i-th booking of a position adds to what grows from it.
use denote.Ref.{Bor}
use Rattle.std.proofs.Common.{◌≡◌, ℕ, ◌+◌, ◌<◌, ◌≤◌, false, List, ◌∷◌, length, get_or, drop, Some, None, Option, sym, refl, ap, ◌∙◌, subst, arith}
use Rattle.std.proofs.lemmas.List.{drop_more, drop_all}
use Rattle.orders.specs.declared.Booking.{Booking}
use Rattle.orders.specs.declared.Node.{Node}
use Rattle.orders.specs.Rules.{Rules}
use Rattle.orders.specs.Bookings.{number_of, stop_kind}
use Rattle.orders.specs.Growth.{guide_row}
use Rattle.orders.specs.Trees.{stop}
use Rattle.growth.specs.declared.walk.Position.{Position}
use Rattle.growth.specs.declared.walk.Visit.{Visit}
use Rattle.growth.specs.declared.guide.Fresh.{Fresh}
use Rattle.growth.specs.declared.tally.Branch.{Branch}
use Rattle.growth.specs.declared.tally.Root.{Root}
use Rattle.growth.specs.declared.tally.Tally.{Tally}
use Rattle.growth.specs.Positions.{compact, walk_of, Sound, Visited, Stepped}
use Rattle.growth.specs.Guides.{new_to, grown, grown_row, grown_from}
use Rattle.growth.specs.Roots.{from_here, from_next, LeadsOn, Branches, IsRoot, Grows}
use Rattle.growth.specs.Surveys.{none_open, Tallies}
use Rattle.orders.proofs.Basics.{some_same}
use Rattle.growth.proofs.Branched.{not_guided, not_allowed, led_on}
use Rattle.growth.proofs.Counts.{size, length_nodes, grown_fits, few_open}
use Rattle.growth.proofs.Tallies.{grown_all, Tallied, tallied_all, dead_end, one_stop}

-- no tree has more nodes than the largest slab
most : (g : Rules) (fresh : Fresh) (old : List Node) (p : Position) → Sound p → length (grown_row g fresh old (walk_of p)) ≤ 7364
most g fresh old p sound = grown_fits g fresh old 4 (walk_of p) sound.ascending (few_open p sound) (omega arith)

module _ (g : Rules) (fresh : Fresh) (old : List Node) (p : Position) where
  -- so neither has a root too many below it, nor a tree so far too many in all
  pub root_small : {i : ℕ} (x : Root) → IsRoot g fresh old p i x → x.below ≤ 7364
  root_small x root = let m = most g fresh x.old.now x.visit.position root.sound in let c = root.below.count in omega arith

  pub small_so_far : Sound p → (bs : List Booking) (count : ℕ) (least : Option ℕ) → Tallied g fresh old (walk_of p) bs count least → count ≤ 7364
  small_so_far sound bs count least t =
      let m = most g fresh old p sound in
      let c = t.0 in
      let e = ap size (grown_all g fresh old (walk_of p)) in
      let l = length_nodes (grown g fresh old (walk_of p)) 1 in
      omega arith

  -- all bookings are tried
  pub all_tried : Sound p → (i count : ℕ) (least : Option ℕ) → false ≡ none_open (compact p.bookings) → 4 ≤ i → Tallied g fresh old (walk_of p) (compact (drop i p.bookings)) count least →
      Tallies g fresh old (walk_of p) (record { count = count; least = least })
  all_tried sound i count least o le t =
      tallied_all g fresh old (walk_of p) (compact (drop i p.bookings)) count least o
      (ap compact (drop_all i p.bookings (let f = sound.four in omega arith))) t

module _ (g : Rules) (fresh : Fresh) (old : List Node) (p : Position) (sound : Sound p) (i : ℕ) (lt : i < 4) where
  abbrev Same : Type 0
  Same = from_here g fresh old p i ≡ from_next g fresh old p i

  within : i < length p.bookings
  within = let f = sound.four in omega arith

  pub nothing_grows : (x : Option Root) → x ≡ None → Same → Grows g fresh old p i x
  nothing_grows x e same = subst (Grows g fresh old p i) (sym e) same

  pub no_branch : (x : Option Branch) → x ≡ None → Same → Branches g fresh old p i x
  no_branch x e same = subst (Branches g fresh old p i) (sym e) same

  module _ (b : Booking) (its : get_or p.bookings i None ≡ Some b) (n : ℕ) (n_is : n ≡ number_of b) where
    abbrev later : List Booking
    later = compact (drop (i + 1) p.bookings)

    first : compact (drop i p.bookings) ≡ b ∷ later
    first = ap compact (drop_more p.bookings i None within) ∙ ap (λ o. compact (o ∷ drop (i + 1) p.bookings)) its

    -- the old tree does not have its next stop
    pub unguided : guide_row (new_to fresh) n old ≡ None → Same
    unguided e = ap (grown_from g fresh old (walk_of p)) first ∙ not_guided g fresh old (walk_of p) b n n_is e later

    module _ (on : List Node) (e : guide_row (new_to fresh) n old ≡ Some on) where
      -- it may not be served next
      pub refused : Stepped g p (get_or p.bookings i None) None → Same
      refused s = ap (grown_from g fresh old (walk_of p)) first ∙ not_allowed g fresh old (walk_of p) b n n_is on e (subst (λ o. Stepped g p o None) its s) later

      -- it is visited next
      pub leads_on : (v : Visit) → Stepped g p (get_or p.bookings i None) (Some v) → (h : Bor (List Node)) → h.now ≡ on → LeadsOn g fresh old p i (record { visit = v; old = h })
      leads_on v stepped h lent = record {
        booking = b;
        its = its;
        guided = ap (λ m. guide_row (new_to fresh) m old) (sym n_is) ∙ e ∙ ap Some (sym lent);
        visited = subst (λ o. Stepped g p o (Some v)) its stepped;
      }

      module _ (v : Visit) (visited : Visited g p b v) (r : Tally) (tallies : Tallies g fresh on (walk_of v.position) r) where
        -- no order goes on from it
        pub stuck : r.least ≡ None → Same
        stuck none =
            dead_end g fresh old (walk_of p) b v.second (compact (drop i p.bookings)) later first (walk_of v.position) on r tallies
            (led_on g fresh old (walk_of p) b n n_is on e (walk_of v.position) v.second visited.onward visited.second visited.fewer) none

        -- it is a root
        pub rooted : (cost : ℕ) → r.least ≡ Some cost → (h : Bor (List Node)) → h.now ≡ on → IsRoot g fresh old p i (record { booking = b; visit = v; old = h; below = r.count; least = cost })
        rooted cost some h lent = record {
          stands = subst (λ o. from_here g fresh old p i ≡ stop (number_of b) (stop_kind b) v.second v.position.cost (grown g fresh o (walk_of v.position)) (from_next g fresh old p i)) (sym lent)
              (one_stop g fresh old (walk_of p) b v.second (compact (drop i p.bookings)) later first (walk_of v.position) on r tallies
              (led_on g fresh old (walk_of p) b n n_is on e (walk_of v.position) v.second visited.onward visited.second visited.fewer) cost some);
          sound = visited.sound;
          fewer = visited.fewer;
          below = subst (λ o. Tallies g fresh o (walk_of v.position) (record { count = r.count; least = Some cost })) (sym lent) (record { count = tallies.count; least = sym some ∙ tallies.least });
        }

  -- the same, of what leads on
  pub stuck_there : (x : Branch) → LeadsOn g fresh old p i x → (r : Tally) → Tallies g fresh x.old.now (walk_of x.visit.position) r → r.least ≡ None → Same
  stuck_there x l r tallies none = stuck l.booking l.its (number_of l.booking) refl x.old.now l.guided x.visit l.visited r tallies none

  pub rooted_there : (x : Branch) → LeadsOn g fresh old p i x → (b : Booking) → get_or p.bookings i None ≡ Some b → (r : Tally) → Tallies g fresh x.old.now (walk_of x.visit.position) r →
      (cost : ℕ) → r.least ≡ Some cost → IsRoot g fresh old p i (record { booking = b; visit = x.visit; old = x.old; below = r.count; least = cost })
  rooted_there x l b its r tallies cost some =
      subst (λ c. IsRoot g fresh old p i (record { booking = c; visit = x.visit; old = x.old; below = r.count; least = cost })) (some_same _ l.booking b l.its its)
      (rooted l.booking l.its (number_of l.booking) refl x.old.now l.guided x.visit l.visited r tallies cost some x.old refl)
