-- Shows that node memory follows the clock: van after van that waits is pruned.
use Rattle.std.proofs.Common.{◌≡◌, ℕ, ◌+◌, ◌-◌, ◌<◌, ◌≤◌, Bool, true, false, cond, ◌&&◌, ltb, List, length, get_or, Some, None, Ok, Option, sym, refl, ap, ◌∙◌, subst, ⊎_elim, arith}
use Rattle.std.proofs.lemmas.List.{get_or-map}
use Rattle.std.proofs.lemmas.Bool.{and_parts, ltb-true, cases_eq, cases_Bool, both_ways, cond-true}
use Rattle.orders.specs.declared.Node.{Node}
use Rattle.orders.specs.Rules.{Rules}
use Rattle.orders.specs.Slabs.{slab}
use Rattle.growth.specs.declared.guide.Fresh.TheVariants.{Nobody}
use Rattle.growth.specs.Changes.{clock}
use Rattle.growth.proofs.Places.{other_slab}
use Rattle.fleet.specs.declared.state.State.{State}
use Rattle.fleet.specs.declared.state.Van.{Van}
use Rattle.fleet.specs.States
use Rattle.fleet.specs.SoundTest.{is_sound}
use Rattle.fleet.proofs.Accepted as accepted
use Rattle.fleet.proofs.Soundness.{sound_of, sound_at}
use Rattle.outcomes.specs.Settled.{slab_nodes, needed, slab_at, van_row, van_slab, Settled, Writes, Regrown, has_tree, waits, PrunedTo, waiting_vans}
use Rattle.outcomes.proofs.Written.{same_beyond}
use Rattle.outcomes.proofs.Moved.{no_tree}

-- a van with another time
abbrev at_second : Van → ℕ → Van
at_second w second = record { place = w.place; second = second; driven = w.driven; bookings = w.bookings }

-- a van that waits has a tree, and has that time then
later : (time : ℕ) (o : Option Van) → waits time o ≡ true → (w : Van) × (o ≡ Some w) × (w.second < time) × (States.waited time o ≡ Some (at_second w time)) × (has_tree w ≡ true)
later time None h = absurd (let z : ◌≡◌ {A = ℕ} 0 1 = cc in omega arith)
later time (Some w) h =
    let p = and_parts (ltb w.second time) (has_tree w) h in
    (w, refl, ltb-true _ _ p.0, ap (λ second. Some (at_second w second)) (cond-true (ltb w.second time) time w.second p.0), p.1)

module _ (g : Rules) (s s' : State) (h : is_sound s ≡ true) (time : ℕ) (moved : States.clock_call s time ≡ Ok s') (nodes : List Node) (room : needed s ≤ length nodes) where
  abbrev a : accepted.Clocked s time s'
  a = accepted.clock_accepted s time s' moved

  -- a van after the clock has moved
  van_then : (i : ℕ) → i < s.size → get_or s'.vans i None ≡ States.waited time (get_or s.vans i None)
  van_then i l =
      let k = sound_of s h in
      let m = k.most in
      let n = k.long in
      ap (λ (x : State). get_or x.vans i None) a.after ∙ get_or-map (States.waited time) s.vans i None None (omega arith)

  -- how many nodes a slab has, and how many are needed, stays
  pub clock_keeps : (s'.size ≡ s.size) × (slab_nodes s' ≡ slab_nodes s) × (needed s' ≡ needed s)
  clock_keeps = (ap (λ (x : State). x.size) a.after, ap slab_nodes a.after, ap needed a.after)

  -- a van that does not wait has the tree that it had
  still : (o : Option Van) → waits time o ≡ false → van_row g (States.waited time o) ≡ van_row g o
  still None w = refl
  still (Some w) e = by (ltb w.second time) refl e
    where
      by : (t : Bool) → ltb w.second time ≡ t → t && has_tree w ≡ false → van_row g (Some (at_second w (cond t time w.second))) ≡ van_row g (Some w)
      by true t f = no_tree g s h nodes (at_second w time) f ∙ sym (no_tree g s h nodes w f)
      by false t f = refl

  pub pruned_none : PrunedTo g s s' time nodes 0 nodes
  pruned_none = record { done = λ x i l. absurd (omega arith); others = λ i l w. refl; rest = λ i k l. refl; work = λ x. x.work; beyond = refl; long = refl }

  module _ (i : ℕ) (l : i < s.size) (mid : List Node) (p : PrunedTo g s s' time nodes i mid) where
    -- the next van does not wait
    pub pruned_past : waits time (get_or s.vans i None) ≡ false → PrunedTo g s s' time nodes (i + 1) mid
    pruned_past w = record {
      done = λ x j k. ⊎_elim
          (λ (e : j ≡ i). subst (λ y. slab_at s mid y ≡ van_slab g s' y) (sym e)
          (p.rest i (omega arith) l ∙ x.each i l ∙ (λ y. slab (sym clock_keeps.1 y) ((sym (still (get_or s.vans i None) w) ∙ ap (van_row g) (sym (van_then i l))) y))))
          (λ (n : j ≡ i → ⊥). p.done x j (omega arith))
          (cases_eq j i);
      others = p.others;
      rest = λ j k m. p.rest j (omega arith) m;
      work = p.work;
      beyond = p.beyond;
      long = p.long;
    }

    -- the next van waits, and its tree is pruned
    pub pruned_more : waits time (get_or s.vans i None) ≡ true → (after : List Node) → length after ≡ length mid →
        ((w : Van) → States.van_at s' (i + 1) ≡ Some w → Regrown g s' ((i + 1) - 1) Nobody (slab_at s' mid ((i + 1) - 1)) w mid after) → PrunedTo g s s' time nodes (i + 1) after
    pruned_more t after same r = by (later time (get_or s.vans i None) t)
      where
        by : (w : Van) × (get_or s.vans i None ≡ Some w) × (w.second < time) × (States.waited time (get_or s.vans i None) ≡ Some (at_second w time)) × (has_tree w ≡ true) →
            PrunedTo g s s' time nodes (i + 1) after
        by q =
            let w = q.0 in
            let then = at_second w time in
            let at : (i + 1) - 1 ≡ i = omega arith in
            let stands : States.van_at s' (i + 1) ≡ Some then = ap (λ j. get_or s'.vans j None) at ∙ van_then i l ∙ q.3 in
            let grown : Regrown g (States.clocked s time) i Nobody (slab_at s mid i) then mid after =
            subst (λ x. Regrown g x i Nobody (slab_at x mid i) then mid after) a.after
            (subst (λ j. Regrown g s' j Nobody (slab_at s' mid j) then mid after) at (r then stands)) in
            let sound = sound_at s (sound_of s h) i w q.1 in
            let before = q.2 in
            let long = p.long in
            record {
              done = λ x j k. ⊎_elim
                  (λ (e : j ≡ i). subst (λ y. slab_at s after y ≡ van_slab g s' y) (sym e)
                  (grown.exact (clock (slab_nodes s) (States.van_walk w) time (p.rest i (omega arith) l ∙ x.each i l ∙ ap (λ o. slab (slab_nodes s) (van_row g o)) q.1) sound.its.ascending (omega arith) refl refl)
                  ∙ (λ y. slab (sym clock_keeps.1 y) (van_row g ((sym q.3 ∙ sym (van_then i l)) y)))))
                  (λ (n : j ≡ i → ⊥). other_slab mid _ after i s.size (slab_nodes s) j grown.replaced (omega arith) n ∙ p.done x j (omega arith))
                  (cases_eq j i);
              others = λ j m f. ⊎_elim
                  (λ (e : j ≡ i). absurd (both_ways _ (ap (λ k. waits time (get_or s.vans k None)) (sym e) ∙ f) t))
                  (λ (n : j ≡ i → ⊥). other_slab mid _ after i s.size (slab_nodes s) j grown.replaced m n ∙ p.others j m f)
                  (cases_eq j i);
              rest = λ j k m. other_slab mid _ after i s.size (slab_nodes s) j grown.replaced m (λ e. omega arith) ∙ p.rest j (omega arith) m;
              work = λ x. grown.replaced.work;
              beyond = same_beyond mid after _ i s.size (slab_nodes s) same (omega arith) grown.replaced ∙ p.beyond;
              long = same ∙ p.long;
            }

  -- all vans have followed
  pub clock_written : (nodes' : List Node) → PrunedTo g s s' time nodes s.size nodes' → Writes g s nodes (waiting_vans s time) true s' nodes'
  clock_written nodes' p = record {
    settled = λ x. subst (λ y. Settled g y nodes') (sym a.after) (record {
      room = let l = p.long in omega arith;
      each = λ i l. (p.done x i l ∙ ap (λ y. van_slab g y i) a.after);
      work = p.work x;
    });
    others = λ i l no. ⊎_elim
        (λ (t : waits time (get_or s.vans i None) ≡ true). let q = later time (get_or s.vans i None) t in absurd (no (q.0, q.1, q.2, q.4)))
        (λ (f : waits time (get_or s.vans i None) ≡ false). p.others i l f)
        (cases_Bool (waits time (get_or s.vans i None)));
    beyond = p.beyond;
    refused = λ e. absurd (let z : ◌≡◌ {A = ℕ} 0 1 = cc in omega arith);
  }
