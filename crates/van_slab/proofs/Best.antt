-- Shows that the best so far becomes the first order of least cost.
use Rattle.std.proofs.Common.{◌≡◌, ◌<◌, ◌≤◌, Bool, true, false, cond, ltb, leb, List, [], ◌∷◌, Some, None, Option, sym, refl, ap, ◌∙◌, arith}
use Rattle.std.specs.Option.{option_map}
use Rattle.std.proofs.lemmas.Bool.{leb-true, leb-false, le-leb, lt-leb, ltb-true, ltb-false, cond-true, cond-false}
use Rattle.orders.specs.declared.Node.{Node}
use Rattle.van_slab.specs.declared.Itinerary.{Itinerary}
use Rattle.van_slab.specs.Trails.{trail_cost, cheaper_trail, cheapest_trail, told, beats}

-- the best once all these trails are read, from the best so far
abbrev pub running : Option Itinerary → List (List Node) → Option Itinerary
running best [] = best
running best (t ∷ ts) = running (cond (beats (trail_cost t) best) (Some (told t)) best) ts

cheaper_least : (t : List Node) (r : Option (List Node)) → trail_cost (cheaper_trail t r) ≤ trail_cost t
cheaper_least t None = omega arith
cheaper_least t (Some u) = by_test (leb (trail_cost t) (trail_cost u)) refl
  where
    by_test : (b : Bool) → leb (trail_cost t) (trail_cost u) ≡ b → trail_cost (cond b t u) ≤ trail_cost t
    by_test true e = omega arith
    by_test false e = omega (arith, leb-false (trail_cost t) (trail_cost u) e)

-- b comes before t and the trails behind it: a cheaper t takes its place, and no other
cheaper_takes : (b t : List Node) (r : Option (List Node)) → trail_cost t < trail_cost b →
    cheaper_trail t r ≡ cheaper_trail b (Some (cheaper_trail t r))
cheaper_takes b t r h = sym (cond-false _ _ _ (lt-leb (trail_cost b) (trail_cost (cheaper_trail t r)) (omega (arith, cheaper_least t r))))

cheaper_keeps : (b t : List Node) (r : Option (List Node)) → trail_cost b ≤ trail_cost t →
    cheaper_trail b r ≡ cheaper_trail b (Some (cheaper_trail t r))
cheaper_keeps b t None h = sym (cond-true _ _ _ (le-leb (trail_cost b) (trail_cost t) h))
cheaper_keeps b t (Some u) h = by_test (leb (trail_cost t) (trail_cost u)) refl
  where
    by_test : (z : Bool) → leb (trail_cost t) (trail_cost u) ≡ z → cheaper_trail b (Some u) ≡ cheaper_trail b (Some (cond z t u))
    by_test true e =
        cond-true _ _ _ (le-leb (trail_cost b) (trail_cost u) (omega (arith, leb-true (trail_cost t) (trail_cost u) e)))
        ∙ sym (cond-true _ _ _ (le-leb (trail_cost b) (trail_cost t) h))
    by_test false e = refl

-- the cheapest of a trail, if there is one, and of the trails behind it
abbrev with_first : Option (List Node) → Option (List Node) → Option (List Node)
with_first None r = r
with_first (Some b) r = Some (cheaper_trail b r)

running_from : (ts : List (List Node)) (o : Option (List Node)) → running (option_map told o) ts ≡ option_map told (with_first o (cheapest_trail ts))
running_from [] None = refl
running_from [] (Some b) = refl
running_from (t ∷ ts) None = running_from ts (Some t)
running_from (t ∷ ts) (Some b) = by_test (λ o. running_from ts o) (ltb (trail_cost t) (trail_cost b)) refl
  where
    by_test : ((o : Option (List Node)) → running (option_map told o) ts ≡ option_map told (with_first o (cheapest_trail ts))) →
        (z : Bool) → ltb (trail_cost t) (trail_cost b) ≡ z →
        running (cond z (Some (told t)) (Some (told b))) ts ≡ Some (told (cheaper_trail b (Some (cheaper_trail t (cheapest_trail ts)))))
    by_test ih true e = ih (Some t) ∙ ap (λ u. Some (told u)) (cheaper_takes b t (cheapest_trail ts) (ltb-true _ _ e))
    by_test ih false e = ih (Some b) ∙ ap (λ u. Some (told u)) (cheaper_keeps b t (cheapest_trail ts) (ltb-false _ _ e))

-- the best so far becomes the first of least cost
pub running_cheapest : (ts : List (List Node)) → running None ts ≡ option_map told (cheapest_trail ts)
running_cheapest ts = running_from ts None
