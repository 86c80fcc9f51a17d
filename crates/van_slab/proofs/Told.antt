-- Shows what an itinerary tells of a trail, node by node.
use Rattle.std.proofs.Common.{◌≡◌, ℕ, zero, suc, ◌+◌, ◌-◌, ◌<◌, ◌≤◌, List, [], ◌∷◌, ◌++◌, map, length, take, get_or, replicate, Some, None, Option, sym, refl, ap, subst, ⊎_elim, ◌∙◌, arith}
use Rattle.std.proofs.lemmas.Bool.{cases_lt}
use Rattle.std.specs.Array.{IsFromFnResult, IsFromFnResultFrom}
use Rattle.std.specs.Fn.{Called}
use Rattle.std.specs.List.{slice_get}
use Rattle.std.specs.Option.{MatchOption, option_copied}
use Rattle.std.proofs.lemmas.Option.{same_Some, slice_get-get_or}
use Rattle.std.proofs.lemmas.List.{same_lists, get_or_append_left, get_or-append_right, get_or-replicate, get_or_default, get_or_past, length-map, length-append, length-replicate}
use denote.Ref.{Bor}
use denote.Param.Members.{Mut}
use Rattle.orders.specs.declared.Node.{Node}
use Rattle.van_slab.specs.declared.Visit.{Visit}
use Rattle.van_slab.specs.Trails.{trail_to, trail_cost, visit_of, visit_at, no_visit, told}

pub cost_push : (t : List Node) (x : Node) → trail_cost (t ++ (x ∷ [])) ≡ x.cost
cost_push [] x = refl
cost_push (y ∷ []) x = refl
cost_push (y ∷ z ∷ t) x = cost_push (z ∷ t) x

-- a trail to a node costs as much as the node
pub leaf_cost : (t : List Node) (x : Node) → trail_cost (trail_to t x) ≡ x.cost
leaf_cost t x = cost_push (take (x.depth - 1) t) x

-- the cost of a trail is that of the node at its end
cost_of_end : (t : List Node) (x : Node) → slice_get t (length t - 1) ≡ Some x → x.cost ≡ trail_cost t
cost_of_end [] x e = cc
cost_of_end (y ∷ []) x e = ap (λ (n : Node). n.cost) (same_Some x y (sym e))
cost_of_end (y ∷ z ∷ t) x e =
    let k : suc (length (z ∷ t) - 1) ≡ length (y ∷ z ∷ t) - 1 = omega arith in
    cost_of_end (z ∷ t) x (ap (slice_get (y ∷ z ∷ t)) k ∙ e)

pub last_cost : (t : List Node) (o : Option (Bor Node)) (r : ℕ) → option_copied o ≡ slice_get t (length t - 1) →
    MatchOption o (r ≡ 0) (λ x. r ≡ x.now.cost) → r ≡ trail_cost t
last_cost [] None r e h = h
last_cost (y ∷ t) None r e h = let s = slice_get-get_or (y ∷ t) (length (y ∷ t) - 1) y (omega arith) in cc
last_cost t (Some x) r e h = h ∙ cost_of_end t x.now (sym e)

-- what calls that all give h make of the indices from i on
each_from : {F B : Type 0} (g : Mut F (ℕ × Unit {0}) B) (h : ℕ → B) (f : F) → ((i : ℕ) (y : B) (q : F) → Called g f (i, tt) y q → (q ≡ f) × (y ≡ h i)) →
    (ys : List B) (i n : ℕ) → IsFromFnResultFrom g f ys i n → (k : ℕ) (e : B) → k < n → get_or ys (i + k) e ≡ h (i + k)
each_from g h f c ys i zero r k e l = absurd (omega arith)
each_from g h f c ys i (suc n) r zero e l =
    let z : i + 0 ≡ i = omega arith in
    ap (λ j. get_or ys j e) z ∙ r.2.1 e ∙ (c i r.1 r.0 r.3).1 ∙ ap h (sym z)
each_from g h f c ys i (suc n) r (suc k) e l =
    let z : i + suc k ≡ i + 1 + k = omega arith in
    let p = subst (λ d. IsFromFnResultFrom g d ys (i + 1) n) (c i r.1 r.0 r.3).0 r.4 in
    ap (λ j. get_or ys j e) z ∙ each_from g h f c ys (i + 1) n p k e (omega arith) ∙ ap h (sym z)

-- what the trail tells at an index stands there among the visits of an itinerary
visit_there : (t : List Node) (k : ℕ) (d : Visit) → length t ≤ 8 → k < 8 → visit_at t k ≡ get_or (map visit_of t ++ replicate (8 - length t) no_visit) k d
visit_there t k d l h =
    let m : length (map visit_of t) ≡ length t = length-map t visit_of in
    ⊎_elim
    (λ (b : k < length t). let q : k < length (map visit_of t) = omega arith in
    get_or_default (map visit_of t) k no_visit d q ∙ sym (get_or_append_left (map visit_of t) (replicate (8 - length t) no_visit) d k q))
    (λ (b : length t ≤ k). let q : length (map visit_of t) ≤ k = omega arith in
    get_or_past (map visit_of t) k no_visit q
    ∙ sym (get_or-append_right (map visit_of t) (replicate (8 - length t) no_visit) (length t) k d m b ∙ get_or-replicate (8 - length t) (k - length t) no_visit d (omega arith)))
    (cases_lt k (length t))

-- visits that are what the trail tells, index by index
pub visits_told : (t : List Node) {F : Type 0} (g : Mut F (ℕ × Unit {0}) Visit) (f : F) →
    ((i : ℕ) (y : Visit) (q : F) → Called g f (i, tt) y q → (q ≡ f) × (y ≡ visit_at t i)) → {ys : List Visit} → IsFromFnResult g f ys 8 →
    length t ≤ 8 → ys ≡ map visit_of t ++ replicate (8 - length t) no_visit
visits_told t g f c {ys} r l =
    let m : length (map visit_of t) ≡ length t = length-map t visit_of in
    same_lists _ _ (simp (length-append, length-replicate) (omega (arith, r.long)))
    (λ k d b. let h : k < 8 = omega (arith, r.long) in
    let z : k ≡ 0 + k = omega arith in
    ap (λ j. get_or ys j d) z ∙ each_from g (visit_at t) f c ys 0 8 r.each k d h ∙ ap (visit_at t) (sym z) ∙ visit_there t k d l h)

pub told_of : (t : List Node) {cost stops : ℕ} {visits : List Visit} → cost ≡ trail_cost t → stops ≡ length t →
    visits ≡ map visit_of t ++ replicate (8 - length t) no_visit → record { cost = cost; stops = stops; visits = visits } ≡ told t
told_of t c s v i = record { cost = c i; stops = s i; visits = v i }
