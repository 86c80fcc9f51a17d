-- Shows that what is picked from a list stands in it, and what a mapped answer was.
use Rattle.std.proofs.Common.{◌≡◌, ℕ, zero, suc, ◌≤◌, Bool, true, false, cond, leb, List, [], ◌∷◌, length, Some, None, Option, sym, refl, subst, inl, inr, arith}
use Rattle.std.specs.List.{slice_get}
use Rattle.std.specs.Option.{option_map}
use Rattle.orders.specs.declared.Node.{Node}
use Rattle.orders.specs.Bookings.{In}
use Rattle.orders.proofs.Basics.{none_some, some_same}
use Rattle.van_slab.specs.Trails.{trail_cost, cheaper_trail, cheapest_trail}

pub nth_none : {X : Type 0} (xs : List X) (i : ℕ) → slice_get xs i ≡ None → length xs ≤ i
nth_none [] i e = omega arith
nth_none (x ∷ xs) zero e = absurd (none_some _ _ e refl)
nth_none (x ∷ xs) (suc i) e = let h = nth_none xs i e in omega arith

pub nth_in : {X : Type 0} (xs : List X) (i : ℕ) (x : X) → slice_get xs i ≡ Some x → In x xs
nth_in [] i x e = absurd (none_some _ _ refl e)
nth_in (y ∷ xs) zero x e = inl (sym (some_same _ y x refl e))
nth_in (y ∷ xs) (suc i) x e = inr (nth_in xs i x e)

pub cheapest_in : (ts : List (List Node)) (t : List Node) → cheapest_trail ts ≡ Some t → In t ts
cheapest_in [] t e = absurd (none_some _ _ refl e)
cheapest_in (u ∷ ts) t e = subst (λ x. In x (u ∷ ts)) (some_same _ _ t refl e) (by_rest (cheapest_trail ts) (cheapest_in ts))
  where
    by_test : (v : List Node) (b : Bool) → In v ts → In (cond b u v) (u ∷ ts)
    by_test v true i = inl refl
    by_test v false i = inr i

    by_rest : (o : Option (List Node)) → ((v : List Node) → o ≡ Some v → In v ts) → In (cheaper_trail u o) (u ∷ ts)
    by_rest None ih = inl refl
    by_rest (Some v) ih = by_test v (leb (trail_cost u) (trail_cost v)) (ih v refl)

-- what a mapped answer was
pub mapped_some : {X Y : Type 0} (f : X → Y) (o : Option X) (y : Y) → option_map f o ≡ Some y → (x : X) × (o ≡ Some x) × (y ≡ f x)
mapped_some f None y e = absurd (none_some _ _ refl e)
mapped_some f (Some x) y e = (x, refl, sym (some_same _ (f x) y refl e))

pub mapped_none : {X Y : Type 0} (f : X → Y) (o : Option X) → option_map f o ≡ None → o ≡ None
mapped_none f None e = refl
mapped_none f (Some x) e = absurd (none_some _ _ e refl)
