-- Shows small facts on options, tests, elements of lists and sorted lists.
use Rattle.std.proofs.Common.{◌≡◌, ℕ, Bool, true, false, cond, ◌⊎◌, List, [], ◌∷◌, ◌++◌, map, Some, None, Option, sym, refl, ap, subst, inl, inr, ⊎_elim, arith}
use Rattle.orders.specs.Bookings.{In}
use Rattle.orders.specs.Listings.{Sorted}

pub none_some : {X : Type 0} (o : Option X) (x : X) → o ≡ None → o ≡ Some x → ⊥
none_some o x p q = let z : ◌≡◌ {A = ℕ} 0 1 = cc in omega arith

pub some_same : {X : Type 0} (o : Option X) (x y : X) → o ≡ Some x → o ≡ Some y → x ≡ y
some_same o x y p q = cc

-- two answers of one test
pub cond_two : {A B : Type 0} (b : Bool) (x y : A) (x' y' : B) (P : A → B → Type 0) → (b ≡ true → P x x') → (b ≡ false → P y y') →
    P (cond b x y) (cond b x' y')
cond_two true x y x' y' P p q = p refl
cond_two false x y x' y' P p q = q refl

module _ {X : Type 0} where
  pub in_left : (x : X) (xs ys : List X) → In x xs → In x (xs ++ ys)
  in_left x [] ys i = absurd i
  in_left x (y ∷ xs) ys (inl e) = inl e
  in_left x (y ∷ xs) ys (inr i) = inr (in_left x xs ys i)

  pub in_right : (x : X) (xs ys : List X) → In x ys → In x (xs ++ ys)
  in_right x [] ys i = i
  in_right x (y ∷ xs) ys i = inr (in_right x xs ys i)

  pub in_append : (x : X) (xs ys : List X) → In x (xs ++ ys) → In x xs ⊎ In x ys
  in_append x [] ys i = inr i
  in_append x (y ∷ xs) ys (inl e) = inl (inl e)
  in_append x (y ∷ xs) ys (inr i) = ⊎_elim (λ j. inl (inr j)) (λ j. inr j) (in_append x xs ys i)

  pub nil_cons : (x : X) (xs : List X) → [] ≡ x ∷ xs → ⊥
  nil_cons x xs e = let z : ◌≡◌ {A = ℕ} 0 1 = cc in omega arith

  pub in_nothing : (x : X) (xs : List X) → In x xs → xs ≡ [] → ⊥
  in_nothing x [] i e = i
  in_nothing x (y ∷ xs) i e = let z : ◌≡◌ {A = ℕ} 0 1 = cc in omega arith

  pub sorted_append : (R : X → X → Type 0) (xs ys : List X) → Sorted R xs → Sorted R ys → ((x y : X) → In x xs → In y ys → R x y) →
      Sorted R (xs ++ ys)
  sorted_append R [] ys r s h = s
  sorted_append R (x ∷ xs) ys r s h =
      (λ z i. ⊎_elim (λ j. r.0 z j) (λ j. h x z (inl refl) j) (in_append z xs ys i), sorted_append R xs ys r.1 s (λ a b i j. h a b (inr i) j))

module _ {X Y : Type 0} (f : X → Y) where
  pub in_map : (x : X) (xs : List X) → In x xs → In (f x) (map f xs)
  in_map x [] i = absurd i
  in_map x (y ∷ xs) (inl e) = inl (ap f e)
  in_map x (y ∷ xs) (inr i) = inr (in_map x xs i)

  pub of_map : (y : Y) (xs : List X) → In y (map f xs) → (x : X) × In x xs × (y ≡ f x)
  of_map y [] i = absurd i
  of_map y (x ∷ xs) (inl e) = (x, inl refl, e)
  of_map y (x ∷ xs) (inr i) = let r = of_map y xs i in (r.0, inr r.1, r.2)

  pub map_append : (xs ys : List X) → map f (xs ++ ys) ≡ map f xs ++ map f ys
  map_append [] ys = refl
  map_append (x ∷ xs) ys = ap (λ l. f x ∷ l) (map_append xs ys)

  pub sorted_map : (R : X → X → Type 0) (S : Y → Y → Type 0) → ((a b : X) → R a b → S (f a) (f b)) → (xs : List X) → Sorted R xs →
      Sorted S (map f xs)
  sorted_map R S h [] r = tt
  sorted_map R S h (x ∷ xs) r =
      (λ y i. let m = of_map y xs i in subst (S (f x)) (sym m.2) (h x m.0 (r.0 m.0 m.1)), sorted_map R S h xs r.1)
