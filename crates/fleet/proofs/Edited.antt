-- Shows what holds of every open booking once one has come, has gone, or has been served.
use Rattle.std.proofs.Common.{ℕ, eqb, ltb, List, [], ◌∷◌, ◌++◌, sym, refl, subst, inl, inr}
use Rattle.std.specs.List.{AllByRecursion}
use Rattle.std.proofs.lemmas.Bool.{cond_both}
use Rattle.orders.specs.declared.Booking.{Booking}
use Rattle.orders.specs.declared.Booking.TheVariants.{Waiting, Aboard}
use Rattle.orders.specs.declared.Journey.{Journey}
use Rattle.orders.specs.declared.Stop.{Stop}
use Rattle.orders.specs.Bookings.{In, number_of, remaining, served, insert, remove}

-- what holds of each element holds of one of them
pub all_in : {X : Type 0} (P : X → Type 0) (xs : List X) → AllByRecursion P xs → (x : X) → In x xs → P x
all_in P [] a x i = absurd i
all_in P (y ∷ ys) a x (inl e) = subst P (sym e) a.0
all_in P (y ∷ ys) a x (inr i) = all_in P ys a.1 x i

-- what holds of each one of them holds of all
pub all_from_in : {X : Type 0} (P : X → Type 0) (xs : List X) → ((x : X) → In x xs → P x) → AllByRecursion P xs
all_from_in P [] h = tt
all_from_in P (y ∷ ys) h = (h y (inl refl), all_from_in P ys (λ x i. h x (inr i)))

-- what holds of each open booking, P
module _ (P : Booking → Type 0) where
  -- with one more
  pub all_insert : (b : Booking) (bs : List Booking) → P b → AllByRecursion P bs → AllByRecursion P (insert b bs)
  all_insert b [] p a = (p, tt)
  all_insert b (c ∷ cs) p a = cond_both (ltb (number_of b) (number_of c)) _ _ (AllByRecursion P) (λ e. (p, a)) (λ e. (a.0, all_insert b cs p a.1))

  -- with one less
  pub all_remove : (n : ℕ) (bs : List Booking) → AllByRecursion P bs → AllByRecursion P (remove n bs)
  all_remove n [] a = tt
  all_remove n (b ∷ bs) a = cond_both (eqb (number_of b) n) _ _ (AllByRecursion P) (λ e. a.1) (λ e. (a.0, all_remove n bs a.1))

  -- once a stop is served: where P holds of a booking that waits, it must hold of the same one aboard
  pub all_served : (d n : ℕ) → ((p : Stop) (j : Journey) → P (Waiting p j) → P (Aboard d j)) → (bs : List Booking) → AllByRecursion P bs → AllByRecursion P (served d n bs)
  all_served d n up [] a = tt
  all_served d n up (b ∷ bs) a = cond_both (eqb (number_of b) n) _ _ (AllByRecursion P) (λ e. now b a.0) (λ e. (a.0, all_served d n up bs a.1))
    where
      now : (c : Booking) → P c → AllByRecursion P (remaining d c ++ bs)
      now (Waiting p j) h = (up p j h, a.1)
      now (Aboard since j) h = a.1
