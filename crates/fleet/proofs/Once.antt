-- Shows what the test tells that no booking's number is open twice.
use Rattle.std.proofs.Common.{◌≡◌, ℕ, zero, suc, true, not, eqb, List, [], ◌∷◌, ◌++◌, map, get_or, None, Option, refl, ap, subst, inl, inr, ⊎_elim, arith}
use Rattle.std.proofs.lemmas.Bool.{and_parts, and_from, not-true, not_from_false, eq-eqb, ne_eqb, both_ways}
use Rattle.orders.specs.declared.Booking.{Booking}
use Rattle.orders.specs.Bookings.{In, number_of, Above, Ascending}
use Rattle.orders.proofs.Basics.{in_left, in_right, in_append}
use Rattle.fleet.specs.declared.state.Van.{Van}
use Rattle.fleet.specs.SoundTest.{numbers_on, open_numbers, lacks, is_once}

-- what the test of a missing number tells, and the test from it
lacking : (n : ℕ) (ns : List ℕ) → lacks n ns ≡ true → In n ns → ⊥
lacking n [] h i = i
lacking n (m ∷ ms) h (inl e) = both_ways _ (not-true _ (and_parts (not (eqb n m)) _ h).0) (eq-eqb n m e)
lacking n (m ∷ ms) h (inr i) = lacking n ms (and_parts (not (eqb n m)) _ h).1 i

lacks_test : (n : ℕ) (ns : List ℕ) → (In n ns → ⊥) → lacks n ns ≡ true
lacks_test n [] h = refl
lacks_test n (m ∷ ms) h = and_from _ _ (not_from_false _ (ne_eqb n m (λ e. h (inl e)))) (lacks_test n ms (λ i. h (inr i)))

-- of two rows of numbers, one after the other, in which none stands twice: so it is in the second, and no number is in both
parted : (ms ns : List ℕ) → is_once (ms ++ ns) ≡ true → (is_once ns ≡ true) × ((n : ℕ) → In n ms → In n ns → ⊥)
parted [] ns h = (h, λ n i j. i)
parted (m ∷ ms) ns h =
    let p = and_parts (lacks m (ms ++ ns)) _ h in
    let q = parted ms ns p.1 in
    (q.0, λ n i j. ⊎_elim (λ (e : n ≡ m). lacking m (ms ++ ns) p.0 (in_right m ms ns (subst (λ x. In x ns) e j))) (λ (k : In n ms). q.1 n k j) i)

-- two such rows that have no number in common
joined_once : (ms ns : List ℕ) → is_once ms ≡ true → is_once ns ≡ true → ((n : ℕ) → In n ms → In n ns → ⊥) → is_once (ms ++ ns) ≡ true
joined_once [] ns h k apart = k
joined_once (m ∷ ms) ns h k apart =
    let p = and_parts (lacks m ms) _ h in
    and_from _ _
    (lacks_test m (ms ++ ns) (λ i. ⊎_elim (lacking m ms p.0) (apart m (inl refl)) (in_append m ms ns i)))
    (joined_once ms ns p.1 k (λ n i. apart n (inr i)))

-- numbers that ascend are there once
pub ascending_once : (bs : List Booking) → Ascending bs → is_once (map number_of bs) ≡ true
ascending_once [] a = refl
ascending_once (b ∷ bs) a = and_from _ _ (above_lacks (number_of b) bs a.0) (ascending_once bs a.1)
  where
    above_lacks : (n : ℕ) (cs : List Booking) → Above n cs → lacks n (map number_of cs) ≡ true
    above_lacks n [] h = refl
    above_lacks n (c ∷ cs) h = and_from _ _ (not_from_false _ (ne_eqb n (number_of c) (let l = h.0 in λ e. omega arith))) (above_lacks n cs h.1)

-- what is open on a van is open
open_on_van : (n : ℕ) (os : List (Option Van)) (i : ℕ) → In n (numbers_on (get_or os i None)) → In n (open_numbers os)
open_on_van n [] i h = h
open_on_van n (o ∷ os) zero h = in_left n (numbers_on o) (open_numbers os) h
open_on_van n (o ∷ os) (suc i) h = in_right n (numbers_on o) (open_numbers os) (open_on_van n os i h)

-- what is open is open on a van
on_some_van : (n : ℕ) (os : List (Option Van)) → In n (open_numbers os) → (i : ℕ) × In n (numbers_on (get_or os i None))
on_some_van n [] h = absurd h
on_some_van n (o ∷ os) h =
    ⊎_elim (λ (k : In n (numbers_on o)). (0, k)) (λ (k : In n (open_numbers os)). let r = on_some_van n os k in (suc r.0, r.1)) (in_append n (numbers_on o) (open_numbers os) h)

-- a number is open on one van at most
abbrev pub Once : List (Option Van) → Type 0
Once os = (n i j : ℕ) → In n (numbers_on (get_or os i None)) → In n (numbers_on (get_or os j None)) → i ≡ j

-- what the test tells
pub once_of : (os : List (Option Van)) → is_once (open_numbers os) ≡ true → Once os
once_of [] h n i j p q = absurd p
once_of (o ∷ os) h n zero zero p q = refl
once_of (o ∷ os) h n zero (suc j) p q = absurd ((parted (numbers_on o) (open_numbers os) h).1 n p (open_on_van n os j q))
once_of (o ∷ os) h n (suc i) zero p q = absurd ((parted (numbers_on o) (open_numbers os) h).1 n q (open_on_van n os i p))
once_of (o ∷ os) h n (suc i) (suc j) p q = ap (λ k. suc k) (once_of os (parted (numbers_on o) (open_numbers os) h).0 n i j p q)

-- the test, where no number is open twice on a van or on two vans
pub once_test : (os : List (Option Van)) → ((i : ℕ) → is_once (numbers_on (get_or os i None)) ≡ true) → Once os → is_once (open_numbers os) ≡ true
once_test [] each once = refl
once_test (o ∷ os) each once =
    joined_once (numbers_on o) (open_numbers os) (each 0)
    (once_test os (λ i. each (suc i)) (λ n i j p q. let e = once n (suc i) (suc j) p q in omega arith))
    (λ n p q. let r = on_some_van n os q in let e = once n 0 (suc r.0) p r.1 in omega arith)
