-- What is put into and taken out of four places, as the lists of bookings have it.
use Rattle.std.proofs.Common.{◌≡◌, ℕ, zero, suc, ◌-◌, ◌<◌, ◌≤◌, Bool, true, false, cond, not, eqb, ltb, leb, List, [], ◌∷◌, ◌++◌, map, length, get_or, replicate, Some, None, Option, sym, refl, ap, ◌∙◌, arith}
use Rattle.std.proofs.lemmas.Bool.Decides.{nat_tests}
use Rattle.orders.specs.declared.Booking.{Booking}
use Rattle.orders.specs.declared.Booking.TheVariants.{Waiting, Aboard}
use Rattle.orders.specs.declared.Journey.{Journey}
use Rattle.orders.specs.declared.Stop.{Stop}
use Rattle.orders.specs.Bookings.{number_of, remaining, insert, remove, served}
use Rattle.growth.specs.Positions.{compact}
use Rattle.fleet.specs.Slots.{slots, stays_before, is_numbered, numbered, exchanged}

-- one more booking between three places
abbrev pub put_in : Booking → (a b c : Option Booking) → List (Option Booking)
put_in x a b c =
    cond (not (stays_before (number_of x) a)) (Some x ∷ a ∷ b ∷ c ∷ [])
    (cond (not (stays_before (number_of x) b)) (a ∷ Some x ∷ b ∷ c ∷ [])
    (cond (not (stays_before (number_of x) c)) (a ∷ b ∷ Some x ∷ c ∷ [])
    (a ∷ b ∷ c ∷ Some x ∷ [])))

-- four places without the first booking of number n
abbrev pub take_out : ℕ → (a b c d : Option Booking) → List (Option Booking)
take_out n a b c d =
    cond (is_numbered n a) (b ∷ c ∷ d ∷ None ∷ [])
    (cond (is_numbered n b) (a ∷ c ∷ d ∷ None ∷ [])
    (cond (is_numbered n c) (a ∷ b ∷ d ∷ None ∷ [])
    (cond (is_numbered n d) (a ∷ b ∷ c ∷ None ∷ [])
    (a ∷ b ∷ c ∷ d ∷ []))))

-- four places with x in place of the first booking of number n
abbrev pub in_place : ℕ → Booking → (a b c d : Option Booking) → List (Option Booking)
in_place n x a b c d =
    cond (is_numbered n a) (Some x ∷ b ∷ c ∷ d ∷ [])
    (cond (is_numbered n b) (a ∷ Some x ∷ c ∷ d ∷ [])
    (cond (is_numbered n c) (a ∷ b ∷ Some x ∷ d ∷ [])
    (cond (is_numbered n d) (a ∷ b ∷ c ∷ Some x ∷ [])
    (a ∷ b ∷ c ∷ d ∷ []))))

-- the booking of number n in four places
abbrev pub pick_of : ℕ → (a b c d : Option Booking) → Option Booking
pick_of n a b c d =
    cond (is_numbered n a) a
    (cond (is_numbered n b) b
    (cond (is_numbered n c) c
    (cond (is_numbered n d) d None)))

pub none_is_none : {X : Type 0} {x : X} → Some x ≡ None → ⊥
none_is_none e = let z : ◌≡◌ {A = ℕ} 0 1 = cc in omega arith

-- at most n is not above it
not_above : (m n : ℕ) → not (leb m n) ≡ ltb n m
not_above m n = grind (arith, nat_tests)

module _ (x : Booking) where
  -- x goes before b; as it is tested
  abbrev first : Booking → Bool
  first b = ltb (number_of x) (number_of b)

  tested : (b : Booking) → not (leb (number_of b) (number_of x)) ≡ first b
  tested b = not_above (number_of b) (number_of x)

  among_one : (p : Booking) (s : Bool) → cond s (slots (x ∷ p ∷ [])) (slots (p ∷ x ∷ [])) ≡ slots (cond s (x ∷ p ∷ []) (p ∷ x ∷ []))
  among_one p true = refl
  among_one p false = refl

  among_two : (p q : Booking) (s t : Bool) →
      cond s (slots (x ∷ p ∷ q ∷ [])) (cond t (slots (p ∷ x ∷ q ∷ [])) (slots (p ∷ q ∷ x ∷ [])))
      ≡ slots (cond s (x ∷ p ∷ q ∷ []) (p ∷ cond t (x ∷ q ∷ []) (q ∷ x ∷ [])))
  among_two p q true t = refl
  among_two p q false true = refl
  among_two p q false false = refl

  among_three : (p q r : Booking) (s t u : Bool) →
      cond s (slots (x ∷ p ∷ q ∷ r ∷ [])) (cond t (slots (p ∷ x ∷ q ∷ r ∷ [])) (cond u (slots (p ∷ q ∷ x ∷ r ∷ [])) (slots (p ∷ q ∷ r ∷ x ∷ []))))
      ≡ slots (cond s (x ∷ p ∷ q ∷ r ∷ []) (p ∷ cond t (x ∷ q ∷ r ∷ []) (q ∷ cond u (x ∷ r ∷ []) (r ∷ x ∷ []))))
  among_three p q r true t u = refl
  among_three p q r false true u = refl
  among_three p q r false false true = refl
  among_three p q r false false false = refl

  pub put_in_slots : (bs : List Booking) → length bs < 4 → put_in x (get_or (slots bs) 0 None) (get_or (slots bs) 1 None) (get_or (slots bs) 2 None) ≡ slots (insert x bs)
  put_in_slots [] h = refl
  put_in_slots (p ∷ []) h = (λ i. cond (tested p i) (slots (x ∷ p ∷ [])) (slots (p ∷ x ∷ []))) ∙ among_one p (first p)
  put_in_slots (p ∷ q ∷ []) h =
      (λ i. cond (tested p i) (slots (x ∷ p ∷ q ∷ [])) (cond (tested q i) (slots (p ∷ x ∷ q ∷ [])) (slots (p ∷ q ∷ x ∷ []))))
      ∙ among_two p q (first p) (first q)
  put_in_slots (p ∷ q ∷ r ∷ []) h =
      (λ i. cond (tested p i) (slots (x ∷ p ∷ q ∷ r ∷ [])) (cond (tested q i) (slots (p ∷ x ∷ q ∷ r ∷ [])) (cond (tested r i) (slots (p ∷ q ∷ x ∷ r ∷ [])) (slots (p ∷ q ∷ r ∷ x ∷ [])))))
      ∙ among_three p q r (first p) (first q) (first r)
  put_in_slots (p ∷ q ∷ r ∷ s ∷ bs) h = absurd (omega arith)

-- the four places of bookings, handed to a function of four
abbrev pub spread : {Y : Type 0} → ((a b c d : Option Booking) → Y) → List (Option Booking) → Y
spread f l = f (get_or l 0 None) (get_or l 1 None) (get_or l 2 None) (get_or l 3 None)

-- at the first booking of number n, what comes from it on is edited
module _ (n : ℕ) (edit : List Booking → List Booking) where
  one : (p : Booking) (s : Bool) → cond s (slots (edit [])) (slots (p ∷ [])) ≡ slots (cond s (edit []) (p ∷ []))
  one p true = refl
  one p false = refl

  two : (p q : Booking) (s t : Bool) →
      cond s (slots (edit (q ∷ []))) (cond t (slots (p ∷ edit [])) (slots (p ∷ q ∷ [])))
      ≡ slots (cond s (edit (q ∷ [])) (p ∷ cond t (edit []) (q ∷ [])))
  two p q true t = refl
  two p q false true = refl
  two p q false false = refl

  three : (p q r : Booking) (s t u : Bool) →
      cond s (slots (edit (q ∷ r ∷ []))) (cond t (slots (p ∷ edit (r ∷ []))) (cond u (slots (p ∷ q ∷ edit [])) (slots (p ∷ q ∷ r ∷ []))))
      ≡ slots (cond s (edit (q ∷ r ∷ [])) (p ∷ cond t (edit (r ∷ [])) (q ∷ cond u (edit []) (r ∷ []))))
  three p q r true t u = refl
  three p q r false true u = refl
  three p q r false false true = refl
  three p q r false false false = refl

  four : (p q r o : Booking) (s t u v : Bool) →
      cond s (slots (edit (q ∷ r ∷ o ∷ []))) (cond t (slots (p ∷ edit (r ∷ o ∷ []))) (cond u (slots (p ∷ q ∷ edit (o ∷ []))) (cond v (slots (p ∷ q ∷ r ∷ edit [])) (slots (p ∷ q ∷ r ∷ o ∷ [])))))
      ≡ slots (cond s (edit (q ∷ r ∷ o ∷ [])) (p ∷ cond t (edit (r ∷ o ∷ [])) (q ∷ cond u (edit (o ∷ [])) (r ∷ cond v (edit []) (o ∷ [])))))
  four p q r o true t u v = refl
  four p q r o false true u v = refl
  four p q r o false false true v = refl
  four p q r o false false false true = refl
  four p q r o false false false false = refl

pub take_out_slots : (n : ℕ) (bs : List Booking) → length bs ≤ 4 → spread (take_out n) (slots bs) ≡ slots (remove n bs)
take_out_slots n [] h = refl
take_out_slots n (p ∷ []) h = one n (λ l. l) p _
take_out_slots n (p ∷ q ∷ []) h = two n (λ l. l) p q _ _
take_out_slots n (p ∷ q ∷ r ∷ []) h = three n (λ l. l) p q r _ _ _
take_out_slots n (p ∷ q ∷ r ∷ o ∷ []) h = four n (λ l. l) p q r o _ _ _ _
take_out_slots n (p ∷ q ∷ r ∷ o ∷ b ∷ bs) h = absurd (omega arith)

pub in_place_slots : (n : ℕ) (x : Booking) (bs : List Booking) → length bs ≤ 4 → spread (in_place n x) (slots bs) ≡ slots (exchanged n x bs)
in_place_slots n x [] h = refl
in_place_slots n x (p ∷ []) h = one n (λ l. x ∷ l) p _
in_place_slots n x (p ∷ q ∷ []) h = two n (λ l. x ∷ l) p q _ _
in_place_slots n x (p ∷ q ∷ r ∷ []) h = three n (λ l. x ∷ l) p q r _ _ _
in_place_slots n x (p ∷ q ∷ r ∷ o ∷ []) h = four n (λ l. x ∷ l) p q r o _ _ _ _
in_place_slots n x (p ∷ q ∷ r ∷ o ∷ b ∷ bs) h = absurd (omega arith)

-- the first of some places that the booking of number n takes
module _ (n : ℕ) where
  pick_next : (o rest : Option Booking) (l : List (Option Booking)) → rest ≡ numbered n (compact l) → cond (is_numbered n o) o rest ≡ numbered n (compact (o ∷ l))
  pick_next None rest l e = e
  pick_next (Some b) rest l e = ap (cond (eqb (number_of b) n) (Some b)) e

  pub pick_compact : (a b c d : Option Booking) → pick_of n a b c d ≡ numbered n (compact (a ∷ b ∷ c ∷ d ∷ []))
  pick_compact a b c d = pick_next a _ _ (pick_next b _ _ (pick_next c _ _ (pick_next d _ [] refl)))

-- a list of four
pub four_of : (l : List (Option Booking)) → length l ≡ 4 → l ≡ get_or l 0 None ∷ get_or l 1 None ∷ get_or l 2 None ∷ get_or l 3 None ∷ []
four_of [] e = absurd (omega arith)
four_of (a ∷ []) e = absurd (omega arith)
four_of (a ∷ b ∷ []) e = absurd (omega arith)
four_of (a ∷ b ∷ c ∷ []) e = absurd (omega arith)
four_of (a ∷ b ∷ c ∷ d ∷ []) e = refl
four_of (a ∷ b ∷ c ∷ d ∷ o ∷ l) e = absurd (omega arith)

-- what stands in the places of bookings is those bookings
pub compact_slots : (bs : List Booking) → compact (slots bs) ≡ bs
compact_slots [] = refl
compact_slots (b ∷ bs) = ap (λ l. b ∷ l) (shorter bs (4 - length (b ∷ bs)))
  where
    shorter : (cs : List Booking) (k : ℕ) → compact (map Some cs ++ replicate k None) ≡ cs
    shorter [] zero = refl
    shorter [] (suc k) = shorter [] k
    shorter (c ∷ cs) k = ap (λ l. c ∷ l) (shorter cs k)

-- serving a stop is an edit at its booking
module _ (d n : ℕ) where
  pub served_none : (bs : List Booking) → numbered n bs ≡ None → served d n bs ≡ bs
  served_none [] e = refl
  served_none (b ∷ bs) e = by (eqb (number_of b) n) (served_none bs) e
    where
      by : (t : Bool) → (numbered n bs ≡ None → served d n bs ≡ bs) → cond t (Some b) (numbered n bs) ≡ None → cond t (remaining d b ++ bs) (b ∷ served d n bs) ≡ b ∷ bs
      by true more f = absurd (none_is_none f)
      by false more f = ap (λ l. b ∷ l) (more f)

  pub served_waiting : (p : Stop) (j : Journey) (bs : List Booking) → numbered n bs ≡ Some (Waiting p j) → served d n bs ≡ exchanged n (Aboard d j) bs
  served_waiting p j [] e = absurd (none_is_none (sym e))
  served_waiting p j (b ∷ bs) e = by (eqb (number_of b) n) (served_waiting p j bs) e
    where
      by : (t : Bool) → (numbered n bs ≡ Some (Waiting p j) → served d n bs ≡ exchanged n (Aboard d j) bs) → cond t (Some b) (numbered n bs) ≡ Some (Waiting p j) → cond t (remaining d b ++ bs) (b ∷ served d n bs) ≡ cond t (Aboard d j ∷ bs) (b ∷ exchanged n (Aboard d j) bs)
      by true more f = let g : b ≡ Waiting p j = cc in ap (λ x. remaining d x ++ bs) g
      by false more f = ap (λ l. b ∷ l) (more f)

  pub served_aboard : (s : ℕ) (j : Journey) (bs : List Booking) → numbered n bs ≡ Some (Aboard s j) → served d n bs ≡ remove n bs
  served_aboard s j [] e = refl
  served_aboard s j (b ∷ bs) e = by (eqb (number_of b) n) (served_aboard s j bs) e
    where
      by : (t : Bool) → (numbered n bs ≡ Some (Aboard s j) → served d n bs ≡ remove n bs) → cond t (Some b) (numbered n bs) ≡ Some (Aboard s j) → cond t (remaining d b ++ bs) (b ∷ served d n bs) ≡ cond t bs (b ∷ remove n bs)
      by true more f = let g : b ≡ Aboard s j = cc in ap (λ x. remaining d x ++ bs) g
      by false more f = ap (λ l. b ∷ l) (more f)
