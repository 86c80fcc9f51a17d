-- An edit of four places at the place that was found is the edit of the four as they are written out.
use Rattle.std.proofs.Common.{◌≡◌, ℕ, ◌+◌, ◌-◌, Bool, true, false, cond, not, ltb, List, [], ◌∷◌, ◌++◌, length, take, drop, get_or, unwrap_or, Some, None, Option, sym, refl, ap, ◌∙◌, subst}
use Rattle.std.proofs.Math.ListN.{set}
use borrow.Rule.Slice.PartMut.{put_mid, mid_of}
use Rattle.orders.specs.declared.Booking.{Booking}
use Rattle.orders.specs.Bookings.{number_of}
use Rattle.growth.specs.Positions.{compact}
use Rattle.fleet.specs.Slots.{is_numbered, stays_before, place_of, place_for, numbered}
use Rattle.fleet.proofs.Packed.{none_is_none, put_in, take_out, in_place, pick_of, pick_compact, spread, four_of}

abbrev Slot : Type 0
Slot = Option Booking

-- how many of four tests fail before one passes, and the first that passes, if one does
abbrev failed : (s t u v : Bool) → ℕ
failed s t u v = cond (not s) (1 + cond (not t) (1 + cond (not u) (1 + cond (not v) (1 + 0) 0) 0) 0) 0

abbrev found : (s t u v : Bool) → Option ℕ
found s t u v = cond (ltb (failed s t u v) 4) (Some (failed s t u v)) None

-- the places from `at` on with the last one in front, or the first one at the end
abbrev pub turned_right : ℕ → List Slot → List Slot
turned_right at l = let m = mid_of at (4 - at) l in put_mid at (4 - at) l (drop (length m - 1) m ++ take (length m - 1) m)

abbrev pub turned_left : ℕ → List Slot → List Slot
turned_left at l = let m = mid_of at (4 - at) l in put_mid at (4 - at) l (drop 1 m ++ take 1 m)

module _ (a b c d : Slot) where
  abbrev four : List Slot
  four = a ∷ b ∷ c ∷ d ∷ []

  -- what four tests choose, by the place that they find
  chosen : {X : Type 0} (f : ℕ → X) (w x y z o : X) → f 0 ≡ w → f 1 ≡ x → f 2 ≡ y → f 3 ≡ z → (s t u v : Bool) (at : ℕ) → found s t u v ≡ Some at → f at ≡ cond s w (cond t x (cond u y (cond v z o)))
  chosen f w x y z o p q r h true t u v at e = let g : 0 ≡ at = cc in ap f (sym g) ∙ p
  chosen f w x y z o p q r h false true u v at e = let g : 1 ≡ at = cc in ap f (sym g) ∙ q
  chosen f w x y z o p q r h false false true v at e = let g : 2 ≡ at = cc in ap f (sym g) ∙ r
  chosen f w x y z o p q r h false false false true at e = let g : 3 ≡ at = cc in ap f (sym g) ∙ h
  chosen f w x y z o p q r h false false false false at e = absurd (none_is_none (sym e))

  -- none of four tests passes
  unchosen : {X : Type 0} (w x y z o : X) → (s t u v : Bool) → found s t u v ≡ None → o ≡ cond s w (cond t x (cond u y (cond v z o)))
  unchosen w x y z o true t u v e = absurd (none_is_none e)
  unchosen w x y z o false true u v e = absurd (none_is_none e)
  unchosen w x y z o false false true v e = absurd (none_is_none e)
  unchosen w x y z o false false false true e = absurd (none_is_none e)
  unchosen w x y z o false false false false e = refl

  taken_out : (n at : ℕ) → place_of n four ≡ Some at → turned_left at (set four at None) ≡ take_out n a b c d
  taken_out n = chosen (λ k. turned_left k (set four k None)) _ _ _ _ _ refl refl refl refl (is_numbered n a) (is_numbered n b) (is_numbered n c) (is_numbered n d)

  not_taken_out : (n : ℕ) → place_of n four ≡ None → four ≡ take_out n a b c d
  not_taken_out n = unchosen _ _ _ _ _ (is_numbered n a) (is_numbered n b) (is_numbered n c) (is_numbered n d)

  exchanged : (x : Booking) (n at : ℕ) → place_of n four ≡ Some at → set four at (Some x) ≡ in_place n x a b c d
  exchanged x n = chosen (λ k. set four k (Some x)) _ _ _ _ _ refl refl refl refl (is_numbered n a) (is_numbered n b) (is_numbered n c) (is_numbered n d)

  not_exchanged : (x : Booking) (n : ℕ) → place_of n four ≡ None → four ≡ in_place n x a b c d
  not_exchanged x n = unchosen _ _ _ _ _ (is_numbered n a) (is_numbered n b) (is_numbered n c) (is_numbered n d)

  picked : (n at : ℕ) → place_of n four ≡ Some at → get_or four at None ≡ pick_of n a b c d
  picked n = chosen (λ k. get_or four k None) _ _ _ _ _ refl refl refl refl (is_numbered n a) (is_numbered n b) (is_numbered n c) (is_numbered n d)

  not_picked : (n : ℕ) → place_of n four ≡ None → None ≡ pick_of n a b c d
  not_picked n = unchosen _ _ _ _ _ (is_numbered n a) (is_numbered n b) (is_numbered n c) (is_numbered n d)

  abbrev put_at : Booking → ℕ → List Slot
  put_at x at = set (turned_right at four) at (Some x)

  put_before : (x : Booking) → put_at x (unwrap_or (place_for (number_of x) four) 3) ≡ put_in x a b c
  put_before x = by (stays_before (number_of x) a) (stays_before (number_of x) b) (stays_before (number_of x) c) (stays_before (number_of x) d)
    where
      by : (s t u v : Bool) → put_at x (unwrap_or (found (not s) (not t) (not u) (not v)) 3) ≡ cond (not s) (Some x ∷ a ∷ b ∷ c ∷ []) (cond (not t) (a ∷ Some x ∷ b ∷ c ∷ []) (cond (not u) (a ∷ b ∷ Some x ∷ c ∷ []) (a ∷ b ∷ c ∷ Some x ∷ [])))
      by false t u v = refl
      by true false u v = refl
      by true true false v = refl
      by true true true false = refl
      by true true true true = refl

-- what holds of any four places, at a list of four
at_four : (P : List Slot → Type 0) → ((a b c d : Slot) → P (four a b c d)) → (l : List Slot) → length l ≡ 4 → P l
at_four P f l e = subst P (sym (four_of l e)) (f _ _ _ _)

-- the four places without the booking of number n, that is found at a place or not at all
pub without : (n : ℕ) (l : List Slot) → length l ≡ 4 → (at : ℕ) → place_of n l ≡ Some at → turned_left at (set l at None) ≡ spread (take_out n) l
without n = at_four (λ l. (at : ℕ) → place_of n l ≡ Some at → turned_left at (set l at None) ≡ spread (take_out n) l) (λ a b c d. taken_out a b c d n)

pub without_none : (n : ℕ) (l : List Slot) → length l ≡ 4 → place_of n l ≡ None → l ≡ spread (take_out n) l
without_none n = at_four (λ l. place_of n l ≡ None → l ≡ spread (take_out n) l) (λ a b c d. not_taken_out a b c d n)

-- with x in its place
pub with_other : (x : Booking) (n : ℕ) (l : List Slot) → length l ≡ 4 → (at : ℕ) → place_of n l ≡ Some at → set l at (Some x) ≡ spread (in_place n x) l
with_other x n = at_four (λ l. (at : ℕ) → place_of n l ≡ Some at → set l at (Some x) ≡ spread (in_place n x) l) (λ a b c d. exchanged a b c d x n)

pub without_other : (x : Booking) (n : ℕ) (l : List Slot) → length l ≡ 4 → place_of n l ≡ None → l ≡ spread (in_place n x) l
without_other x n = at_four (λ l. place_of n l ≡ None → l ≡ spread (in_place n x) l) (λ a b c d. not_exchanged a b c d x n)

-- that booking itself
pub what_stands : (n : ℕ) (l : List Slot) → length l ≡ 4 → (at : ℕ) → place_of n l ≡ Some at → get_or l at None ≡ numbered n (compact l)
what_stands n = at_four (λ l. (at : ℕ) → place_of n l ≡ Some at → get_or l at None ≡ numbered n (compact l)) (λ a b c d at e. picked a b c d n at e ∙ pick_compact n a b c d)

pub nothing_stands : (n : ℕ) (l : List Slot) → length l ≡ 4 → place_of n l ≡ None → None ≡ numbered n (compact l)
nothing_stands n = at_four (λ l. place_of n l ≡ None → None ≡ numbered n (compact l)) (λ a b c d e. not_picked a b c d n e ∙ pick_compact n a b c d)

-- with one booking more
pub with_more : (x : Booking) (l : List Slot) → length l ≡ 4 → (λ (at : ℕ). set (turned_right at l) at (Some x)) (unwrap_or (place_for (number_of x) l) 3) ≡ put_in x (get_or l 0 None) (get_or l 1 None) (get_or l 2 None)
with_more x = at_four (λ l. (λ (at : ℕ). set (turned_right at l) at (Some x)) (unwrap_or (place_for (number_of x) l) 3) ≡ put_in x (get_or l 0 None) (get_or l 1 None) (get_or l 2 None)) (λ a b c d. put_before a b c d x)
