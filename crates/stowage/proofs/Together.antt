-- By exchange, loads that fit together fit in any order, to the same hold, and any part of them fits.
use Rattle.std.proofs.Common.{◌≡◌, ℕ, ◌+◌, ◌<◌, ◌≤◌, true, List, [], ◌∷◌, ◌++◌, length, get_or, drop, is_some, Some, None, Option, sym, refl, ap, ◌∙◌, subst, add-one, drop-cons}
use Rattle.std.proofs.lemmas.List.{drop_all}
use Rattle.std.proofs.lemmas.Option.{none-some}
use Rattle.stowage.specs.declared.Load.{Load}
use Rattle.stowage.specs.Laws.{Exchange}
use Rattle.stowage.specs.Together.{then_stow, onward, stowed, Shuffle, same, below, swap, further, Part, none, without, keeping, StowsAll}
use Rattle.stowage.specs.Options.{same_answers}

-- the first of some loads, stowed last
to_the_end : {X : Type 0} (x : X) (xs : List X) → Shuffle (x ∷ xs) (xs ++ x ∷ [])
to_the_end x [] = same
to_the_end x (y ∷ xs) = further swap (below (to_the_end x xs))

module _ {Hold : Type 0} (stow : Hold → Load → Option Hold) where
  onward_last : (o : Option Hold) (ls : List Load) (l : Load) → onward stow o (ls ++ l ∷ []) ≡ then_stow stow (onward stow o ls) l
  onward_last o [] l = refl
  onward_last o (k ∷ ls) l = onward_last (then_stow stow o k) ls l

  pub onward_none : (ls : List Load) → onward stow None ls ≡ None
  onward_none [] = refl
  onward_none (l ∷ ls) = onward_none ls

  -- one turn of stowing the loads from the i-th on, to the answer r
  module _ (h : Hold) (ls : List Load) (i : ℕ) (r : Option Hold) (left : stowed stow h (drop i ls) ≡ r) where
    turn : (o : Option Hold) (d : Load) → i < length ls → stow h (get_or ls i d) ≡ o → onward stow o (drop (i + 1) ls) ≡ r
    turn o d lt e =
        let cut : drop i ls ≡ get_or ls i d ∷ drop (i + 1) ls = rw (add-one, drop-cons ls i d) in
        ap (λ p. onward stow p (drop (i + 1) ls)) (sym e) ∙ sym (ap (stowed stow h) cut) ∙ left

    pub turn_some : (x : Hold) (d : Load) → i < length ls → stow h (get_or ls i d) ≡ Some x → stowed stow x (drop (i + 1) ls) ≡ r
    turn_some x = turn (Some x)

    pub turn_none : (d : Load) → i < length ls → stow h (get_or ls i d) ≡ None → None ≡ r
    turn_none d lt e = sym (onward_none (drop (i + 1) ls)) ∙ turn None d lt e

    pub turn_last : length ls ≤ i → Some h ≡ r
    turn_last le = ap (stowed stow h) (sym (drop_all i ls le)) ∙ left

  fitted_before : (o : Option Hold) (l : Load) → is_some (then_stow stow o l) ≡ true → is_some o ≡ true
  fitted_before None l e = e
  fitted_before (Some h) l e = refl

  module _ (exchange : Exchange stow) where
    swap_some : (h : Hold) (a b : Load) (o : Option Hold) → stow h a ≡ o → (y : Hold) → then_stow stow o b ≡ Some y → then_stow stow (stow h b) a ≡ Some y
    swap_some h a b None e y f = absurd (none-some y f)
    swap_some h a b (Some x) e y f =
        let s = exchange h x y a b e f in
        ap (λ o. then_stow stow o a) s.1 ∙ s.2

    swapped : (o : Option Hold) (a b : Load) → then_stow stow (then_stow stow o a) b ≡ then_stow stow (then_stow stow o b) a
    swapped None a b = refl
    swapped (Some h) a b = same_answers _ _ (swap_some h a b (stow h a) refl) (swap_some h b a (stow h b) refl)

    pub any_order : {xs ys : List Load} → Shuffle xs ys → (o : Option Hold) → onward stow o ys ≡ onward stow o xs
    any_order same o = refl
    any_order (below {x = x} s) o = any_order s (then_stow stow o x)
    any_order (swap {x = x} {y = y} {xs = xs}) o = ap (λ p. onward stow p xs) (swapped o y x)
    any_order (further s t) o = any_order t o ∙ any_order s o

    without_first : (o : Option Hold) (l : Load) (ls : List Load) → is_some (onward stow o (l ∷ ls)) ≡ true → is_some (onward stow o ls) ≡ true
    without_first o l ls e =
        fitted_before (onward stow o ls) l
        (subst (λ p. is_some p ≡ true) (sym (any_order (to_the_end l ls) o) ∙ onward_last o ls l) e)

    pub any_part : {xs ys : List Load} → Part xs ys → (o : Option Hold) → is_some (onward stow o ys) ≡ true → is_some (onward stow o xs) ≡ true
    any_part none o e = e
    any_part (without {x = x} {ys = ys} p) o e = any_part p o (without_first o x ys e)
    any_part (keeping {x = x} p) o e = any_part p (then_stow stow o x) e

    pub stows_all : (h : Hold) (loads : List Load) (r : Option Hold) → r ≡ stowed stow h loads → StowsAll stow h loads r
    stows_all h loads r e = record {
      value = e;
      any_order = λ others s. any_order s (Some h) ∙ sym e;
      any_part = λ others p fits. any_part p (Some h) (ap is_some (sym e) ∙ fits);
    }
