-- Loads that are stowed one after the other, the same loads in another order, and only some of them.
use Rattle.std.specs.Prelude.{◌≡◌, true, List, [], ◌∷◌, is_some, Some, None, Option}
use Rattle.stowage.specs.declared.Load.{Load}

module _ {Hold : Type 0} (stow : Hold → Load → Option Hold) where
  -- one load more, where those before it fitted
  abbrev pub then_stow : Option Hold → Load → Option Hold
  then_stow None l = None
  then_stow (Some h) l = stow h l

  -- all the loads more, in their order
  abbrev pub onward : Option Hold → List Load → Option Hold
  onward o [] = o
  onward o (l ∷ loads) = onward (then_stow o l) loads

  -- the hold with all the loads, if each fits in its turn
  abbrev pub stowed : Hold → List Load → Option Hold
  stowed h loads = onward (Some h) loads

-- the second list has the elements of the first in another order: neighbours changed places, again and again
pub data Shuffle {X : Type 0} : List X → List X → Type 0 where
  same : {xs : List X} → Shuffle xs xs
  below : {x : X} {xs ys : List X} → Shuffle xs ys → Shuffle (x ∷ xs) (x ∷ ys)
  swap : {x y : X} {xs : List X} → Shuffle (x ∷ y ∷ xs) (y ∷ x ∷ xs)
  further : {xs ys zs : List X} → Shuffle xs ys → Shuffle ys zs → Shuffle xs zs

-- the first list is the second with some elements left out
pub data Part {X : Type 0} : List X → List X → Type 0 where
  none : Part [] []
  without : {x : X} {xs ys : List X} → Part xs ys → Part xs (x ∷ ys)
  keeping : {x : X} {xs ys : List X} → Part xs ys → Part (x ∷ xs) (x ∷ ys)

-- r is the hold with all the loads; in no order do they fit to another end, and any part of loads that fit together fits
pub record StowsAll {Hold : Type 0} (stow : Hold → Load → Option Hold) (h : Hold) (loads : List Load) (r : Option Hold) : Type 0 where
  pub value : r ≡ stowed stow h loads
  pub any_order : (others : List Load) → Shuffle loads others → stowed stow h others ≡ r
  pub any_part : (others : List Load) → Part others loads → is_some r ≡ true → is_some (stowed stow h others) ≡ true
