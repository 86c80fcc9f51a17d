-- Shows that few digits write a number that fits.
use Rattle.std.proofs.Common.{◌≡◌, ℕ, ◌^◌, ◌<◌, ◌≤◌, Bool, true, false, List, [], ◌∷◌, length, Some, None, sym, refl, ap, ◌∙◌, rules, arith}
use Rattle.std.proofs.lemmas.Str.Parse.{IsNumeralModel, numerals_by_fold, digits_value_short}
use Rattle.std.proofs.lemmas.Bool.{cond-true, cond-false, lt-ltb}
use Rattle.text.specs.Numbers.{all_digits, value_after, decimal, below}

own : IsNumeralModel (λ bs. all_digits bs ≡ true) (value_after 0)
own = numerals_by_fold _ (search rules) value_after (search rules)

-- a number is written by digits alone, at least one
decimal_from_digits : (bs : List ℕ) → 0 < length bs → all_digits bs ≡ true → decimal bs ≡ Some (value_after 0 bs)
decimal_from_digits [] some all = absurd (omega arith)
decimal_from_digits (b ∷ bs) some all = cond-true _ _ _ all

no_decimal : (bs : List ℕ) → all_digits bs ≡ false → decimal bs ≡ None
no_decimal [] not_all = refl
no_decimal (b ∷ bs) not_all = cond-false _ _ _ not_all

-- a number of few digits fits
short_below : (bs : List ℕ) → length bs ≤ 7 → (b : Bool) → all_digits bs ≡ b → below (2 ^ 32) (decimal bs) ≡ decimal bs
short_below [] few b e = refl
short_below (c ∷ bs) few true e =
    let is = decimal_from_digits (c ∷ bs) (omega arith) e in
    let small : value_after 0 (c ∷ bs) < 10 ^ 7 = digits_value_short own (c ∷ bs) 7 e few in
    ap (below (2 ^ 32)) is ∙ cond-true _ _ _ (lt-ltb (value_after 0 (c ∷ bs)) (2 ^ 32) (omega arith)) ∙ sym is
short_below (c ∷ bs) few false e = let is = no_decimal (c ∷ bs) e in ap (below (2 ^ 32)) is ∙ sym is

pub short_fits : (bs : List ℕ) → length bs ≤ 7 → below (2 ^ 32) (decimal bs) ≡ decimal bs
short_fits bs few = short_below bs few (all_digits bs) refl
