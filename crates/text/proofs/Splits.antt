-- Shows how the first field of a line and what follows its comma lie in the line.
use Rattle.std.proofs.Common.{◌==◌, Bool, ltb, take_all, ◌≡◌, ℕ, ◌+◌, ◌<◌, ◌≤◌, true, false, cond, eqb, List, [], ◌∷◌, length, take, drop, Some, None, sym, refl, ap, ◌∙◌, add-one, arith}
use Rattle.std.proofs.lemmas.Bool.{ltb-true, ltb-false}
use Rattle.std.specs.List.{onto_first, position, position_or_len}
use Rattle.std.proofs.lemmas.List.Recursion.{is_position_or_len}
use Rattle.std.proofs.lemmas.Option.{same_Some}
use Rattle.text.specs.Fields.{comma, field_of, rest_of, fields, fields_left}

-- The first field is the front of the line, as long as the field.
pub field_is_front : (bs : List ℕ) → field_of bs ≡ take (length (field_of bs)) bs
field_is_front [] = refl
field_is_front (b ∷ bs) =
    elim (eqb b comma) as (λ t. cond t [] (b ∷ field_of bs) ≡ take (length (cond t [] (b ∷ field_of bs))) (b ∷ bs))
    [ true ↦ refl | false ↦ ap (λ l. b ∷ l) (field_is_front bs) ]

pub field_within : (bs : List ℕ) → length (field_of bs) ≤ length bs
field_within [] = omega arith
field_within (b ∷ bs) =
    elim (eqb b comma) as (λ t. length (cond t [] (b ∷ field_of bs)) ≤ length (b ∷ bs))
    [ true ↦ omega arith | false ↦ omega (arith, field_within bs) ]

-- Where the first field ends before the line does, the rest begins past one byte, the comma.
pub rest_past_comma : (bs : List ℕ) → length (field_of bs) < length bs → rest_of bs ≡ Some (drop (length (field_of bs) + 1) bs)
rest_past_comma [] short = absurd (omega arith)
rest_past_comma (b ∷ bs) short =
    elim (eqb b comma) as (λ t. length (cond t [] (b ∷ field_of bs)) < length (b ∷ bs) → cond t (Some bs) (rest_of bs) ≡ Some (drop (length (cond t [] (b ∷ field_of bs)) + 1) (b ∷ bs)))
    [ true ↦ λ s. refl | false ↦ λ s. rest_past_comma bs (omega arith) ∙ simp add-one ] short

-- Where the first field is the whole line, there is no rest.
pub no_rest : (bs : List ℕ) → length bs ≤ length (field_of bs) → rest_of bs ≡ None
no_rest [] long = refl
no_rest (b ∷ bs) long =
    elim (eqb b comma) as (λ t. length (b ∷ bs) ≤ length (cond t [] (b ∷ field_of bs)) → cond t (Some bs) (rest_of bs) ≡ None)
    [ true ↦ λ l. absurd (omega arith) | false ↦ λ l. no_rest bs (omega arith) ] long

-- The fields of a line are its first field and the fields of the rest.
pub first_and_rest : (bs : List ℕ) → fields bs ≡ field_of bs ∷ fields_left (rest_of bs)
first_and_rest [] = refl
first_and_rest (b ∷ bs) =
    elim (eqb b comma) as (λ t. cond t ([] ∷ fields bs) (onto_first b (fields bs)) ≡ cond t [] (b ∷ field_of bs) ∷ fields_left (cond t (Some bs) (rest_of bs)))
    [ true ↦ refl | false ↦ ap (onto_first b) (first_and_rest bs) ]

-- The first field is as long as the place of the first comma.
field_ends : (bs : List ℕ) → length (field_of bs) ≡ position_or_len (λ b. b == comma) bs
field_ends = is_position_or_len (λ bs. length (field_of bs)) (λ b. b == comma) refl (λ b bs. at_byte bs b (b == comma))
  where
    at_byte : (bs : List ℕ) (b : ℕ) (t : Bool) → length (cond t [] (b ∷ field_of bs)) ≡ cond t 0 (1 + length (field_of bs))
    at_byte bs b true = refl
    at_byte bs b false = omega arith

-- Where the first comma stands, the first field ends; without a comma it is the whole line.
pub comma_at : (bs : List ℕ) (n : ℕ) → Some n ≡ position (λ b. b == comma) bs → (n ≡ length (field_of bs)) × (n < length bs)
comma_at bs n is = by_test (position_or_len (λ b. b == comma) bs) (field_ends bs) (ltb (position_or_len (λ b. b == comma) bs) (length bs)) refl is
  where
    by_test : (p : ℕ) → length (field_of bs) ≡ p → (t : Bool) → ltb p (length bs) ≡ t → Some n ≡ cond t (Some p) None → (n ≡ length (field_of bs)) × (n < length bs)
    by_test p e true l s = let q = same_Some n p s in (q ∙ sym e, omega (arith, ltb-true p (length bs) l))
    by_test p e false l s = cc

pub no_comma : (bs : List ℕ) → None ≡ position (λ b. b == comma) bs → length bs ≤ length (field_of bs)
no_comma bs is = by_test (position_or_len (λ b. b == comma) bs) (field_ends bs) (ltb (position_or_len (λ b. b == comma) bs) (length bs)) refl is
  where
    by_test : (p : ℕ) → length (field_of bs) ≡ p → (t : Bool) → ltb p (length bs) ≡ t → None ≡ cond t (Some p) None → length bs ≤ length (field_of bs)
    by_test p e true l s = cc
    by_test p e false l s = omega (arith, ltb-false p (length bs) l)

-- The parts of the bytes that are left, cut at their first comma if they have one.
module _ (bytes bs : List ℕ) (are : bytes ≡ bs) where
  module _ (none : None ≡ position (λ b. b == comma) bytes) where
    pub whole_field : bytes ≡ field_of bs
    whole_field = sym (field_is_front bytes ∙ take_all (length (field_of bytes)) bytes (no_comma bytes none)) ∙ ap field_of are

    pub whole_rest : None ≡ rest_of bs
    whole_rest = sym (ap rest_of (sym are) ∙ no_rest bytes (no_comma bytes none))

  module _ (n : ℕ) (at : Some n ≡ position (λ b. b == comma) bytes) where
    pub cut_field : take n bytes ≡ field_of bs
    cut_field = ap (λ m. take m bytes) (comma_at bytes n at).0 ∙ sym (field_is_front bytes) ∙ ap field_of are

    pub cut_rest : Some (drop (n + 1) bs) ≡ rest_of bs
    cut_rest =
        let k = comma_at bytes n at in
        let short : length (field_of bytes) < length bytes = omega arith in
        sym (ap rest_of (sym are) ∙ rest_past_comma bytes short ∙ (λ i. Some (drop (sym k.0 i + 1) (are i))))
