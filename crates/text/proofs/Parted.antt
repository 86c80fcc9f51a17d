-- Shows that a line is parted at its commas into its fields, and in no other way.
use Rattle.std.proofs.Common.{◌≡◌, ℕ, true, false, cond, eqb, ◌≢◌, List, [], ◌∷◌, ◌++◌, length, sym, refl, ap, ◌∙◌, arith}
use Rattle.std.proofs.lemmas.Bool.{cond-false, ne_eqb, eqb-true, eqb-false}
use Rattle.std.specs.List.{AllByRecursion, onto_first}
use Rattle.text.specs.Fields.{comma, fields, after_commas, comma_joined, Parted, PartsOneWay}
use Rattle.text.proofs.Splits.{first_and_rest}

-- Bytes with no comma among them.
abbrev Free : List ℕ → Type 0
Free = AllByRecursion (λ b. b ≢ comma)

fields_some : (bs : List ℕ) → fields bs ≢ []
fields_some bs none = omega (arith, ap length (first_and_rest bs), ap length none)

joins_onto : (b : ℕ) (fs : List (List ℕ)) → comma_joined (onto_first b fs) ≡ b ∷ comma_joined fs
joins_onto b [] = refl
joins_onto b (f ∷ fs) = refl

joins_after : (fs : List (List ℕ)) → fs ≢ [] → after_commas fs ≡ comma ∷ comma_joined fs
joins_after [] some = absurd (some refl)
joins_after (f ∷ fs) some = refl

fields_join : (bs : List ℕ) → comma_joined (fields bs) ≡ bs
fields_join [] = refl
fields_join (b ∷ bs) =
    elim (eqb b comma) as (λ t. eqb b comma ≡ t → comma_joined (cond t ([] ∷ fields bs) (onto_first b (fields bs))) ≡ b ∷ bs) [
      | true ↦ λ is. joins_after (fields bs) (fields_some bs) ∙ (λ i. sym (eqb-true b comma is) i ∷ fields_join bs i)
      | false ↦ λ is. joins_onto b (fields bs) ∙ ap (λ l. b ∷ l) (fields_join bs)
    ]
    refl

free_onto : (b : ℕ) (fs : List (List ℕ)) → b ≢ comma → AllByRecursion Free fs → AllByRecursion Free (onto_first b fs)
free_onto b [] other free = ((other, tt), tt)
free_onto b (f ∷ fs) other free = ((other, free.0), free.1)

fields_free : (bs : List ℕ) → AllByRecursion Free (fields bs)
fields_free [] = (tt, tt)
fields_free (b ∷ bs) =
    elim (eqb b comma) as (λ t. eqb b comma ≡ t → AllByRecursion Free (cond t ([] ∷ fields bs) (onto_first b (fields bs))))
    [ true ↦ λ is. (tt, fields_free bs) | false ↦ λ is. free_onto b (fields bs) (eqb-false b comma is) (fields_free bs) ]
    refl

-- Bytes with no comma, put in front of a line that begins with an empty field, fill that field.
fields_front : (f rest : List ℕ) (fs : List (List ℕ)) → Free f → fields rest ≡ [] ∷ fs → fields (f ++ rest) ≡ f ∷ fs
fields_front [] rest fs free is = is
fields_front (b ∷ f) rest fs free is =
    cond-false (eqb b comma) _ _ (ne_eqb b comma free.0) ∙ ap (onto_first b) (fields_front f rest fs free.1 is)

fields_after : (fs : List (List ℕ)) → AllByRecursion Free fs → fields (after_commas fs) ≡ [] ∷ fs
fields_after [] free = refl
fields_after (f ∷ fs) free = ap (λ l. [] ∷ l) (fields_front f (after_commas fs) fs free.0 (fields_after fs free.1))

fields_only : (line : List ℕ) (fs : List (List ℕ)) → Parted line fs → fs ≡ fields line
fields_only line [] p = absurd (p.some refl)
fields_only line (f ∷ fs) p =
    sym (fields_front f (after_commas fs) fs p.comma_free.0 (fields_after fs p.comma_free.1)) ∙ ap fields p.joins

pub parts_one_way : (line : List ℕ) → PartsOneWay line
parts_one_way line =
    record {
      parted = record { some = fields_some line; joins = fields_join line; comma_free = fields_free line };
      only = fields_only line;
    }
