-- Shows how the numbers of a row of fields are read, field by field.
use Rattle.std.proofs.Common.{◌≡◌, ◌==◌, Bool, false, ℕ, ◌+◌, ◌<◌, List, [], ◌∷◌, ◌++◌, length, get_or, drop, Some, None, Option, sym, refl, ap, subst, ◌∙◌, append_assoc, append-nil, arith}
use Rattle.std.specs.Option.{option_map}
use Rattle.std.proofs.lemmas.List.{at_drop_more, drop_all}
use Rattle.std.specs.Iterator.{Yields}
use Rattle.std.proofs.lemmas.Iterator.{YieldsList}
use Rattle.std.proofs.lemmas.Iterator.Consumers.{YieldsList-at, YieldsList-turn, YieldsList-end}
use Rattle.std.proofs.lemmas.Iterator.Splits.{YieldsList-from_slice_split}
use Rattle.std.specs.Fn.{CalledAt}
use Rattle.std.specs.declared.slice.Split.{Split}
use Rattle.std.specs.Slice.Iter.{split_steps, split_rest, split_done, split_callee}
use denote.Ref.{Bor}
use denote.Param.Members.{Mut}
use Rattle.text.specs.Fields.{comma, fields}
use Rattle.text.specs.Numbers.{number32, in_front, all_numbers}

-- The numbers ns with others after them, if those are there.
abbrev pub followed : List ℕ → Option (List ℕ) → Option (List ℕ)
followed ns o = option_map (λ more. ns ++ more) o

followed-front : (ns : List ℕ) (n : ℕ) (o : Option (List ℕ)) → followed ns (in_front (Some n) o) ≡ followed (ns ++ (n ∷ [])) o
followed-front ns n None = refl
followed-front ns n (Some more) = ap Some (sym (append_assoc ns (n ∷ []) more))

-- Of the fields fs the first i write ns, and all of them the numbers `all`.
module _ (all : Option (List ℕ)) (ns : List ℕ) (fs : List (List ℕ)) (i : ℕ) (so_far : all ≡ followed ns (all_numbers (drop i fs))) where
  module _ (f : List ℕ) (within : i < length fs) (is : f ≡ get_or fs i f) where
    next : followed ns (all_numbers (drop i fs)) ≡ followed ns (in_front (number32 f) (all_numbers (drop (i + 1) fs)))
    next =
        at_drop_more (λ gs. followed ns (all_numbers gs)) fs i f within
        ∙ ap (λ g. followed ns (in_front (number32 g) (all_numbers (drop (i + 1) fs)))) (sym is)

    -- the next field writes n, and ms are the numbers with n at the end
    pub reads_more : (n : ℕ) (ms : List ℕ) (k : ℕ) → Some n ≡ number32 f → ms ≡ ns ++ (n ∷ []) → k ≡ i + 1 → all ≡ followed ms (all_numbers (drop k fs))
    reads_more n ms k reads pushed one =
        so_far ∙ next ∙ ap (λ o. followed ns (in_front o (all_numbers (drop (i + 1) fs)))) (sym reads)
        ∙ followed-front ns n (all_numbers (drop (i + 1) fs))
        ∙ ap (λ l. followed l (all_numbers (drop (i + 1) fs))) (sym pushed)
        ∙ ap (λ j. followed ms (all_numbers (drop j fs))) (sym one)

    -- the next field writes no number
    pub reads_none : None ≡ number32 f → None ≡ all
    reads_none bad = sym (so_far ∙ next ∙ ap (λ o. followed ns (in_front o (all_numbers (drop (i + 1) fs)))) (sym bad))

  -- no field is left
  pub reads_all : length fs ≡ i → Some ns ≡ all
  reads_all end = sym (so_far ∙ ap (λ gs. followed ns (all_numbers gs)) (drop_all i fs (omega arith)) ∙ ap Some (append-nil ns))

-- A loop over the parts of a row has passed xs: the part x that comes next, and that all have passed where none comes.
module _ {S A B : Type 0} (steps : S → Option A → S → Type 0) (s : S) (xs : List A) (t : S) (passed : Yields steps s xs t) (r : Option A) (u : S) (step : steps t r u) where
  pub part_here : (x : A) → r ≡ Some x → (v : A → B) (parts all : List B) → parts ≡ all → YieldsList steps v s all → (length xs < length parts) × (v x ≡ get_or parts (length xs) (v x))
  part_here x is v parts all are row =
      subst (λ ps. (length xs < length ps) × (v x ≡ get_or ps (length xs) (v x))) (sym are) (YieldsList-turn row xs t passed r u x is step)

  pub parts_passed : r ≡ None → (v : A → B) (parts all : List B) → parts ≡ all → YieldsList steps v s all → length parts ≡ length xs
  parts_passed is v parts all are row = ap length are ∙ sym (YieldsList-end row xs t passed r u is step).1

-- A walk over a row that is cut at each comma gives its fields.
pub comma_row : {F : Type 0} (g : Mut F (Bor ℕ × Unit {0}) Bool) {s t : Split ℕ F} {f : F} (bytes : List ℕ) → split_rest s ≡ bytes → split_done s ≡ false →
    split_callee s ≡ f → t ≡ s → ((x : ℕ) (b : Bool) (q : F) → CalledAt g f x b q → (q ≡ f) × (b ≡ (x == comma))) →
    YieldsList (split_steps g) (λ x. x.now) t (fields bytes)
comma_row g bytes rest done callee same tests = YieldsList-at same (YieldsList-from_slice_split g (λ b. b == comma) bytes rest done callee tests)
