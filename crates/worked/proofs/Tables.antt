-- A table is judged by tests that are computed over all its places.
use Rattle.std.proofs.Common.{◌≡◌, ℕ, zero, suc, ◌<◌, Bool, true, false, not, ◌&&◌, List, length, get_or, sym, refl, subst, ⊎_elim, arith}
use Rattle.std.proofs.lemmas.Bool.{and_parts, cases_eq}
use Rattle.roads.specs.Tables.{Square, NoneBad, LawfulTable, bad_entry, shortcut, table_trip}
use Rattle.roads.proofs.Tables.{all_lawful}

-- the test fails at each number below n
abbrev pub none_below : ℕ → (ℕ → Bool) → Bool
none_below zero test = true
none_below (suc n) test = not (test n) && none_below n test

is_false : (b : Bool) → not b ≡ true → b ≡ false
is_false true e = sym e
is_false false e = refl

pub fails_below : (n : ℕ) (test : ℕ → Bool) → none_below n test ≡ true → (k : ℕ) → k < n → test k ≡ false
fails_below zero test e k lt = absurd (omega arith)
fails_below (suc n) test e k lt =
    let parts = and_parts (not (test n)) (none_below n test) e in
    ⊎_elim
    (λ (same : k ≡ n). subst (λ m. test m ≡ false) (sym same) (is_false (test n) parts.0))
    (λ (other : k ≡ n → ⊥). fails_below n test parts.1 k (omega arith))
    (cases_eq k n)

is_true : (b : Bool) → not b ≡ false → b ≡ true
is_true true e = refl
is_true false e = sym e

module _ (n : ℕ) (xs : List ℕ) where
  abbrev bad : ℕ → Bool
  bad k = bad_entry n k (get_or xs k 0)

  -- a shortcut from a through b; one from a
  abbrev pub through : ℕ → ℕ → Bool
  through a b = not (none_below n (shortcut (table_trip n xs) a b))

  abbrev from : ℕ → Bool
  from a = not (none_below n (through a))

  pub no_shortcut_through : (a b : ℕ) → through a b ≡ false → (c : ℕ) → c < n → shortcut (table_trip n xs) a b c ≡ false
  no_shortcut_through a b e = fails_below n (shortcut (table_trip n xs) a b) (is_true _ e)

  pub no_shortcut_from : (a : ℕ) → from a ≡ false → (b c : ℕ) → b < n → c < n → shortcut (table_trip n xs) a b c ≡ false
  no_shortcut_from a e b c p q = no_shortcut_through a b (fails_below n (through a) (is_true _ e) b p) c q

  pub none_bad : none_below (length xs) bad ≡ true → NoneBad n xs (length xs)
  none_bad = fails_below (length xs) bad

  pub lawful_by_tests : Square n xs → none_below (length xs) bad ≡ true → none_below n from ≡ true → LawfulTable n xs
  lawful_by_tests square entries shortcuts =
      all_lawful n xs square (none_bad entries) (record {
        before_from = λ a b c p q r. no_shortcut_from a (fails_below n from shortcuts a p) b c q r;
        before_via = λ b c p q. absurd (omega arith);
        before_to = λ c p. absurd (omega arith);
      })
