-- Shows that a square table with no bad entry and no shortcut is lawful.
use Rattle.std.proofs.Common.{◌≡◌, ℕ, ◌+◌, ◌*◌, ◌/◌, ◌%◌, ◌<◌, ◌≤◌, false, List, length, sym, ◌∙◌, arith}
use Rattle.std.proofs.lemmas.Nat.{mul-add-lt, div-mul-add, mod-mul-add}
use Rattle.std.proofs.lemmas.Bool.{ltb-false}
use Rattle.std.proofs.lemmas.Bool.Decides.{nat_tests}
use Rattle.roads.specs.Tables.{Square, NoneBad, NoShortcut, LawfulTable, bad_entry, table_trip}

-- an entry that is not bad is no longer than a trip may be
good_short : (n k s : ℕ) → bad_entry n k s ≡ false → s ≤ 14400
good_short n k s e = grind (arith, nat_tests)

-- an entry that is not bad is 0 from a place to itself
good_here : (n k s : ℕ) → k / n ≡ k % n → bad_entry n k s ≡ false → s ≡ 0
good_here n k s d e = grind (arith, nat_tests)

module _ (n : ℕ) (xs : List ℕ) (sq : Square n xs) where
  -- two places have a position in the table
  within : (a b : ℕ) → a < n → b < n → a * n + b < length xs
  within a b p q = omega (arith, mul-add-lt a n b n p q, sq.full)

  module _ (good : NoneBad n xs (length xs)) where
    -- no trip of a table with no bad entry is too long
    pub trips_short : (a b : ℕ) → a < n → b < n → table_trip n xs a b ≤ 14400
    trips_short a b p q = good_short n (a * n + b) (table_trip n xs a b) (good (a * n + b) (within a b p q))

    -- nor does one from a place to itself take time
    trips_here : (a : ℕ) → a < n → table_trip n xs a a ≡ 0
    trips_here a p =
        good_here n (a * n + a) (table_trip n xs a a) (div-mul-add a n a p ∙ sym (mod-mul-add a n a p))
        (good (a * n + a) (within a a p p))

    -- with no shortcut either, the table is lawful
    pub all_lawful : NoShortcut n (table_trip n xs) n 0 0 → LawfulTable n xs
    all_lawful none = record {
      square = sq;
      lawful = record {
        few = sq.few;
        short = trips_short;
        here = trips_here;
        direct = λ a b c p q r. ltb-false _ _ (none.before_from a b c p q r);
      };
    }
