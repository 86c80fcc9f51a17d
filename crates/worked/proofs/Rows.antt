-- Each row of the worked examples holds, by computing it.
use Rattle.std.proofs.Common.{ℕ, List, [], ◌∷◌, refl, inl, arith, lit<, lit≤}
use Rattle.roads.specs.declared.RoadFault.TheVariants.{Detour}
use Rattle.roads.specs.Tables.{Square}
use Rattle.std.specs.List.{AllByRecursion}
use Rattle.orders.specs.Trees.{step, children, grow, kinetic_tree}
use Rattle.orders.specs.Walks.{departs}
use Rattle.worked.specs.Examples.{Example, Holds, rows, table_refused, served_by}
use Rattle.worked.specs.Town.{parcels, parcel, van_one}
use Rattle.worked.proofs.Orders.{Computes, holds}
use Rattle.worked.proofs.Tables.{fails_below, none_bad, through, no_shortcut_through, lawful_by_tests}

-- three places in a row, 5 seconds apart, the ends that many seconds apart
abbrev ends : ℕ → List ℕ
ends n = 0 ∷ 5 ∷ n ∷ 5 ∷ 0 ∷ 5 ∷ n ∷ 5 ∷ 0 ∷ []

square : (n : ℕ) → Square 3 (ends n)
square n = record { few = (lit≤ tt, lit≤ tt); full = refl }

shortcut_found : Holds (table_refused 3 (ends 11) 6 66)
shortcut_found = (
  Detour 0 1 2,
  (
    square 11,
    none_bad 3 (ends 11) refl,
    record {
      within = (lit< tt, lit< tt, lit< tt);
      shorter = refl;
      none_before = record {
        before_from = λ a b c p q r. absurd (omega arith);
        before_via = λ b c p q. no_shortcut_through 3 (ends 11) 0 b (fails_below 1 (through 3 (ends 11) 0) refl b p) c q;
        before_to = fails_below 2 _ refl;
      };
    },
  ),
  refl,
  refl,
)

-- an order's stops, served each at its second
stops_of_parcel : Computes (served_by parcels (van_one (parcel ∷ [])) (9 ∷ 9 ∷ []) (500 ∷ 600 ∷ []))
unfolding departs
stops_of_parcel = (parcel, inl refl, refl, refl, (_, inl refl, refl, refl, refl))

rows_compute : AllByRecursion Computes rows
unfolding departs step children grow kinetic_tree
rows_compute = (
  (_, refl, refl),
  (
    refl,
    (
      refl,
      (
        shortcut_found,
        (
          lawful_by_tests 3 (ends 10) (square 10) refl refl,
          (
            refl,
            (
              refl,
              (
                refl,
                (
                  (([], 0), (7 ∷ 7 ∷ [], 200), refl, refl, refl),
                  (
                    ((7 ∷ 7 ∷ [], 200), (7 ∷ 7 ∷ 8 ∷ 8 ∷ [], 300), refl, refl, refl),
                    (
                      refl,
                      (
                        refl,
                        (
                          refl,
                          (
                            stops_of_parcel,
                            (refl, (refl, (refl, (refl, (refl, (refl, tt)))))),
                          ),
                        ),
                      ),
                    ),
                  ),
                ),
              ),
            ),
          ),
        ),
      ),
    ),
  ),
)

all_hold : (xs : List Example) → AllByRecursion Computes xs → AllByRecursion Holds xs
all_hold [] h = tt
all_hold (x ∷ xs) h = (holds x h.0, all_hold xs h.1)

pub rows_hold : AllByRecursion Holds rows
rows_hold = all_hold rows rows_compute
