-- Shows that no fault refuses a lawful table.
use Rattle.std.proofs.Common.{◌≡◌, ℕ, ◌+◌, ◌*◌, ◌/◌, ◌%◌, ◌<◌, ◌≤◌, true, List, length, get_or, sym, ap, ◌∙◌, arith}
use Rattle.std.proofs.lemmas.Nat.{div_below, mod_below, div-add-mod'}
use Rattle.std.proofs.lemmas.Bool.{ltb-true}
use Rattle.std.proofs.lemmas.Bool.Decides.{nat_tests}
use Rattle.roads.specs.declared.RoadFault.TheVariants.{Size, Entry, East, South, Detour}
use Rattle.roads.specs.TableFaults.{NoFault}
use Rattle.roads.specs.Tables.{LawfulTable, bad_entry, table_trip}

-- an entry that is no longer than a trip may be, and 0 from a place to itself, is not bad
good : (n k s : ℕ) → s ≤ 14400 → (k / n ≡ k % n → s ≡ 0) → bad_entry n k s ≡ true → ⊥
good n k s short here bad = grind (arith, nat_tests)

-- no entry of a lawful table is bad
good_entry : (n : ℕ) (xs : List ℕ) (i : ℕ) → LawfulTable n xs → i < length xs → bad_entry n i (get_or xs i 0) ≡ true → ⊥
good_entry n xs i l lt =
    let some : 0 < n = omega arith in
    let row : i / n < n = div_below i n n some (omega arith) in
    let col : i % n < n = mod_below i n some in
    let at : get_or xs (i / n * n + i % n) 0 ≡ get_or xs i 0 = ap (λ k. get_or xs k 0) (div-add-mod' i n) in
    good n i (get_or xs i 0) (omega (arith, l.lawful.short (i / n) (i % n) row col, at))
    (λ e. sym at ∙ ap (λ k. table_trip n xs (i / n) k) (sym e) ∙ l.lawful.here (i / n) row)

-- each fault is a law that does not hold
pub no_fault : (n : ℕ) (xs : List ℕ) → NoFault n xs
no_fault n xs Size r l = r l.square
no_fault n xs (Entry i) r l = good_entry n xs i l r.1.within r.1.bad
no_fault n xs East r l = r
no_fault n xs South r l = r
no_fault n xs (Detour a b c) r l =
    let w = r.2.within in
    omega (arith, ltb-true _ _ r.2.shorter, l.lawful.direct a b c w.0 w.1 w.2)
