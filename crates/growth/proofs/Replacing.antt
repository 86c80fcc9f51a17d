-- Shows that the own slab takes over what was grown in the working slab, and then holds the tree.
use denote.Ref.{Bor}
use Rattle.std.proofs.Common.{◌≡◌, ℕ, ◌+◌, ◌-◌, ◌≤◌, List, [], ◌++◌, length, take, drop, replicate, Some, None, Option, unwrap_or, sym, refl, ap, ◌∙◌, subst, append_assoc, arith}
use Rattle.std.proofs.lemmas.List.{length-append, length-replicate, length-drop, drop-drop}
use Rattle.std.specs.List.{copy_within}
use Rattle.orders.specs.declared.Node.{Node}
use Rattle.orders.specs.Rules.{Rules, Lawful}
use Rattle.orders.specs.Walks.{Walk}
use Rattle.orders.specs.Trees.{nodes}
use Rattle.orders.specs.Slabs.{blank, slab}
use Rattle.orders.specs.Growth.{seek}
use Rattle.orders.specs.Laws.{below_root}
use Rattle.growth.specs.declared.guide.Fresh.{Fresh}
use Rattle.growth.specs.declared.memory.Slabs.{Slabs}
use Rattle.growth.specs.declared.walk.Position.{Position}
use Rattle.growth.specs.Positions.{compact, walk_of, Sound}
use Rattle.growth.specs.Guides.{row, found, grown_row}
use Rattle.growth.specs.Changes.{Suffices}
use Rattle.growth.specs.Memory.{pasted}
use Rattle.growth.specs.Slabs.{own_slab, Laid, Roomy, Replaced, Holds}
use Rattle.growth.proofs.Changed.{whole}
use Rattle.growth.proofs.Counts.{grown_fits}
use Rattle.growth.proofs.Rows.{row_within}
use Rattle.growth.proofs.Pasted.{pasted_length, pasted_join, pasted_over, pasted_swap, row_pasted, row_before, row_behind, row_length}

module _ (memory : List Node) (s : Slabs) (laid : Laid memory s) (xs : List Node) (fits : length xs ≤ s.size) where
  abbrev blanks : List Node
  blanks = replicate s.size blank

  blanks_long : length blanks ≡ s.size
  blanks_long = length-replicate s.size blank

  slab_long : length (slab s.size xs) ≡ s.size
  slab_long = let a = length-append xs (replicate (s.size - length xs) blank) in let b = length-replicate (s.size - length xs) blank in omega arith

  -- the memory with the own slab written
  abbrev half : List Node
  half = pasted memory s.own (slab s.size xs)

  own_fits : s.own + length (slab s.size xs) ≤ length memory
  own_fits = let a = laid.apart in let b = laid.room in let e = slab_long in omega arith

  work_fits : s.work + length blanks ≤ length half
  work_fits = let b = laid.room in let e = blanks_long in let l = pasted_length memory s.own (slab s.size xs) own_fits in omega arith

  -- what else holds of the memory so written
  replaced_half : Replaced memory s xs (pasted half s.work blanks)
  replaced_half =
      let apart = laid.apart in
      let e = slab_long in
      let e' = blanks_long in
      record {
        written = refl;
        own = row_before half s.work blanks work_fits s.own (s.own + s.size) (omega arith) apart
            ∙ ap (λ n. row half s.own (s.own + n)) (sym slab_long)
            ∙ row_pasted memory s.own (slab s.size xs) own_fits;
        work = ap (λ n. row (pasted half s.work blanks) s.work (s.work + n)) (sym blanks_long) ∙ row_pasted half s.work blanks work_fits;
        before = λ from to h l.
            (row_before half s.work blanks work_fits from to h (omega arith) ∙ row_before memory s.own (slab s.size xs) own_fits from to h l);
        between = λ from to k h l.
            (row_before half s.work blanks work_fits from to h l ∙ row_behind memory s.own (slab s.size xs) own_fits from to (omega arith));
        behind = λ from to k.
            (row_behind half s.work blanks work_fits from to (omega arith) ∙ row_behind memory s.own (slab s.size xs) own_fits from to (omega arith));
      }

  replaced_by : (after : List Node) → after ≡ pasted half s.work blanks → Replaced memory s xs after
  replaced_by after e = subst (Replaced memory s xs) (sym e) replaced_half

  -- the working slab had the row, and it was taken over
  pub taken_over : (memory₁ after : List Node) (count : ℕ) → count ≡ length xs → memory₁ ≡ pasted memory s.work xs → Replaced memory₁ s (row memory₁ s.work (s.work + count)) after → Replaced memory s xs after
  taken_over memory₁ after count c e r =
      let apart = laid.apart in
      let room = laid.room in
      let long = slab_long in
      let long' = blanks_long in
      let same = pasted_length memory s.own (slab s.size xs) own_fits in
      let there : row memory₁ s.work (s.work + count) ≡ xs =
      (λ i. row (e i) s.work (s.work + c i)) ∙ row_pasted memory s.work xs (omega arith) in
      replaced_by after
      (r.written
      ∙ (λ i. pasted (pasted (e i) s.own (slab s.size (there i))) s.work blanks)
      ∙ ap (λ m. pasted m s.work blanks) (pasted_swap memory s.own (slab s.size xs) xs s.work (omega arith) (omega arith))
      ∙ pasted_over half s.work xs blanks (omega arith) (omega arith))

-- so many nodes are copied as a row
copied : (memory : List Node) (from to count : ℕ) → from + count ≤ length memory → copy_within memory from (from + count) to ≡ pasted memory to (row memory from (from + count))
copied memory from to count h =
    let xs = row memory from (from + count) in
    let long = row_length memory from count h in
    append_assoc (take to memory) xs (drop (to + (from + count - from)) memory)
    ∙ ap (λ n. take to memory ++ (xs ++ drop n memory)) (let e : to + (from + count - from) ≡ to + length xs = omega arith in e)

-- copied, filled up with blanks, and the working slab cleared
pub copied_over : (memory : List Node) (s : Slabs) → Laid memory s → (count : ℕ) → count ≤ s.size → (memory₁ memory₂ after : List Node) →
    memory₁ ≡ copy_within memory s.work (s.work + count) s.own →
    memory₂ ≡ pasted memory₁ (s.own + count) (replicate (s.size - count) blank) →
    after ≡ pasted memory₂ s.work (replicate s.size blank) →
    Replaced memory s (row memory s.work (s.work + count)) after
copied_over memory s laid count fits memory₁ memory₂ after e₁ e₂ e₃ =
    let apart = laid.apart in
    let room = laid.room in
    let xs = row memory s.work (s.work + count) in
    let long = row_length memory s.work count (omega arith) in
    let filled = length-replicate (s.size - length xs) blank in
    replaced_by memory s laid xs (omega arith) after
    (e₃
    ∙ ap (λ m. pasted m s.work (replicate s.size blank))
    (e₂
    ∙ (λ i. pasted ((e₁ ∙ copied memory s.work s.own count (omega arith)) i) (s.own + sym long i) (replicate (s.size - sym long i) blank))
    ∙ pasted_join memory s.own xs (replicate (s.size - length xs) blank) (omega arith)))

-- the own slab then holds the tree, if the old nodes sufficed
now_holds : (g : Rules) (lawful : Lawful g) (fresh : Fresh) (old : List Node) (w : Walk) (memory : List Node) (s : Slabs) (after : List Node) →
    Replaced memory s (grown_row g fresh old w) after → Suffices g fresh old w → Holds g after s w
now_holds g lawful fresh old w memory s after r enough = r.own ∙ ap (λ t. slab s.size (nodes 1 t)) (whole g lawful fresh old w enough)

-- the nodes before the working slab have the own slab as the memory has it
pub own_before : (memory : List Node) (s : Slabs) → Laid memory s → (vans : List Node) → vans ≡ take s.work memory → own_slab vans s ≡ own_slab memory s
own_before memory s laid vans v = ap (λ m. own_slab m s) v ∙ row_within memory s.work s.own (s.own + s.size) (omega arith) laid.apart

-- the nodes below a root, if it was found, and none if it was not
pub below_found : (n : ℕ) (old : List Node) (o : Option (Bor (List Node))) (none : Bor (List Node)) → none.now ≡ [] → found o ≡ seek (length old) n old → (unwrap_or o none).now ≡ below_root n old
below_found n old None none e f = e ∙ ap (λ o. unwrap_or o []) f
below_found n old (Some h) none e f = ap (λ o. unwrap_or o []) f

-- a tree grows along `read` into the working slab, and then goes into the own slab
module _ (g : Rules) (fresh : Fresh) (p : Position) (sound : Sound p) (memory : List Node) (s : Slabs) (laid : Laid memory s) (roomy : Roomy s.size (compact p.bookings)) (read : List Node) where
  abbrev grows : List Node
  grows = grown_row g fresh read (walk_of p)

  slab_fits : length grows ≤ s.size
  slab_fits = let f = grown_fits g fresh read roomy.limit (walk_of p) sound.ascending roomy.few roomy.most in let e = roomy.enough in omega arith

  pub work_fits_row : (work : List Node) → work ≡ drop s.work memory → length grows ≤ length work
  work_fits_row work w = let f = slab_fits in let r = laid.room in let e = ap length w in let l = length-drop s.work memory in omega arith

  pub count_fits : (count : ℕ) → count ≡ length grows → count ≤ s.size
  count_fits count c = let f = slab_fits in omega arith

  pub regrown : (lawful : Lawful g) (old : List Node) → read ≡ old → (vans work work' after : List Node) (count : ℕ) →
      vans ≡ take s.work memory → work ≡ drop s.work memory → work' ≡ pasted work 0 grows → count ≡ length grows →
      Replaced (vans ++ work') s (row (vans ++ work') s.work (s.work + count)) after →
      Replaced memory s (grown_row g fresh old (walk_of p)) after × (count ≡ length (grown_row g fresh old (walk_of p))) × (Suffices g fresh old (walk_of p) → Holds g after s (walk_of p))
  regrown lawful old same vans work work' after count v w grown c r =
      let written : vans ++ work' ≡ pasted memory s.work grows =
      (λ i. v i ++ (grown ∙ ap (λ m. pasted m 0 grows) w) i)
      ∙ ap (λ rest. take s.work memory ++ (grows ++ rest)) (drop-drop (0 + length grows) s.work memory ∙ ap (λ n. drop n memory) (let e : s.work + (0 + length grows) ≡ s.work + length grows = omega arith in e)) in
      let replaced = subst (λ o. Replaced memory s (grown_row g fresh o (walk_of p)) after) same (taken_over memory s laid grows slab_fits (vans ++ work') after count c written r) in
      (replaced, c ∙ ap (λ o. length (grown_row g fresh o (walk_of p))) same, now_holds g lawful fresh old (walk_of p) memory s after replaced)
