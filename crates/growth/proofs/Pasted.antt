-- Shows what memory holds once rows are written to it, one after the other.
use Rattle.std.proofs.Common.{◌≡◌, ℕ, suc, ◌+◌, ◌-◌, ◌<◌, ◌≤◌, List, [], ◌∷◌, ◌++◌, length, get_or, take, drop, set, sym, refl, ap, ◌∙◌, ⊎_elim, append_assoc, arith}
use Rattle.std.proofs.lemmas.List.{length-take, length-drop, length-append, get_or_append_left, get_or-append_right, get_or-take, get_or-drop, take_more_set, drop-set-lt, same_lists, drop_at, take_at, drop-drop}
use Rattle.std.proofs.lemmas.Bool.{cases_lt}
use Rattle.orders.specs.declared.Node.{Node}
use Rattle.growth.specs.Guides.{row}
use Rattle.growth.specs.Memory.{pasted}
use Rattle.growth.proofs.Rows.{row_within}

-- one node written in place of the first of a row
pub pasted_one : (memory : List Node) (at : ℕ) (x : Node) (xs : List Node) → at < length memory → pasted (set memory at x) (at + 1) xs ≡ pasted memory at (x ∷ xs)
pasted_one memory at x xs h =
    ap (λ l. l ++ (xs ++ drop (at + 1 + length xs) (set memory at x))) (take_more_set memory at x h)
    ∙ append_assoc (take at memory) (x ∷ []) (xs ++ drop (at + 1 + length xs) (set memory at x))
    ∙ ap (λ l. take at memory ++ (x ∷ (xs ++ l))) (drop-set-lt (at + 1 + length xs) memory at x (omega arith) ∙ ap (λ n. drop n memory) (let e : at + 1 + length xs ≡ at + suc (length xs) = omega arith in e))

module _ (memory : List Node) (at : ℕ) (xs : List Node) (fits : at + length xs ≤ length memory) where
  front : length (take at memory) ≡ at
  front = let h = length-take at memory in omega arith

  pub pasted_length : length (pasted memory at xs) ≡ length memory
  pasted_length =
      let a = length-append (take at memory) (xs ++ drop (at + length xs) memory) in
      let b = length-append xs (drop (at + length xs) memory) in
      let c = length-drop (at + length xs) memory in
      let d = front in
      omega arith

  -- a node before what is written, in it, or behind it
  get_before : (k : ℕ) (d : Node) → k < at → get_or (pasted memory at xs) k d ≡ get_or memory k d
  get_before k d h =
      let f = front in
      get_or_append_left (take at memory) (xs ++ drop (at + length xs) memory) d k (omega arith) ∙ get_or-take at memory k d h

  get_inside : (k : ℕ) (d : Node) → at ≤ k → k < at + length xs → get_or (pasted memory at xs) k d ≡ get_or xs (k - at) d
  get_inside k d h l =
      get_or-append_right (take at memory) (xs ++ drop (at + length xs) memory) at k d front h
      ∙ get_or_append_left xs (drop (at + length xs) memory) d (k - at) (omega arith)

  get_behind : (k : ℕ) (d : Node) → at + length xs ≤ k → get_or (pasted memory at xs) k d ≡ get_or memory k d
  get_behind k d h =
      get_or-append_right (take at memory) (xs ++ drop (at + length xs) memory) at k d front (omega arith)
      ∙ get_or-append_right xs (drop (at + length xs) memory) (length xs) (k - at) d refl (omega arith)
      ∙ get_or-drop (at + length xs) memory (k - at - length xs) d
      ∙ ap (λ i. get_or memory i d) (let e : at + length xs + (k - at - length xs) ≡ k = omega arith in e)

  -- what was written is read
  pub row_pasted : row (pasted memory at xs) at (at + length xs) ≡ xs
  row_pasted =
      ap (take (at + length xs - at)) (drop_at (take at memory) (xs ++ drop (at + length xs) memory) at front)
      ∙ take_at xs (drop (at + length xs) memory) (at + length xs - at) (omega arith)

  -- a row before what is written is as it was
  pub row_before : (from to : ℕ) → from ≤ to → to ≤ at → row (pasted memory at xs) from to ≡ row memory from to
  row_before from to h l =
      sym (row_within (pasted memory at xs) at from to h l)
      ∙ ap (λ m. row m from to) (take_at (take at memory) (xs ++ drop (at + length xs) memory) at front)
      ∙ row_within memory at from to h l

  -- and so is one behind it
  pub row_behind : (from to : ℕ) → at + length xs ≤ from → row (pasted memory at xs) from to ≡ row memory from to
  row_behind from to h =
      let a = length-append (take at memory) xs in
      let f = front in
      let tail : drop (at + length xs) (pasted memory at xs) ≡ drop (at + length xs) memory =
      ap (drop (at + length xs)) (sym (append_assoc (take at memory) xs (drop (at + length xs) memory))) ∙ drop_at (take at memory ++ xs) (drop (at + length xs) memory) (at + length xs) (omega arith) in
      let e : (from - (at + length xs)) + (at + length xs) ≡ from = omega arith in
      let e' : (at + length xs) + (from - (at + length xs)) ≡ from = omega arith in
      ap (take (to - from)) (
      ap (λ n. drop n (pasted memory at xs)) (sym e')
      ∙ sym (drop-drop (from - (at + length xs)) (at + length xs) (pasted memory at xs))
      ∙ ap (drop (from - (at + length xs))) tail
      ∙ drop-drop (from - (at + length xs)) (at + length xs) memory
      ∙ ap (λ n. drop n memory) e')

module _ (memory : List Node) (a : ℕ) (xs ys : List Node) where
  -- rows one behind the other are one row
  pub pasted_join : a + (length xs + length ys) ≤ length memory → pasted (pasted memory a xs) (a + length xs) ys ≡ pasted memory a (xs ++ ys)
  pasted_join h =
      let l = length-append xs ys in
      let m = pasted_length memory a xs (omega arith) in
      let n = pasted_length (pasted memory a xs) (a + length xs) ys (omega arith) in
      let o = pasted_length memory a (xs ++ ys) (omega arith) in
      same_lists (pasted (pasted memory a xs) (a + length xs) ys) (pasted memory a (xs ++ ys)) (omega arith) (λ k d z. ⊎_elim
      (λ p. get_before (pasted memory a xs) (a + length xs) ys (omega arith) k d (omega arith) ∙ get_before memory a xs (omega arith) k d p ∙ sym (get_before memory a (xs ++ ys) (omega arith) k d p))
      (λ p. ⊎_elim
      (λ q. get_before (pasted memory a xs) (a + length xs) ys (omega arith) k d q ∙ get_inside memory a xs (omega arith) k d p q
      ∙ sym (get_or_append_left xs ys d (k - a) (omega arith)) ∙ sym (get_inside memory a (xs ++ ys) (omega arith) k d p (omega arith)))
      (λ q. ⊎_elim
      (λ r. get_inside (pasted memory a xs) (a + length xs) ys (omega arith) k d q r ∙ ap (λ i. get_or ys i d) (let e : k - (a + length xs) ≡ k - a - length xs = omega arith in e)
      ∙ sym (get_or-append_right xs ys (length xs) (k - a) d refl (omega arith)) ∙ sym (get_inside memory a (xs ++ ys) (omega arith) k d p (omega arith)))
      (λ r. get_behind (pasted memory a xs) (a + length xs) ys (omega arith) k d r ∙ get_behind memory a xs (omega arith) k d q ∙ sym (get_behind memory a (xs ++ ys) (omega arith) k d (omega arith)))
      (cases_lt k (a + length xs + length ys)))
      (cases_lt k (a + length xs)))
      (cases_lt k a))

  -- what is written over is gone
  pub pasted_over : length xs ≤ length ys → a + length ys ≤ length memory → pasted (pasted memory a xs) a ys ≡ pasted memory a ys
  pasted_over s h =
      let m = pasted_length memory a xs (omega arith) in
      let n = pasted_length (pasted memory a xs) a ys (omega arith) in
      let o = pasted_length memory a ys (omega arith) in
      same_lists (pasted (pasted memory a xs) a ys) (pasted memory a ys) (omega arith) (λ k d z. ⊎_elim
      (λ p. get_before (pasted memory a xs) a ys (omega arith) k d p ∙ get_before memory a xs (omega arith) k d p ∙ sym (get_before memory a ys (omega arith) k d p))
      (λ p. ⊎_elim
      (λ q. get_inside (pasted memory a xs) a ys (omega arith) k d p q ∙ sym (get_inside memory a ys (omega arith) k d p q))
      (λ q. get_behind (pasted memory a xs) a ys (omega arith) k d q ∙ get_behind memory a xs (omega arith) k d (omega arith) ∙ sym (get_behind memory a ys (omega arith) k d q))
      (cases_lt k (a + length ys)))
      (cases_lt k a))

  -- rows that lie apart are written in any order
  pub pasted_swap : (b : ℕ) → a + length xs ≤ b → b + length ys ≤ length memory → pasted (pasted memory b ys) a xs ≡ pasted (pasted memory a xs) b ys
  pasted_swap b s h =
      let m = pasted_length memory a xs (omega arith) in
      let m' = pasted_length memory b ys (omega arith) in
      let n = pasted_length (pasted memory a xs) b ys (omega arith) in
      let n' = pasted_length (pasted memory b ys) a xs (omega arith) in
      same_lists (pasted (pasted memory b ys) a xs) (pasted (pasted memory a xs) b ys) (omega arith) (λ k d z. ⊎_elim
      (λ p. get_before (pasted memory b ys) a xs (omega arith) k d p ∙ get_before memory b ys (omega arith) k d (omega arith)
      ∙ sym (get_before memory a xs (omega arith) k d p) ∙ sym (get_before (pasted memory a xs) b ys (omega arith) k d (omega arith)))
      (λ p. ⊎_elim
      (λ q. get_inside (pasted memory b ys) a xs (omega arith) k d p q ∙ sym (get_inside memory a xs (omega arith) k d p q) ∙ sym (get_before (pasted memory a xs) b ys (omega arith) k d (omega arith)))
      (λ q. get_behind (pasted memory b ys) a xs (omega arith) k d q ∙ ⊎_elim
      (λ r. get_before memory b ys (omega arith) k d r ∙ sym (get_behind memory a xs (omega arith) k d q) ∙ sym (get_before (pasted memory a xs) b ys (omega arith) k d r))
      (λ r. ⊎_elim
      (λ t. get_inside memory b ys (omega arith) k d r t ∙ sym (get_inside (pasted memory a xs) b ys (omega arith) k d r t))
      (λ t. get_behind memory b ys (omega arith) k d t ∙ sym (get_behind memory a xs (omega arith) k d q) ∙ sym (get_behind (pasted memory a xs) b ys (omega arith) k d t))
      (cases_lt k (b + length ys)))
      (cases_lt k b))
      (cases_lt k (a + length xs)))
      (cases_lt k a))

-- a row of so many nodes
pub row_length : (memory : List Node) (a n : ℕ) → a + n ≤ length memory → length (row memory a (a + n)) ≡ n
row_length memory a n h = let p = length-take (a + n - a) (drop a memory) in let q = length-drop a memory in omega arith
