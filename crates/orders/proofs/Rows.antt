-- Shows that a row of a tree's nodes guides as the tree does.
use Rattle.std.proofs.Common.{◌≡◌, ℕ, zero, suc, ◌+◌, ◌-◌, ◌≤◌, Bool, cond, eqb, List, [], ◌∷◌, ◌++◌, length, take, drop, replicate, Some, None, Option, sym, refl, ap, ◌∙◌, subst, ap₂, ⊎_elim, append_assoc, arith, length-append}
use lib.Seq.{take-append_seam, drop-append_seam}
use Rattle.std.proofs.lemmas.List.{append-nil}
use Rattle.std.proofs.lemmas.Bool.{cond-true, cond-false, eq-eqb, ne_eqb}
use Rattle.orders.specs.declared.Booking.{Booking}
use Rattle.orders.specs.declared.Node.{Node}
use Rattle.orders.specs.Rules.{Rules}
use Rattle.orders.specs.Bookings.{number_of}
use Rattle.orders.specs.Walks.{Walk, service, after}
use Rattle.orders.specs.Trees.{Tree, empty, stop, nodes, branch}
use Rattle.orders.specs.Slabs.{blank}
use Rattle.orders.specs.Growth.{Ended, seek, guide_row, guided_children, guided}
use Rattle.orders.proofs.Basics.{cond_two}
use Rattle.orders.proofs.Steps.{step_cases, guided_some, guided_none, guided_skip}

-- what stands below the root of number n
abbrev pub below : ℕ → Tree → Option Tree
below n empty = None
below n (stop m k s c under beside) = cond (eqb m n) (Some under) (below n beside)

-- where to look on in the old tree after a stop of number n, if that is to be tried
abbrev pub guide : (ℕ → Bool) → ℕ → Tree → Option Tree
guide new n old = cond (new n) (Some old) (below n old)

-- the nodes of what stands below a root at depth d
abbrev pub row_of : ℕ → Option Tree → Option (List Node)
row_of d None = None
row_of d (Some t) = Some (nodes (d + 1) t)

-- a seek by spans finds what stands below the root
pub seek_below : (t : Tree) (rest : List Node) → Ended rest → (d n fuel : ℕ) → length (nodes d t ++ rest) ≤ fuel →
    seek fuel n (nodes d t ++ rest) ≡ row_of d (below n t)
seek_below empty rest h d n zero l = refl
seek_below empty [] h d n (suc fuel) l = refl
seek_below empty (x ∷ rest) h d n (suc fuel) l = cond-true _ _ _ (eq-eqb x.span 0 h)
seek_below (stop m k s c under beside) rest h d n zero l = absurd (omega arith)
seek_below (stop m k s c under beside) rest h d n (suc fuel) l =
    let e : 1 + length (nodes (d + 1) under) - 1 ≡ length (nodes (d + 1) under) = omega arith in
    let ne : 1 + length (nodes (d + 1) under) ≡ 0 → ⊥ = λ z. omega arith in
    let p = append_assoc (nodes (d + 1) under) (nodes d beside) rest in
    let q = ap length p in
    let r = length-append (nodes (d + 1) under) (nodes d beside ++ rest) in
    cond-false _ _ _ (ne_eqb _ _ ne)
    ∙ cond_two (eqb m n) _ _ _ _ (λ x y. x ≡ row_of d y)
    (λ z. ap (λ i. Some (take i ((nodes (d + 1) under ++ nodes d beside) ++ rest))) e
    ∙ ap (λ xs. Some (take (length (nodes (d + 1) under)) xs)) p
    ∙ ap Some (take-append_seam (nodes (d + 1) under) (nodes d beside ++ rest)))
    (λ z. ap (λ i. seek fuel n (drop i ((nodes (d + 1) under ++ nodes d beside) ++ rest))) e
    ∙ ap (λ xs. seek fuel n (drop (length (nodes (d + 1) under)) xs)) p
    ∙ ap (seek fuel n) (drop-append_seam (nodes (d + 1) under) (nodes d beside ++ rest))
    ∙ seek_below beside rest h d n fuel (omega arith))

-- blanks end a row
pub ended_blanks : (n : ℕ) → Ended (replicate n blank)
ended_blanks zero = tt
ended_blanks (suc n) = refl

-- both are there, and related, or neither is
abbrev Both : {X Y : Type 0} → (X → Y → Type 0) → Option X → Option Y → Type 0
Both Rel None None = Unit {0}
Both Rel None (Some y) = ⊥
Both Rel (Some x) None = ⊥
Both Rel (Some x) (Some y) = Rel x y

-- two guides that give related hints grow one tree
module _ (g : Rules) {X Y : Type 0} (Rel : X → Y → Type 0) (hint : ℕ → X → Option X) (hint' : ℕ → Y → Option Y) (hints : (x : X) (y : Y) → Rel x y → (n : ℕ) → Both Rel (hint n x) (hint' n y)) where
  module _ (grows : X → Walk → Tree) (grows' : Y → Walk → Tree) (same : (x : X) (y : Y) → Rel x y → (v : Walk) → grows x v ≡ grows' y v) (x : X) (y : Y) (w : Walk) where
    abbrev Same : List Booking → Type 0
    Same bs = guided_children g hint grows x w bs ≡ guided_children g hint' grows' y w bs

    one_more : (b : Booking) (bs : List Booking) → Same bs → (o : Option X) → hint (number_of b) x ≡ o → (o' : Option Y) →
        hint' (number_of b) y ≡ o' → Both Rel o o' → Same (b ∷ bs)
    one_more b bs s None e None e' r = guided_skip g hint grows x w b bs e ∙ s ∙ sym (guided_skip g hint' grows' y w b bs e')
    one_more b bs s None e (Some on') e' r = absurd r
    one_more b bs s (Some on) e None e' r = absurd r
    one_more b bs s (Some on) e (Some on') e' r = ⊎_elim
        (λ t. guided_some g hint grows x w b bs on (after g w b) e t.1
        ∙ ap₂ (branch b (service g w b) (after g w b) (after g w b).bookings) (same on on' r (after g w b)) s
        ∙ sym (guided_some g hint' grows' y w b bs on' (after g w b) e' t.1))
        (λ t. guided_none g hint grows x w b bs on e t.1 ∙ s ∙ sym (guided_none g hint' grows' y w b bs on' e' t.1))
        (step_cases g w b)

    children_same : Rel x y → (bs : List Booking) → Same bs
    unfolding guided_children
    children_same r [] = refl
    children_same r (b ∷ bs) = one_more b bs (children_same r bs) (hint (number_of b) x) refl (hint' (number_of b) y) refl (hints x y r (number_of b))

  guided_same : (k : ℕ) (x : X) (y : Y) → Rel x y → (w : Walk) → guided g hint k x w ≡ guided g hint' k y w
  unfolding guided
  guided_same zero x y r w = refl
  guided_same (suc k) x y r w = children_same (guided g hint k) (guided g hint' k) (guided_same k) x y w r w.bookings

-- the row begins with the tree's nodes, and then is over
abbrev Rowed : Tree → List Node → Type 0
Rowed t xs = (d : ℕ) × (rest : List Node) × Ended rest × (xs ≡ nodes d t ++ rest)

rowed_hints : (new : ℕ → Bool) (t : Tree) (xs : List Node) → Rowed t xs → (n : ℕ) → Both Rowed (guide new n t) (guide_row new n xs)
rowed_hints new t xs r n =
    subst (λ ys. Both Rowed (guide new n t) (guide_row new n ys)) (sym r.3)
    (cond_two (new n) _ _ _ _ (Both Rowed) (λ e. (r.0, r.1, r.2, refl))
    (λ e. subst (Both Rowed (below n t)) (sym (seek_below t r.1 r.2 r.0 n (length (nodes r.0 t ++ r.1)) (omega arith))) (found (below n t))))
  where
    found : (o : Option Tree) → Both Rowed o (row_of r.0 o)
    found None = tt
    found (Some u) = (r.0 + 1, [], tt, sym (append-nil (nodes (r.0 + 1) u)))

-- behind the tree's nodes a blank may stand, and anything behind that
pub guided_row : (g : Rules) (new : ℕ → Bool) (k d : ℕ) (t : Tree) (rest : List Node) → Ended rest → (w : Walk) →
    guided g (guide_row new) k (nodes d t ++ rest) w ≡ guided g (guide new) k t w
guided_row g new k d t rest h w = sym (guided_same g Rowed (guide new) (guide_row new) (rowed_hints new) k t (nodes d t ++ rest) (d, rest, h, refl) w)
