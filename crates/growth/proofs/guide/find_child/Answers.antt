-- Behind a node's span the search goes on as a seek does.
use Rattle.std.proofs.Common.{◌≡◌, ℕ, zero, suc, ◌-◌, ◌≤◌, cond, eqb, List, [], ◌∷◌, length, drop, None, sym, refl, ap, ◌∙◌, arith}
use Rattle.std.proofs.lemmas.List.{length-drop, drop_min}
use Rattle.std.proofs.lemmas.Bool.{cond-false, ne_eqb}
use Rattle.orders.specs.declared.Node.{Node}
use Rattle.orders.specs.Growth.{seek}
use Rattle.orders.proofs.Basics.{cond_two}
use Rattle.growth.proofs.guide.find_child.Goals as goal

-- more fuel than nodes makes no difference
seek_fuel : (f f' n : ℕ) (xs : List Node) → length xs ≤ f → length xs ≤ f' → seek f n xs ≡ seek f' n xs
seek_fuel zero zero n xs l l' = refl
seek_fuel zero (suc f') n [] l l' = refl
seek_fuel zero (suc f') n (x ∷ xs) l l' = absurd (omega arith)
seek_fuel (suc f) zero n [] l l' = refl
seek_fuel (suc f) zero n (x ∷ xs) l l' = absurd (omega arith)
seek_fuel (suc f) (suc f') n [] l l' = refl
seek_fuel (suc f) (suc f') n (x ∷ xs) l l' =
    let q = length-drop (x.span - 1) xs in
    ap (cond (eqb x.span 0) None)
    (cond_two (eqb x.booking n) _ _ _ _ (λ p q. p ≡ q) (λ e. refl) (λ e. seek_fuel f f' n (drop (x.span - 1) xs) (omega arith) (omega arith)))

seek_on : (n : ℕ) (x : Node) (xs rest beside : List Node) → rest ≡ x ∷ xs → beside ≡ drop (x.span - 1) xs → (x.span ≡ 0 → ⊥) → (x.booking ≡ n → ⊥) → seek (length beside) n beside ≡ seek (length rest) n rest
seek_on n x xs rest beside r b z e =
    let q = length-drop (x.span - 1) xs in
    ap (λ ys. seek (length ys) n ys) b
    ∙ seek_fuel (length (drop (x.span - 1) xs)) (length xs) n (drop (x.span - 1) xs) (omega arith) (omega arith)
    ∙ sym (cond-false _ _ _ (ne_eqb x.span 0 z) ∙ cond-false _ _ _ (ne_eqb x.booking n e))
    ∙ ap (λ ys. seek (length ys) n ys) (sym r)

pub loop-node-preserved : goal.loop-node-preserved
loop-node-preserved c =
    let cut = c.split_at.ensures.back ∙ ap (λ k. drop k c.in-Some.behind.now) c.min.ensures ∙ drop_min (c.in-Some.node.now.span - 1) c.in-Some.behind.now in
    seek_on c.args.booking c.in-Some.node.now c.in-Some.behind.now c.loop-node.rest.now c.split_at.result.1.now c.in-Some.ensures.cases.0 cut c.if-node-eq0.false c.if-node-booking.false
    ∙ c.loop-node.invariant
