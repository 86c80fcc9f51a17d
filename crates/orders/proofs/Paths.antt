-- Shows what a row of a tree's nodes says of the tree: the paths of its nodes, its orders, and the spans.
use Rattle.std.proofs.Common.{◌≡◌, ℕ, ◌+◌, ◌-◌, ◌<◌, ◌≤◌, Bool, true, false, cond, eqb, ltb, List, [], ◌∷◌, ◌++◌, map, length, take, sym, refl, ap, ◌∙◌, subst, ap₂, append_assoc, append-nil, arith, length-append, length-take, take_all, take-take}
use lib.Seq.{take-append-le}
use Rattle.std.proofs.lemmas.Bool.{ne_eqb, cond-true, cond-false, lt-ltb, ltb-false, le-ltb}
use Rattle.orders.specs.declared.Node.{Node}
use Rattle.orders.specs.Orders.{Order}
use Rattle.orders.specs.Trees.{Tree, empty, stop, nodes, Pathed, paths, ending, listed}
use Rattle.orders.specs.Listings.{prefixed, orders, deeper, Spans}
use Rattle.orders.proofs.Basics.{map_append}

-- the nodes of a tree with their paths
abbrev pub tree_paths : ℕ → Tree → List Pathed
tree_paths d empty = []
tree_paths d (stop n k s c below beside) =
    (n ∷ [], record { booking = n; kind = k; depth = d; span = 1 + length (nodes (d + 1) below); second = s; cost = c }) ∷ (map (prefixed n) (tree_paths (d + 1) below) ++ tree_paths d beside)

-- the path goes on from another
abbrev onto : List ℕ → Pathed → Pathed
onto path q = (path ++ q.0, q.1)

map_onto : (path : List ℕ) (n : ℕ) (qs : List Pathed) → map (onto (path ++ (n ∷ []))) qs ≡ map (onto path) (map (prefixed n) qs)
map_onto path n [] = refl
map_onto path n (q ∷ qs) = ap₂ (λ (x : Pathed) (xs : List Pathed). x ∷ xs) (ap (λ o. (o, q.1)) (append_assoc path (n ∷ []) q.0)) (map_onto path n qs)

map_onto_nil : (qs : List Pathed) → map (onto []) qs ≡ qs
map_onto_nil [] = refl
map_onto_nil (q ∷ qs) = ap (λ l. q ∷ l) (map_onto_nil qs)

-- the paths of a row hang only on the first d stops of the path before it
abbrev Hangs : ℕ → List Node → Type 0
Hangs d xs = (p q : List ℕ) → d ≤ length p → d ≤ length q → take d p ≡ take d q → paths p xs ≡ paths q xs

-- a tree's nodes stand in a row, before the rest of it
abbrev Rowed : Tree → Type 0
Rowed t = (d : ℕ) (rest : List Node) (path : List ℕ) → d ≤ length path → Hangs d rest → paths path (nodes (d + 1) t ++ rest) ≡ map (onto (take d path)) (tree_paths (d + 1) t) ++ paths path rest

hangs_rowed : (t : Tree) → Rowed t → (d : ℕ) (rest : List Node) → Hangs d rest → Hangs (d + 1) (nodes (d + 1) t ++ rest)
hangs_rowed t ih d rest h p q lp lq e =
    let l : take d p ≡ take d q = sym (take-take d (d + 1) p (omega arith)) ∙ ap (take d) e ∙ take-take d (d + 1) q (omega arith) in
    ih d rest p (omega arith) h
    ∙ ap₂ (λ (a : List ℕ) (b : List Pathed). map (onto a) (tree_paths (d + 1) t) ++ b) l (h p q (omega arith) (omega arith) l)
    ∙ sym (ih d rest q (omega arith) h)

module _ (n : ℕ) (below beside : Tree) (rb : Rowed below) (rs : Rowed beside) (d : ℕ) (rest : List Node) (path : List ℕ) (lw : d ≤ length path) (h : Hangs d rest) where
  -- the row from a stop on: what is below it, what is beside it, and the rest
  from_stop : paths (take d path ++ (n ∷ [])) ((nodes (d + 1 + 1) below ++ nodes (d + 1) beside) ++ rest) ≡ map (onto (take d path)) (map (prefixed n) (tree_paths (d + 1 + 1) below)) ++ (map (onto (take d path)) (tree_paths (d + 1) beside) ++ paths path rest)
  from_stop =
      let here : List ℕ = take d path ++ (n ∷ []) in
      let lt : length (take d path) ≡ d = simp length-take (omega arith) in
      let lh : length here ≡ d + 1 = simp length-append (omega arith) in
      let e : take d here ≡ take d path = take-append-le d (take d path) (n ∷ []) (omega arith) ∙ take-take d d path (omega arith) in
      ap (paths here) (append_assoc (nodes (d + 1 + 1) below) (nodes (d + 1) beside) rest)
      ∙ rb (d + 1) (nodes (d + 1) beside ++ rest) here (omega arith) (hangs_rowed beside rs d rest h)
      ∙ ap₂ (λ (a : List ℕ) (b : List Pathed). map (onto a) (tree_paths (d + 1 + 1) below) ++ b) (take_all (d + 1) here (omega arith))
      (rs d rest here (omega arith) h ∙ ap₂ (λ (a : List ℕ) (b : List Pathed). map (onto a) (tree_paths (d + 1) beside) ++ b) e (h here path (omega arith) lw e))
      ∙ ap (λ l. l ++ (map (onto (take d path)) (tree_paths (d + 1) beside) ++ paths path rest)) (map_onto (take d path) n (tree_paths (d + 1 + 1) below))

rowed : (t : Tree) → Rowed t
rowed empty d rest path lw h = refl
rowed (stop n k s c below beside) d rest path lw h =
    let e : d + 1 - 1 ≡ d = omega arith in
    let x : Node = record { booking = n; kind = k; depth = d + 1; span = 1 + length (nodes (d + 1 + 1) below); second = s; cost = c } in
    ap (λ m. first m x (paths (take m path ++ (n ∷ [])) ((nodes (d + 1 + 1) below ++ nodes (d + 1) beside) ++ rest))) e
    ∙ ap (first d x)
    (from_stop n below beside (rowed below) (rowed beside) d rest path lw h
    ∙ sym (append_assoc (map (onto (take d path)) (map (prefixed n) (tree_paths (d + 1 + 1) below))) (map (onto (take d path)) (tree_paths (d + 1) beside)) (paths path rest))
    ∙ ap (λ l. l ++ paths path rest) (sym (map_append (onto (take d path)) (map (prefixed n) (tree_paths (d + 1 + 1) below)) (tree_paths (d + 1) beside))))
  where
    first : ℕ → Node → List Pathed → List Pathed
    first m x qs = (take m path ++ (n ∷ []), x) ∷ qs

-- the paths of a row of a tree's nodes are the tree's
pub paths_nodes : (t : Tree) → paths [] (nodes 1 t) ≡ tree_paths 1 t
paths_nodes t =
    ap (paths []) (sym (append-nil (nodes 1 t))) ∙ rowed t 0 [] [] (omega arith) (λ p q lp lq e. refl) ∙ append-nil (map (onto []) (tree_paths 1 t)) ∙ map_onto_nil (tree_paths 1 t)

ending_append : (ps qs : List Pathed) → ending (ps ++ qs) ≡ ending ps ++ ending qs
ending_append [] qs = refl
ending_append (p ∷ ps) qs = by_test (ending_append ps qs) (eqb p.1.span 1)
  where
    by_test : ending (ps ++ qs) ≡ ending ps ++ ending qs → (b : Bool) →
        cond b ((p.0, p.1.cost) ∷ ending (ps ++ qs)) (ending (ps ++ qs)) ≡ cond b ((p.0, p.1.cost) ∷ ending ps) (ending ps) ++ ending qs
    by_test ih true = ap (λ (l : List Order). (p.0, p.1.cost) ∷ l) ih
    by_test ih false = ih

ending_prefixed : (n : ℕ) (qs : List Pathed) → ending (map (prefixed n) qs) ≡ map (prefixed n) (ending qs)
ending_prefixed n [] = refl
ending_prefixed n (q ∷ qs) = by_test (ending_prefixed n qs) (eqb q.1.span 1)
  where
    by_test : ending (map (prefixed n) qs) ≡ map (prefixed n) (ending qs) → (b : Bool) →
        cond b ((n ∷ q.0, q.1.cost) ∷ ending (map (prefixed n) qs)) (ending (map (prefixed n) qs)) ≡ map (prefixed n) (cond b ((q.0, q.1.cost) ∷ ending qs) (ending qs))
    by_test ih true = ap (λ (l : List Order). (n ∷ q.0, q.1.cost) ∷ l) ih
    by_test ih false = ih

-- the orders end at the nodes of span 1
ending_paths : (t : Tree) (d : ℕ) → ending (tree_paths d t) ≡ orders t
ending_paths empty d = refl
ending_paths (stop n k s c empty beside) d = ap (λ (l : List Order). (n ∷ [], c) ∷ l) (ending_paths beside d)
ending_paths (stop n k s c (stop n' k' s' c' x y) beside) d =
    let below : Tree = stop n' k' s' c' x y in
    let f : eqb (1 + length (nodes (d + 1) below)) 1 ≡ false = ne_eqb _ 1 (λ z. omega arith) in
    cond-false _ _ _ f
    ∙ ending_append (map (prefixed n) (tree_paths (d + 1) below)) (tree_paths d beside)
    ∙ ap₂ (λ (a b : List Order). a ++ b) (ending_prefixed n (tree_paths (d + 1) below) ∙ ap (map (prefixed n)) (ending_paths (stop n' k' s' c' x y) (d + 1))) (ending_paths beside d)

-- a row of a tree's nodes lists the tree's orders
pub listed_nodes : (t : Tree) → listed (nodes 1 t) ≡ orders t
listed_nodes t = ap ending (paths_nodes t) ∙ ending_paths t 1

-- all of a tree's nodes stand below what is less deep
deeper_nodes : (t : Tree) (d e : ℕ) (rest : List Node) → d < e → deeper d (nodes e t ++ rest) ≡ length (nodes e t) + deeper d rest
deeper_nodes empty d e rest h = omega arith
deeper_nodes (stop n k s c below beside) d e rest h =
    let b = deeper_nodes below d (e + 1) (nodes e beside ++ rest) (omega arith) in
    let r = deeper_nodes beside d e rest h in
    let a = ap (deeper d) (append_assoc (nodes (e + 1) below) (nodes e beside) rest) in
    let l = length-append (nodes (e + 1) below) (nodes e beside) in
    cond-true _ _ _ (lt-ltb d e h) ∙ (omega arith)

-- a row that begins no deeper than this
abbrev Shallow : ℕ → List Node → Type 0
Shallow d xs = deeper d xs ≡ 0

shallow_more : (d : ℕ) (xs : List Node) → Shallow d xs → Shallow (d + 1) xs
shallow_more d [] h = refl
shallow_more d (x ∷ xs) h = by_test (ltb d x.depth) refl h
  where
    by_test : (b : Bool) → ltb d x.depth ≡ b → cond b (1 + deeper d xs) 0 ≡ 0 → Shallow (d + 1) (x ∷ xs)
    by_test true e z = absurd (omega arith)
    by_test false e z = cond-false _ _ _ (le-ltb (d + 1) x.depth (omega (arith, ltb-false d x.depth e)))

shallow_nodes : (t : Tree) (d : ℕ) (rest : List Node) → Shallow d rest → Shallow d (nodes d t ++ rest)
shallow_nodes empty d rest h = h
shallow_nodes (stop n k s c below beside) d rest h = cond-false _ _ _ (le-ltb d d (omega arith))

spans_rowed : (t : Tree) (d : ℕ) (rest : List Node) → Shallow d rest → Spans rest → Spans (nodes d t ++ rest)
spans_rowed empty d rest h s = s
spans_rowed (stop n k s c below beside) d rest h r =
    let e = append_assoc (nodes (d + 1) below) (nodes d beside) rest in
    let z = shallow_nodes beside d rest h in
    let q = deeper_nodes below d (d + 1) (nodes d beside ++ rest) (omega arith) in
    subst (λ xs. (1 + length (nodes (d + 1) below) ≡ 1 + deeper d xs) × Spans xs) (sym e)
    (omega arith, spans_rowed below (d + 1) (nodes d beside ++ rest) (shallow_more d (nodes d beside ++ rest) z) (spans_rowed beside d rest h r))

-- each node's span counts itself and all below it
pub spans_nodes : (t : Tree) → Spans (nodes 1 t)
spans_nodes t = subst Spans (append-nil (nodes 1 t)) (spans_rowed t 1 [] refl tt)
