-- Shows that no tree outgrows its slab, and that every slab can be filled.
use Rattle.std.proofs.Common.{◌≡◌, ℕ, zero, suc, pred, ◌+◌, ◌*◌, ◌<◌, ◌≤◌, eqb, ◌⊎◌, List, [], ◌∷◌, ◌++◌, length, sym, refl, ap, subst, subst₂, inl, inr, ⊎_elim, arith, lit≤, length-append}
use Rattle.std.proofs.lemmas.Bool.{cond_both, eqb-true, eqb-false, cases_eq}
use Rattle.orders.specs.declared.Stop.{Stop}
use Rattle.orders.specs.declared.Journey.{Journey}
use Rattle.orders.specs.declared.Booking.{Booking}
use Rattle.orders.specs.declared.Booking.TheVariants.{Waiting, Aboard}
use Rattle.orders.specs.Rules.{Rules}
use Rattle.orders.specs.Bookings.{In, number_of, remaining, served, stops, Ascending}
use Rattle.orders.specs.Walks.{Walk, service, after}
use Rattle.orders.specs.Trees.{Tree, empty, stop, nodes, branch, children, grow, kinetic_tree, tree_row}
use Rattle.orders.specs.Slabs.{slab_size}
use Rattle.orders.specs.Fullest.{boundless, full_van}
use Rattle.orders.specs.Laws.{FitsSlab, FillsSlab}
use Rattle.orders.proofs.Steps.{one_booking, after_ascending, step_cases, children_some, children_none}
use Rattle.orders.proofs.Grown.{branch_of}

-- how many bookings wait, and how many are aboard
abbrev waits : List Booking → ℕ
waits [] = 0
waits (Waiting pickup j ∷ bs) = 1 + waits bs
waits (Aboard since j ∷ bs) = waits bs

abbrev rides : List Booking → ℕ
rides [] = 0
rides (Waiting pickup j ∷ bs) = rides bs
rides (Aboard since j ∷ bs) = 1 + rides bs

-- the most nodes of a tree of a depth, where so many bookings wait and so many are aboard
abbrev most : ℕ → ℕ → ℕ → ℕ
most zero w a = 0
most (suc depth) w a = w * (1 + most depth (pred w) (a + 1)) + a * (1 + most depth w (pred a))

-- what one stop of b changes in the counts
abbrev Counts : Booking → List Booking → List Booking → Type 0
Counts (Waiting pickup j) cs bs = (waits cs + 1 ≡ waits bs) × (rides cs ≡ rides bs + 1)
Counts (Aboard since j) cs bs = (waits cs ≡ waits bs) × (rides cs + 1 ≡ rides bs)

served_counts : (d : ℕ) (b : Booking) (bs : List Booking) → Ascending bs → In b bs → Counts b (served d (number_of b) bs) bs
served_counts d b [] a i = absurd i
served_counts d b (c ∷ cs) a i =
    cond_both (eqb (number_of c) (number_of b)) _ _ (λ l. Counts b l (c ∷ cs))
    (λ e. subst (λ x. Counts x (remaining d c ++ cs) (c ∷ cs)) (one_booking c b (c ∷ cs) a (inl refl) i (eqb-true _ _ e)) (now c))
    (λ e. later b c (eqb-false _ _ e) i (λ j. served_counts d b cs a.1 j))
  where
    now : (c' : Booking) → Counts c' (remaining d c' ++ cs) (c' ∷ cs)
    now (Waiting pickup j) = (omega arith, omega arith)
    now (Aboard since j) = (omega arith, omega arith)

    later : (b' c' : Booking) → (number_of c' ≡ number_of b' → ⊥) → (b' ≡ c') ⊎ In b' cs →
        (In b' cs → Counts b' (served d (number_of b') cs) cs) → Counts b' (c' ∷ served d (number_of b') cs) (c' ∷ cs)
    later b' c' n (inl e) ih = absurd (n (ap number_of (sym e)))
    later (Waiting p j) (Waiting p' j') n (inr i') ih = let h = ih i' in (omega arith, omega arith)
    later (Waiting p j) (Aboard s' j') n (inr i') ih = let h = ih i' in (omega arith, omega arith)
    later (Aboard s j) (Waiting p' j') n (inr i') ih = let h = ih i' in (omega arith, omega arith)
    later (Aboard s j) (Aboard s' j') n (inr i') ih = let h = ih i' in (omega arith, omega arith)

stops_counts : (bs : List Booking) → stops bs ≡ 2 * waits bs + rides bs
stops_counts [] = refl
stops_counts (Waiting pickup j ∷ bs) = let h = stops_counts bs in omega arith
stops_counts (Aboard since j ∷ bs) = let h = stops_counts bs in omega arith

length_counts : (bs : List Booking) → length bs ≡ waits bs + rides bs
length_counts [] = refl
length_counts (Waiting pickup j ∷ bs) = let h = length_counts bs in omega arith
length_counts (Aboard since j ∷ bs) = let h = length_counts bs in omega arith

branch_length : (d : ℕ) (b : Booking) (s : ℕ) (v : Walk) (bs : List Booking) (below beside : Tree) →
    length (nodes d (branch b s v bs below beside)) ≤ 1 + length (nodes (d + 1) below) + length (nodes d beside)
branch_length d b s v [] below beside = omega arith
branch_length d b s v (c ∷ cs) empty beside = omega arith
branch_length d b s v (c ∷ cs) (stop n k s' t x y) beside = let h = length-append (nodes (d + 1) (stop n k s' t x y)) (nodes d beside) in omega arith

module _ (g : Rules) where
  -- the nodes of children, where below a pickup stand ps nodes at most, and below a drop-off ds
  module _ (grows : Walk → Tree) (w : Walk) (d ps ds : ℕ)
      (pickups : (pickup : Stop) (j : Journey) → In (Waiting pickup j) w.bookings →
      length (nodes (d + 1) (grows (after g w (Waiting pickup j)))) ≤ ps)
      (dropoffs : (since : ℕ) (j : Journey) → In (Aboard since j) w.bookings →
      length (nodes (d + 1) (grows (after g w (Aboard since j)))) ≤ ds) where
    abbrev Few : List Booking → Tree → Type 0
    Few bs t = length (nodes d t) ≤ waits bs * (1 + ps) + rides bs * (1 + ds)

    children_length : (bs : List Booking) → ((b : Booking) → In b bs → In b w.bookings) → Few bs (children g grows w bs)
    unfolding children
    children_length [] sub = omega arith
    children_length (b ∷ bs) sub = ⊎_elim
        (λ s. subst (Few (b ∷ bs)) (sym (children_some g grows w b bs (after g w b) s.1)) (one b (sub b (inl refl)) (children_length bs (λ c i. sub c (inr i)))))
        (λ s. subst (Few (b ∷ bs)) (sym (children_none g grows w b bs s.1)) (skipped b (children_length bs (λ c i. sub c (inr i)))))
        (step_cases g w b)
      where
        one : (c : Booking) → In c w.bookings → Few bs (children g grows w bs) →
            Few (c ∷ bs) (branch_of g grows w c (children g grows w bs))
        one (Waiting pickup j) i h =
            let c = Waiting pickup j in
            let p = pickups pickup j i in
            let q = branch_length d c (service g w c) (after g w c) (after g w c).bookings (grows (after g w c)) (children g grows w bs) in
            omega arith
        one (Aboard since j) i h =
            let c = Aboard since j in
            let p = dropoffs since j i in
            let q = branch_length d c (service g w c) (after g w c) (after g w c).bookings (grows (after g w c)) (children g grows w bs) in
            omega arith

        skipped : (c : Booking) → Few bs (children g grows w bs) → Few (c ∷ bs) (children g grows w bs)
        skipped (Waiting pickup j) h = omega arith
        skipped (Aboard since j) h = omega arith

  grow_length : (k d : ℕ) (w : Walk) → Ascending w.bookings →
      length (nodes d (grow g k w)) ≤ most k (waits w.bookings) (rides w.bookings)
  unfolding grow
  grow_length zero d w a = omega arith
  grow_length (suc k) d w a =
      children_length (grow g k) w d _ _
      (λ pickup j i.
      (let b = Waiting pickup j in
      let c = served_counts (after g w b).driven b w.bookings a i in
      subst₂ (λ x y. length (nodes (d + 1) (grow g k (after g w b))) ≤ most k x y) (omega arith) c.1 (grow_length k (d + 1) (after g w b) (after_ascending g w b a))))
      (λ since j i.
      (let b = Aboard since j in
      let c = served_counts (after g w b).driven b w.bookings a i in
      subst₂ (λ x y. length (nodes (d + 1) (grow g k (after g w b))) ≤ most k x y) c.0 (omega arith) (grow_length k (d + 1) (after g w b) (after_ascending g w b a))))
      w.bookings (λ b i. i)

-- where some are aboard already, the tree is smaller
most_fits : (w a : ℕ) → w + a ≤ 4 → most (2 * w + a) w a ≤ slab_size (w + a)
most_fits zero zero h = lit≤ tt
most_fits zero (suc zero) h = lit≤ tt
most_fits zero (suc (suc zero)) h = lit≤ tt
most_fits zero (suc (suc (suc zero))) h = lit≤ tt
most_fits zero (suc (suc (suc (suc zero)))) h = lit≤ tt
most_fits zero (suc (suc (suc (suc (suc a))))) h = absurd (omega arith)
most_fits (suc zero) zero h = lit≤ tt
most_fits (suc zero) (suc zero) h = lit≤ tt
most_fits (suc zero) (suc (suc zero)) h = lit≤ tt
most_fits (suc zero) (suc (suc (suc zero))) h = lit≤ tt
most_fits (suc zero) (suc (suc (suc (suc a)))) h = absurd (omega arith)
most_fits (suc (suc zero)) zero h = lit≤ tt
most_fits (suc (suc zero)) (suc zero) h = lit≤ tt
most_fits (suc (suc zero)) (suc (suc zero)) h = lit≤ tt
most_fits (suc (suc zero)) (suc (suc (suc a))) h = absurd (omega arith)
most_fits (suc (suc (suc zero))) zero h = lit≤ tt
most_fits (suc (suc (suc zero))) (suc zero) h = lit≤ tt
most_fits (suc (suc (suc zero))) (suc (suc a)) h = absurd (omega arith)
most_fits (suc (suc (suc (suc zero)))) zero h = lit≤ tt
most_fits (suc (suc (suc (suc zero)))) (suc a) h = absurd (omega arith)
most_fits (suc (suc (suc (suc (suc w))))) a h = absurd (omega arith)

size_step : (k : ℕ) → k < 4 → slab_size k ≤ slab_size (suc k)
size_step zero h = lit≤ tt
size_step (suc zero) h = lit≤ tt
size_step (suc (suc zero)) h = lit≤ tt
size_step (suc (suc (suc zero))) h = lit≤ tt
size_step (suc (suc (suc (suc k)))) h = absurd (omega arith)

sizes_rise : (k j : ℕ) → j ≤ k → k ≤ 4 → slab_size j ≤ slab_size k
sizes_rise zero j h l = subst (λ x. slab_size x ≤ slab_size zero) (let e : 0 ≡ j = omega arith in e) (omega arith)
sizes_rise (suc k) j h l = ⊎_elim
    (λ (e : j ≡ suc k). subst (λ x. slab_size x ≤ slab_size (suc k)) (sym e) (omega arith))
    (λ (n : j ≡ suc k → ⊥). let p = sizes_rise k j (omega arith) (omega arith) in let q = size_step k (omega arith) in omega arith)
    (cases_eq j (suc k))

pub fits_slab : (g : Rules) → FitsSlab g
unfolding kinetic_tree
fits_slab g k w a h l =
    let bs : List Booking = w.bookings in
    let n = length_counts bs in
    let p = grow_length g (stops bs) 1 w a in
    let q = most_fits (waits bs) (rides bs) (omega arith) in
    let e = ap (λ s. most s (waits bs) (rides bs)) (stops_counts bs) in
    let r = sizes_rise k (waits bs + rides bs) (omega arith) l in
    omega arith

filled : (k : ℕ) → k ≤ 4 → length (tree_row boundless (full_van k)) ≡ slab_size k
unfolding kinetic_tree
filled zero h = refl
filled (suc zero) h = refl
filled (suc (suc zero)) h = refl
filled (suc (suc (suc zero))) h = refl
filled (suc (suc (suc (suc zero)))) h = refl
filled (suc (suc (suc (suc (suc k))))) h = absurd (omega arith)

pub fills_slab : FillsSlab
fills_slab = record {
  lawful = record {
    roads = record { few = (lit≤ tt, lit≤ tt); short = λ a b p q. lit≤ tt; here = λ a p. refl; direct = λ a b c p q r. lit≤ tt };
    exchange = λ h x y a b p q. (tt, refl, refl);
  };
  reached = filled;
}
