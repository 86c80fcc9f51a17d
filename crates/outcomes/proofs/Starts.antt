-- Shows that a new dispatcher's state is sound and its vans are housed, and that blank nodes are settled for it.
use Rattle.std.proofs.Common.{◌≡◌, ℕ, zero, suc, ◌+◌, ◌-◌, ◌*◌, ◌≤◌, true, ◌&&◌, leb, List, ◌++◌, length, get_or, take, drop, replicate, None, Ok, Option, sym, refl, ap, ◌∙◌, subst, add-mul, one-mul, arith}
use Rattle.std.proofs.lemmas.List.{length-append, length-replicate, drop-append-le, drop-replicate, take-append-le, take-replicate}
use Rattle.std.proofs.lemmas.Bool.{and_parts, leb-true, le-leb}
use Rattle.orders.specs.declared.Node.{Node}
use Rattle.orders.specs.Bookings.{In}
use Rattle.orders.specs.Rules.{Rules}
use Rattle.orders.specs.Slabs.{slab_size, blank, slab}
use Rattle.van_slab.specs.Limits.{is_limit}
use Rattle.growth.specs.Guides.{row}
use Rattle.growth.specs.Memory.{pasted}
use Rattle.growth.proofs.Places.{earlier}
use Rattle.fleet.specs.declared.refusal.Refusal.TheVariants.{VanCount, OpenLimit, TooFewNodes}
use Rattle.fleet.specs.declared.state.Van.{Van}
use Rattle.fleet.specs.SoundTest.{is_sound_place, all_off, numbers_on, is_sound}
use Rattle.fleet.specs.States.{check}
use Rattle.fleet.specs.Housed.{Housed}
use Rattle.fleet.proofs.Accepted.{none_some}
use Rattle.fleet.proofs.Soundness.{sound_test}
use Rattle.outcomes.specs.Settled.{needed, van_row, Settled}
use Rattle.outcomes.specs.Outcomes.{new_state, Made}

-- no van is on duty
abbrev nobody : ℕ → List (Option Van)
nobody k = replicate k None

nobody_at : (k i : ℕ) → get_or (nobody k) i None ≡ None
nobody_at zero i = refl
nobody_at (suc k) zero = refl
nobody_at (suc k) (suc i) = nobody_at k i

nobody_off : (k : ℕ) → all_off (nobody k) ≡ true
nobody_off zero = refl
nobody_off (suc k) = nobody_off k

-- a new state has no van on duty that would have to be housed
pub new_housed : (g : Rules) (vans limit : ℕ) → Housed g (new_state vans limit)
new_housed g vans limit = record { each = λ i w e. absurd (none_some (sym (nobody_at 32 i) ∙ e)) }

-- blank nodes in front of others
blank_row : (n k size : ℕ) (rest : List Node) → k + size ≤ n → row (replicate n blank ++ rest) k (k + size) ≡ replicate size blank
blank_row n k size rest h =
    let long = length-replicate n blank in
    let shorter = length-replicate (n - k) blank in
    let e : (k + size) - k ≡ size = omega arith in
    ap (λ m. take m (drop k (replicate n blank ++ rest))) e
    ∙ ap (take size) (drop-append-le k (replicate n blank) rest (omega arith) ∙ ap (λ l. l ++ rest) (drop-replicate k n blank))
    ∙ take-append-le size (replicate (n - k) blank) rest (omega arith)
    ∙ take-replicate size (n - k) blank (omega arith)

module _ (vans limit : ℕ) (some : (leb 1 vans && leb vans 32) ≡ true) (is : is_limit limit ≡ true) where
  pub new_sound : is_sound (new_state vans limit) ≡ true
  new_sound =
      let p = and_parts (leb 1 vans) (leb vans 32) some in
      let q = and_parts (leb 1 limit) (leb limit 4) is in
      sound_test (new_state vans limit) (record {
        one = leb-true _ _ p.0;
        most = leb-true _ _ p.1;
        some = leb-true _ _ q.0;
        four = leb-true _ _ q.1;
        week = omega arith;
        long = length-replicate 32 (NoneVan);
        each = λ i. ap (is_sound_place 0 limit) (nobody_at 32 i);
        off = ap all_off (drop-replicate vans 32 NoneVan) ∙ nobody_off (32 - vans);
        once = λ n i j p q. absurd (subst (λ o. In n (numbers_on o)) (nobody_at 32 i) p);
      })
    where
      NoneVan : Option Van
      NoneVan = None

  module _ (g : Rules) (nodes : List Node) (room : needed (new_state vans limit) ≤ length nodes) where
    abbrev size : ℕ
    size = slab_size limit

    abbrev whole : ℕ
    whole = needed (new_state vans limit)

    settled : Settled g (new_state vans limit) (replicate whole blank ++ drop whole nodes)
    settled =
        let l = length-append (replicate whole blank) (drop whole nodes) in
        let r = length-replicate whole blank in
        let next = add-mul vans 1 size in
        let one = one-mul size in
        record {
          room = omega arith;
          each = λ i h.
              (blank_row whole (i * size) size (drop whole nodes) (let b = earlier i vans size h in omega arith)
              ∙ ap (λ m. replicate m blank) (let z : size ≡ size - 0 = omega arith in z)
              ∙ ap (λ o. slab size (van_row g o)) (sym (nobody_at 32 i)));
          work = blank_row whole (vans * size) size (drop whole nodes) (omega arith);
        }

    pub new_made : (count : ℕ) (nodes' : List Node) → count ≡ whole → nodes' ≡ pasted nodes 0 (replicate count blank) → Made g vans limit nodes (new_state vans limit) nodes'
    new_made count nodes' c e =
        let long = length-replicate whole blank in
        let f : nodes' ≡ replicate whole blank ++ drop whole nodes =
        e ∙ ap (λ n. pasted nodes 0 (replicate n blank)) c ∙ ap (λ n. replicate whole blank ++ drop n nodes) (let z : 0 + length (replicate whole blank) ≡ whole = omega arith in z) in
        record {
          state = ap (λ t. check t VanCount (check (is_limit limit) OpenLimit (check (leb whole (length nodes)) TooFewNodes (Ok (new_state vans limit))))) some
              ∙ ap (λ t. check t OpenLimit (check (leb whole (length nodes)) TooFewNodes (Ok (new_state vans limit)))) is
              ∙ ap (λ t. check t TooFewNodes (Ok (new_state vans limit))) (le-leb _ _ room);
          blanks = f;
          settled = subst (Settled g (new_state vans limit)) (sym f) settled;
        }
