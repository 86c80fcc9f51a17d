-- Shows what a van's new tree in its slab does to node memory as a whole.
use Rattle.std.proofs.Common.{◌≡◌, ℕ, ◌+◌, ◌-◌, ◌*◌, ◌<◌, ◌≤◌, Bool, true, List, length, take, drop, Some, None, Option, sym, refl, ap, ◌∙◌, subst, ⊎_elim, add-mul, one-mul, arith}
use Rattle.std.proofs.lemmas.List.{get_or-set_same, get_or-set_other, take_all, length-drop}
use Rattle.std.proofs.lemmas.Bool.{cases_eq}
use Rattle.orders.specs.declared.Node.{Node}
use Rattle.orders.specs.Rules.{Rules}
use Rattle.orders.specs.Slabs.{slab}
use Rattle.growth.specs.declared.guide.Fresh.{Fresh}
use Rattle.growth.specs.declared.memory.Slabs.{Slabs}
use Rattle.growth.specs.declared.walk.Position.{Position}
use Rattle.growth.specs.Guides.{grown_row}
use Rattle.growth.specs.Changes.{Suffices}
use Rattle.growth.specs.Positions.{compact, walk_of}
use Rattle.growth.specs.Positions as positions
use Rattle.growth.specs.Slabs.{slabs_at, own_slab, Laid, Roomy, Replaced, Holds}
use Rattle.growth.proofs.Places.{laid, other_slab}
use Rattle.fleet.specs.declared.state.State.{State}
use Rattle.fleet.specs.declared.state.Van.{Van}
use Rattle.fleet.specs.States.{is_van, van_at, position_of}
use Rattle.fleet.specs.SoundTest.{is_sound}
use Rattle.fleet.proofs.Soundness.{Sound, SoundVan, sound_of, sound_at, number_within, at_index}
use Rattle.outcomes.specs.Settled.{slab_nodes, needed, slab_at, van_row, van_slab, Settled, Writes, Regrown}

-- the position of a sound van is sound
pub position_sound : (clock limit : ℕ) (w : Van) → SoundVan clock limit w → positions.Sound (position_of w)
position_sound clock limit w h = record { driven = h.driven; cost = omega arith; ascending = h.its.ascending; four = h.its.four }

-- a van's slab has room for its tree
pub van_roomy : (s : State) → Sound s → (w : Van) → SoundVan s.clock s.open_limit w → Roomy (slab_nodes s) (compact w.bookings)
van_roomy s h w v = record { limit = s.open_limit; few = v.its.few; most = h.four; enough = omega arith }

-- what growing asks of a van on duty is given
pub ready : (s : State) → is_sound s ≡ true → (v : ℕ) → is_van s v ≡ true → (w : Van) → van_at s v ≡ Some w → (nodes : List Node) → needed s ≤ length nodes → (slabs : Slabs) (p : Position) →
    slabs ≡ slabs_at (v - 1) s.size (slab_nodes s) → p ≡ position_of w → positions.Sound p × Laid nodes slabs × Roomy slabs.size (compact p.bookings)
ready s h v i w e nodes room slabs p f q =
    let known = sound_of s h in
    let n = number_within s v i in
    let low = n.0 in
    let high = n.1 in
    let van = sound_at s known (v - 1) w e in
    subst (λ x. positions.Sound x × Laid nodes slabs × Roomy slabs.size (compact x.bookings)) (sym q)
    (subst (λ x. positions.Sound (position_of w) × Laid nodes x × Roomy x.size (compact w.bookings)) (sym f)
    (position_sound _ _ w van, laid (v - 1) s.size (slab_nodes s) nodes (omega arith) room, van_roomy s known w van))

module _ (g : Rules) (s : State) (fresh : Fresh) (old : List Node → List Node) (nodes nodes' : List Node) where
  -- the slabs are replaced by what grows from a position along the old nodes
  abbrev Grew : Slabs → Position → Type 0
  Grew slabs p =
      Replaced nodes slabs (grown_row g fresh (old (own_slab nodes slabs)) (walk_of p)) nodes'
      × (Suffices g fresh (old (own_slab nodes slabs)) (walk_of p) → Holds g nodes' slabs (walk_of p))

  pub regrown_from : (i : ℕ) (slabs : Slabs) (p : Position) (w : Van) → slabs ≡ slabs_at i s.size (slab_nodes s) → p ≡ position_of w →
      Replaced nodes slabs (grown_row g fresh (old (own_slab nodes slabs)) (walk_of p)) nodes' →
      (Suffices g fresh (old (own_slab nodes slabs)) (walk_of p) → Holds g nodes' slabs (walk_of p)) →
      Regrown g s i fresh (old (slab_at s nodes i)) w nodes nodes'
  regrown_from i slabs p w e f r x =
      let all = subst (λ q. Grew (slabs_at i s.size (slab_nodes s)) q) f (subst (λ z. Grew z p) e (r, x)) in
      record { replaced = all.0; exact = all.1 }

-- the same for the van that stands there, by whatever name
pub regrown_at : (g : Rules) (s : State) (i : ℕ) (fresh : Fresh) (old : List Node) (o : Option Van) (v w : Van) (nodes nodes' : List Node) → o ≡ Some v → o ≡ Some w →
    Regrown g s i fresh old v nodes nodes' → Regrown g s i fresh old w nodes nodes'
regrown_at g s i fresh old o v w nodes nodes' e f r = let h : v ≡ w = cc in subst (λ x. Regrown g s i fresh old x nodes nodes') h r

-- nothing is written: all stays as it is
pub unwritten : (g : Rules) (s : State) (nodes : List Node) (touched : ℕ → Type 0) (t : Bool) → Writes g s nodes touched t s nodes
unwritten g s nodes touched t = record { settled = λ h. h; others = λ i l e. refl; beyond = refl; refused = λ e. refl }

-- the part behind the slabs is as it was
pub same_beyond : (memory after xs : List Node) (van vans size : ℕ) → length after ≡ length memory → (vans + 1) * size ≤ length memory → Replaced memory (slabs_at van vans size) xs after →
    drop ((vans + 1) * size) after ≡ drop ((vans + 1) * size) memory
same_beyond memory after xs van vans size l room r =
    let n = (vans + 1) * size in
    let e : vans * size + size ≡ n = let a = add-mul vans 1 size in let b = one-mul size in omega arith in
    let b = r.behind n (n + length memory) (omega arith) in
    let whole : (m : List Node) → length m ≡ length memory → take ((n + length memory) - n) (drop n m) ≡ drop n m = λ m k. take_all _ (drop n m) (let d = length-drop n m in omega arith) in
    sym (whole after l) ∙ b ∙ whole memory refl

-- one van changes, and its slab is replaced by its new tree
module _ (g : Rules) (s : State) (h : is_sound s ≡ true) (nodes nodes' : List Node) (room : needed s ≤ length nodes) (same : length nodes' ≡ length nodes)
    (i : ℕ) (within : i < s.size) (o : Option Van) (xs : List Node) (r : Replaced nodes (slabs_at i s.size (slab_nodes s)) xs nodes') where
  abbrev after : State
  after = at_index s i o

  known : i < length s.vans
  known = let k = sound_of s h in let m = k.most in let n = k.long in omega arith

  other : (j : ℕ) → j < s.size → (j ≡ i → ⊥) → slab_at s nodes' j ≡ slab_at s nodes j
  other j l n = other_slab nodes xs nodes' i s.size (slab_nodes s) j r l n

  pub one_written : (touched : ℕ → Type 0) → touched i → (Settled g s nodes → slab_at s nodes' i ≡ slab (slab_nodes s) (van_row g o)) → Writes g s nodes touched true after nodes'
  one_written touched its exact = record {
    settled = λ a. record {
      room = let m = a.room in omega arith;
      each = λ j l. ⊎_elim
          (λ (e : j ≡ i). subst (λ k. slab_at s nodes' k ≡ van_slab g after k) (sym e)
          (exact a ∙ ap (λ x. slab (slab_nodes s) (van_row g x)) (sym (get_or-set_same s.vans i o None known))))
          (λ (n : j ≡ i → ⊥). other j l n ∙ a.each j l ∙ ap (λ x. slab (slab_nodes s) (van_row g x)) (sym (get_or-set_other s.vans i j o None n)))
          (cases_eq j i);
      work = r.work;
    };
    others = λ j l no. other j l (λ e. no (subst touched (sym e) its));
    beyond = same_beyond nodes nodes' xs i s.size (slab_nodes s) same room r;
    refused = λ e. absurd (let z : ◌≡◌ {A = ℕ} 0 1 = cc in omega arith);
  }
