-- A hold of two sums, limited by a test that less never fails, keeps the law of exchange.
use Rattle.std.specs.Prelude.{◌≡◌, ℕ, ◌+◌, ◌*◌, ◌≤◌, Bool, true, false, T, Option, nat_le, refl}
use Rattle.std.proofs.Common.{sym, ap, ◌∙◌, arith}
use Rattle.std.proofs.lemmas.Float.{T_from_true}
use Rattle.std.proofs.lemmas.Bool.{le-leb, leb-true, and_parts, and_from}
use Rattle.stowage.specs.Figures.{when}
use Rattle.stowage.specs.Laws.{Exchange}
use Rattle.stowage.specs.Limits.{seating_room, cargo_room}
use Rattle.stowage.specs.Options.{when_so, when_some}

-- the test passes with less
abbrev Falls : (ℕ → ℕ → Bool) → Type 0
Falls room = (a b c d : ℕ) → a ≤ c → b ≤ d → T (room c d) → T (room a b)

module _ {Hold : Type 0} (room : ℕ → ℕ → Bool) (first second : Hold → ℕ) (make : (a b : ℕ) → T (room a b) → Hold)
    (first_made : (a b : ℕ) (t : T (room a b)) → first (make a b t) ≡ a)
    (second_made : (a b : ℕ) (t : T (room a b)) → second (make a b t) ≡ b) (falls : Falls room) where
  abbrev made : ℕ → ℕ → Option Hold
  made a b = when (room a b) (make a b)

  pub sums_exchange : Exchange (λ h l. made (first h + l.first) (second h + l.second))
  sums_exchange h x y a b e f =
      let s = when_some _ _ x e in
      let x₁ : first x ≡ first h + a.first = sym (ap first s.1) ∙ first_made _ _ _ in
      let x₂ : second x ≡ second h + a.second = sym (ap second s.1) ∙ second_made _ _ _ in
      let t = when_some _ _ y f in
      let u : T (room (first h + b.first) (second h + b.second)) =
      falls _ _ (first x + b.first) (second x + b.second) (omega arith) (omega arith) t.0 in
      let z = make (first h + b.first) (second h + b.second) u in
      let z₁ : first z ≡ first h + b.first = first_made _ _ u in
      let z₂ : second z ≡ second h + b.second = second_made _ _ u in
      let p : first z + a.first ≡ first x + b.first = omega arith in
      let q : second z + a.second ≡ second x + b.second = omega arith in
      (z, sym (when_so _ u (make _ _)), (λ i. made (p i) (q i)) ∙ f)

true_from : (b : Bool) → T b → b ≡ true
true_from true t = refl
true_from false t = absurd t

pub seating_falls : Falls seating_room
seating_falls a b c d h k t =
    let s = and_parts (nat_le (c + 2 * d) 8) (nat_le d 2) (true_from _ t) in
    let seats = leb-true (c + 2 * d) 8 s.0 in
    let wheelchairs = leb-true d 2 s.1 in
    T_from_true _ (and_from _ _ (le-leb (a + 2 * b) 8 (omega arith)) (le-leb b 2 (omega arith)))

pub cargo_falls : Falls cargo_room
cargo_falls a b c d h k t =
    let s = and_parts (nat_le c 6000) (nat_le d 900) (true_from _ t) in
    let litres = leb-true c 6000 s.0 in
    let kilograms = leb-true d 900 s.1 in
    T_from_true _ (and_from _ _ (le-leb a 6000 (omega arith)) (le-leb b 900 (omega arith)))
