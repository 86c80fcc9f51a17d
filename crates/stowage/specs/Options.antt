-- An answer is there or not, and what follows from either.
use Rattle.std.specs.Prelude.{◌≡◌, Bool, true, false, T, Some, None, Option, refl}
use Rattle.std.proofs.Common.{sym}
use Rattle.std.proofs.lemmas.Option.{none-some}
use Rattle.stowage.specs.Figures.{when}

-- two answers that have the same values are equal
pub same_answers : {X : Type 0} (o p : Option X) → ((x : X) → o ≡ Some x → p ≡ Some x) → ((x : X) → p ≡ Some x → o ≡ Some x) → o ≡ p
same_answers None None there back = refl
same_answers None (Some x) there back = back x refl
same_answers (Some x) p there back = sym (there x refl)

-- a test that passes makes, and what was made passed
pub when_so : {X : Type 0} (b : Bool) (t : T b) (make : T b → X) → Some (make t) ≡ when b make
when_so true t make = refl
when_so false t make = absurd t

pub when_some : {X : Type 0} (b : Bool) (make : T b → X) (x : X) → when b make ≡ Some x → (t : T b) × (make t ≡ x)
when_some true make x e = (tt, let e' : Some (make tt) ≡ Some x = e in cc)
when_some false make x e = absurd (none-some x e)
