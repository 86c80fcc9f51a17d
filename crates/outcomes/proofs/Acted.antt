-- Shows how a call on the state carries over to the dispatcher: nodes enough, a sound state after it, and refusals.
use Rattle.std.proofs.Common.{◌≡◌, ℕ, ◌≤◌, Bool, true, false, leb, List, length, is_ok, ok_or, Some, None, Ok, Err, Option, Result, sym, refl, ap, ◌∙◌, subst}
use Rattle.std.proofs.lemmas.Bool.{leb-true, le-leb}
use Rattle.orders.specs.declared.Node.{Node}
use Rattle.orders.specs.Rules.{Rules}
use Rattle.fleet.specs.declared.refusal.Refusal.{Refusal}
use Rattle.fleet.specs.declared.refusal.Refusal.TheVariants.{TooFewNodes}
use Rattle.fleet.specs.declared.state.State.{State}
use Rattle.stowage.specs.Figures.{required}
use Rattle.fleet.specs.States.{check, no_answer, Acts, Changes}
use Rattle.fleet.specs.SoundTest.{is_sound}
use Rattle.fleet.proofs.Accepted.{never}
use Rattle.outcomes.specs.Settled.{needed, Writes}
use Rattle.outcomes.specs.Outcomes.{with_nodes}
use Rattle.outcomes.proofs.Written.{unwritten}

-- a check that did not refuse has passed
pub passes : (t : Bool) (f : Refusal) (x : Unit {0}) → Ok x ≡ required t f → t ≡ true
passes true f x e = refl
passes false f x e = absurd (never (sym e))

-- the check for nodes enough has passed
pub enough : (s : State) (nodes : List Node) (t : Bool) (x : Unit {0}) → t ≡ leb (needed s) (length nodes) → Ok x ≡ required t TooFewNodes → needed s ≤ length nodes
enough s nodes t x e f = leb-true _ _ (sym e ∙ passes t TooFewNodes x f)

-- what an option was, by what is made of it
pub was_some : {X : Type 0} (o : Option X) (f : Refusal) (x : X) → ok_or o f ≡ Ok x → o ≡ Some x
was_some None f x e = absurd (never e)
was_some (Some y) f x e = let g : y ≡ x = cc in ap Some g

pub was_none : {X : Type 0} (o : Option X) (f h : Refusal) → ok_or o f ≡ Err h → o ≡ None
was_none None f h e = refl
was_none (Some y) f h e = absurd (never (sym e))

-- a call with nodes enough goes on
pub goes_on : {X : Type 0} (s : State) (count : ℕ) (on : Result X Refusal) → needed s ≤ count → with_nodes s count on ≡ on
goes_on s count on h = ap (λ t. check t TooFewNodes on) (le-leb _ _ h)

-- where there is nothing to tell, the state is all that is left
pub nothing_told : (o : Result State Refusal) (q : State × Unit {0}) → no_answer o ≡ Ok q → o ≡ Ok q.0
nothing_told (Ok s) q e = let f : (s, tt) ≡ q = cc in ap (λ (p : State × Unit {0}). Ok p.0) f
nothing_told (Err f) q e = absurd (never e)

-- a call that changes the state, and has nothing to tell, acts
pub acts : (o : Result State Refusal) (s s' : State) (r : Result (Unit {0}) Refusal) → Changes o s s' r → Acts (no_answer o) s s' r
acts (Ok x) s s' r a = a
acts (Err f) s s' r a = a

-- and the other way round
pub changes : (o : Result State Refusal) (s s' : State) (r : Result (Unit {0}) Refusal) → Acts (no_answer o) s s' r → Changes o s s' r
changes (Ok x) s s' r a = a
changes (Err f) s s' r a = a

module _ (s s' : State) where
  -- an accepted change leads to a sound state, and a refused one leaves it
  pub changed_sound : (o : Result State Refusal) (r : Result (Unit {0}) Refusal) → is_sound s ≡ true → ((q : State) → o ≡ Ok q → is_sound q ≡ true) → Changes o s s' r → is_sound s' ≡ true
  changed_sound (Ok q) r h keeps a = subst (λ x. is_sound x ≡ true) (sym a.0) (keeps q refl)
  changed_sound (Err f) r h keeps a = subst (λ x. is_sound x ≡ true) (sym a.0) h

  -- an answer tells that the change was accepted
  pub changed : (o : Result State Refusal) (r : Result (Unit {0}) Refusal) (x : Unit {0}) → Changes o s s' r → r ≡ Ok x → o ≡ Ok s'
  changed (Ok q) r x a e = ap (λ y. Ok y) (sym a.0)
  changed (Err f) r x a e = absurd (never (sym a.1 ∙ e))

  -- a refusal tells that nothing has changed, so that nothing needs to be written
  pub unchanged : (g : Rules) (nodes : List Node) (touched : ℕ → Type 0) (b : Bool) (o : Result State Refusal) (r : Result (Unit {0}) Refusal) (f : Refusal) → Changes o s s' r → r ≡ Err f → Writes g s nodes touched b s' nodes
  unchanged g nodes touched b (Ok q) r f a e = absurd (never (sym e ∙ a.1))
  unchanged g nodes touched b (Err h) r f a e = subst (λ x. Writes g s nodes touched b x nodes) (sym a.0) (unwritten g s nodes touched b)

module _ {X : Type 0} (s s' : State) where
  -- an accepted call leads to a sound state, and a refused one leaves it
  pub acted_sound : (o : Result (State × X) Refusal) (r : Result X Refusal) → is_sound s ≡ true → ((q : State × X) → o ≡ Ok q → is_sound q.0 ≡ true) → Acts o s s' r → is_sound s' ≡ true
  acted_sound (Ok q) r h keeps a = subst (λ x. is_sound x ≡ true) (sym a.0) (keeps q refl)
  acted_sound (Err f) r h keeps a = subst (λ x. is_sound x ≡ true) (sym a.0) h

  -- an answer tells that the call was accepted
  pub acted : (o : Result (State × X) Refusal) (r : Result X Refusal) (x : X) → Acts o s s' r → r ≡ Ok x → o ≡ Ok (s', x)
  acted (Ok q) r x a e = let y : q.1 ≡ x = let b = a.1 in cc in (λ i. Ok (sym a.0 i, y i))
  acted (Err f) r x a e = absurd (never (sym a.1 ∙ e))

  -- a refusal tells that nothing has changed
  pub refused_same : (o : Result (State × X) Refusal) (r : Result X Refusal) (f : Refusal) → Acts o s s' r → r ≡ Err f → s' ≡ s
  refused_same (Ok q) r f a e = absurd (never (sym e ∙ a.1))
  refused_same (Err h) r f a e = a.0

  -- so that nothing needs to be written
  pub idle : (g : Rules) (nodes : List Node) (touched : ℕ → Type 0) (b : Bool) (o : Result (State × X) Refusal) (r : Result X Refusal) (f : Refusal) → Acts o s s' r → r ≡ Err f → Writes g s nodes touched b s' nodes
  idle g nodes touched b o r f a e = subst (λ x. Writes g s nodes touched b x nodes) (sym (refused_same o r f a e)) (unwritten g s nodes touched b)

  -- a refusal is handed on, and nothing has changed
  pub handed_on : (g : Rules) (nodes : List Node) (touched : ℕ → Type 0) (o on : Result (State × X) Refusal) (r r' : Result X Refusal) (f f' : Refusal) → on ≡ o → Acts o s s' r → r ≡ Err f → r' ≡ Err f' → f' ≡ f →
      Acts on s s' r' × Writes g s nodes touched (is_ok r') s' nodes
  handed_on g nodes touched o on r r' f f' e a p q m = (
    subst (λ x. Acts x s s' r') (sym e) (subst (Acts o s s') (p ∙ ap (λ x. Err x) (sym m) ∙ sym q) a),
    subst (λ x. Writes g s nodes touched (is_ok r') x nodes) (sym (refused_same o r f a p)) (unwritten g s nodes touched (is_ok r')),
  )

-- a change that needs nothing written
pub told_by : (s s' : State) (g : Rules) (nodes : List Node) (touched : ℕ → Type 0) (o : Result State Refusal) (r : Result (Unit {0}) Refusal) → Changes o s s' r →
    (o ≡ Ok s' → Writes g s nodes touched true s' nodes) → Writes g s nodes touched (is_ok r) s' nodes
told_by s s' g nodes touched (Ok x) r a keeps =
    subst (λ y. Writes g s nodes touched (is_ok y) s' nodes) (sym a.1) (keeps (ap (λ y. Ok y) (sym a.0)))
told_by s s' g nodes touched (Err f) r a keeps = subst (λ x. Writes g s nodes touched (is_ok r) x nodes) (sym a.0) (unwritten g s nodes touched (is_ok r))
