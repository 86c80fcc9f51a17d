-- Shows that a fold over the bytes of a field, digit by digit, gives the number that the field writes.
use Rattle.std.proofs.Common.{◌≡◌, ℕ, ◌+◌, ◌-◌, ◌*◌, ◌^◌, ◌<◌, ◌≤◌, leb, Bool, true, false, cond, ◌&&◌, List, [], ◌∷◌, length, Some, None, Option, Bor, sym, refl, ap, subst, ◌∙◌, pow-suc, add-one, arith}
use Rattle.std.proofs.Math.Nat.{pow-le-pow_right}
use Rattle.std.proofs.lemmas.Bool.{and_parts, leb-true}
use Rattle.std.proofs.lemmas.Fn.{serves_by}
use Rattle.std.proofs.lemmas.List.{length_push}
use Rattle.std.proofs.lemmas.Option.{same_Some}
use Rattle.std.proofs.iter.Yields.{fronts}
use Rattle.std.specs.ControlFlow.{continue_value}
use Rattle.std.specs.Fn.{Called, Takes}
use Rattle.std.specs.Iterator.{Yields, TryFoldTurn, TryFoldsItems, CallableAtEachTurn}
use Rattle.std.specs.List.{FoldsTo}
use Rattle.std.specs.Option.{MatchOption}
use Rattle.std.specs.declared.slice.Iter.{Iter}
use denote.Param.Members.{Mut}
use Rattle.text.specs.Numbers.{is_digit, all_digits, value_after, decimal, with_next}

-- The number that digits write after those that wrote n, if they are digits.
abbrev read_after : ℕ → List ℕ → Option ℕ
read_after n bs = cond (all_digits bs) (Some (value_after n bs)) None

-- The same, where there is a number to begin with.
abbrev then_read : Option ℕ → List ℕ → Option ℕ
then_read None bs = None
then_read (Some n) bs = read_after n bs

-- the first byte decides with what number the others go on
read_next : (n b : ℕ) (bs : List ℕ) → read_after n (b ∷ bs) ≡ then_read (with_next n b) bs
read_next n b bs = by_digit (is_digit b)
  where
    by_digit : (d : Bool) → cond (d && all_digits bs) (Some (value_after (n * 10 + (b - 48)) bs)) None ≡ then_read (cond d (Some (n * 10 + (b - 48))) None) bs
    by_digit true = refl
    by_digit false = refl

-- one more digit keeps the number below the next power of ten
next_below : (n b m k : ℕ) → Some m ≡ with_next n b → n < 10 ^ k → m < 10 ^ (k + 1)
next_below n b m k e small = by_digit (is_digit b) refl e
  where
    by_digit : (d : Bool) → is_digit b ≡ d → Some m ≡ cond d (Some (n * 10 + (b - 48))) None → m < 10 ^ (k + 1)
    by_digit false t s = cc
    by_digit true t s =
        let q = same_Some m (n * 10 + (b - 48)) s in
        let top = leb-true b 57 (and_parts (leb 48 b) (leb b 57) t).1 in
        rw (add-one, pow-suc) (omega arith)

few_below : (n k : ℕ) → k ≤ 9 → n < 10 ^ k → n < 10 ^ 10
few_below n k few small = omega (arith, pow-le-pow_right {n = 10} (omega arith) {i = k} {j = 10} (omega arith))

-- one or more bytes write the number that is read of them after none
read_all : (bs : List ℕ) → 0 < length bs → read_after 0 bs ≡ decimal bs
read_all [] some = absurd (omega arith)
read_all (b ∷ bs) some = refl

read_none : (n : ℕ) (bs : List ℕ) → length bs ≡ 0 → read_after n bs ≡ Some n
read_none n [] none = refl
read_none n (b ∷ bs) none = absurd (omega arith)

gone : (xs : List (Bor ℕ)) (s t : Iter ℕ) → Yields fronts s xs t → length s.rest.now ≡ length xs + length t.rest.now
gone [] s t y = omega (arith, ap (λ (k : Iter ℕ). length k.rest.now) y)
gone (x ∷ xs) s t y = omega (arith, gone xs y.0 t y.2, ap length y.1)

-- A call gives the number with the next digit behind it.
module _ {F : Type 0} (g : Mut F (ℕ × (Bor ℕ × Unit {0})) (Option ℕ)) (tests : (f : F) (n : ℕ) (x : Bor ℕ) (r : Option ℕ) (h : F) → Called g f (n, (x, tt)) r h → r ≡ with_next n x.now) where
  -- a turn that goes on
  abbrev Turn : F × ℕ → Bor ℕ → F × ℕ → Type 0
  Turn p x q = (v : Option ℕ) × Called g p.0 (p.1, (x, tt)) v q.0 × (v ≡ Some q.1)

  -- each call of a fold over ten bytes at most is at a number of nine digits at most
  pub fold_callable : ((f : F) (n : ℕ) (x : Bor ℕ) → n < 10 ^ 10 → Takes g f (n, (x, tt))) → (field : List ℕ) (s : Iter ℕ) (f : F) → s.rest.now ≡ field → length field ≤ 10 →
      CallableAtEachTurn {P = F × ℕ} fronts Turn (λ p x. Takes g p.0 (p.1, (x, tt))) s (f, 0)
  fold_callable takes field s f are few =
      serves_by Turn (λ (xs : List (Bor ℕ)) (q : F × ℕ). q.1 < 10 ^ length xs)
      (λ xs q x v j c. subst (λ n. v.1 < 10 ^ n) (sym (length_push xs x)) (next_below q.1 x.now v.1 (length xs) (sym c.2 ∙ tests q.0 q.1 x c.0 v.0 c.1) j))
      fronts (λ p x. Takes g p.0 (p.1, (x, tt))) s (f, 0) (omega arith)
      (λ xs t q x u y step j. takes q.0 q.1 x (few_below q.1 (length xs) (omega (arith, gone xs s t y, ap length step, ap length are)) j))

module _ (E : Type 0) {F : Type 0} (g : Mut F (ℕ × (Bor ℕ × Unit {0})) (Option ℕ)) (tests : (f : F) (n : ℕ) (x : Bor ℕ) (r : Option ℕ) (h : F) → Called g f (n, (x, tt)) r h → r ≡ with_next n x.now) where
  -- what was read of the front, with what is left, is what there was
  goes_on : (xs : List (Bor ℕ)) (s t : Iter ℕ) → Yields fronts s xs t → (f h : F) (a b : ℕ) → FoldsTo {P = F × ℕ} (TryFoldTurn {E = E} g (λ v k. v ≡ continue_value k)) (f, a) xs (h, b) →
      read_after a s.rest.now ≡ read_after b t.rest.now
  goes_on [] s t y f h a b c = λ i. read_after (c i).1 (y i).rest.now
  goes_on (x ∷ xs) s t y f h a b c =
      let is : Some c.0.1 ≡ with_next a x.now = sym c.1.2 ∙ tests f a x c.1.0 c.0.0 c.1.1 in
      ap (read_after a) y.1 ∙ read_next a x.now y.0.rest.now ∙ ap (λ o. then_read o y.0.rest.now) (sym is) ∙ goes_on xs y.0 t y.2 c.0.0 h c.0.1 b c.2

  pub read_by_fold : (field : List ℕ) (s u : Iter ℕ) (f : F) (r : Option ℕ) → s.rest.now ≡ field → 0 < length field → TryFoldsItems fronts {E = E} g (λ v k. v ≡ continue_value k) (λ e v. v ≡ None) s f 0 r u →
      r ≡ decimal field
  read_by_fold field s u f r are some d = ends d.1 d.4.2 d.6 ∙ sym so_far ∙ ap (read_after 0) are ∙ read_all field some
    where
      a : ℕ
      a = d.3

      t : Iter ℕ
      t = d.4.0

      so_far : read_after 0 s.rest.now ≡ read_after a t.rest.now
      so_far = goes_on d.0 s t d.4.1 f d.2 0 a d.5

      ends : (o : Option (Bor ℕ)) → fronts t o u → MatchOption o (r ≡ Some a) (λ x. (v : Option ℕ) × (h : F) × (e : E) × Called g d.2 (a, (x, tt)) v h × (v ≡ None) × (r ≡ None)) → r ≡ read_after a t.rest.now
      ends None y k = k ∙ sym (read_none a t.rest.now y.0)
      ends (Some x) y k =
          let none : None ≡ with_next a x.now = sym k.4 ∙ tests d.2 a x k.0 k.1 k.3 in
          k.5 ∙ ap (λ o. then_read o u.rest.now) none ∙ sym (read_next a x.now u.rest.now) ∙ sym (ap (read_after a) y)
