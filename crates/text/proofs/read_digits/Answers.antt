-- The fold over the field's bytes reads the number that the field writes.
use Rattle.std.proofs.Common.{◌≡◌, ◌^◌, ◌<◌, length, Some, rules, sym, ap, subst, ◌∙◌, arith}
use Rattle.std.proofs.lemmas.Bool.{eqb-false}
use Rattle.text.specs.Numbers.{below, decimal}
use Rattle.text.proofs.Folds.{fold_callable, read_by_fold}
use Rattle.text.proofs.read_digits.Goals as goal

pub try_fold-requires-clause-callable : goal.try_fold-requires-clause-callable
try_fold-requires-clause-callable c =
    fold_callable _ (λ f n x r h k. search rules) (λ f n x l. search rules) c.args.field.now _ _ c.iter.ensures.rest c.requires

pub returns-in_err-number : goal.returns-in_err-number
returns-in_err-number c =
    let some : 0 < length c.args.field.now = omega (arith, eqb-false _ 0 (sym c.if-is_empty.ensures)) in
    c.from_residual.ensures ∙ ap (below (2 ^ 32)) (sym c.in_err-number.was ∙ read_by_fold _ _ (λ f n x r h k. search rules) c.args.field.now _ _ _ c.try_fold.result c.iter.ensures.rest some c.try_fold.ensures.ran)

pub returns : goal.returns
returns c =
    let some : 0 < length c.args.field.now = omega (arith, eqb-false _ 0 (sym c.if-is_empty.ensures)) in
    let is : Some c.in_ok-number.number ≡ decimal c.args.field.now =
    sym c.in_ok-number.was ∙ read_by_fold _ _ (λ f n x r h k. search rules) c.args.field.now _ _ _ c.try_fold.result c.iter.ensures.rest some c.try_fold.ensures.ran in
    subst (λ o. c.ok.result ≡ below 4294967296 o) is (search rules)
