-- `split_field` cuts what is left of the line at its first comma.
use Rattle.std.proofs.Common.{◌+◌, ◌∷◌, drop, Some, sym, ap, ◌∙◌, arith}
use Rattle.std.proofs.lemmas.List.{drop-drop}
use Rattle.text.specs.Fields.{bytes_left, fields_left}
use Rattle.text.proofs.Splits.{whole_field, whole_rest, cut_field, cut_rest, first_and_rest}
use Rattle.text.proofs.split_field.Goals as goal

pub returns-in_default-clause-field : goal.returns-in_default-clause-field
returns-in_default-clause-field c = whole_field _ _ c.bytes-bytes.ensures (sym c.in_default.is ∙ c.first_comma.ensures)

pub returns-in_default-clause-rest : goal.returns-in_default-clause-rest
returns-in_default-clause-rest c = whole_rest _ _ c.bytes-bytes.ensures (sym c.in_default.is ∙ c.first_comma.ensures)

pub returns-in_default-clause-fields : goal.returns-in_default-clause-fields
returns-in_default-clause-fields c =
    let at = sym c.in_default.is ∙ c.first_comma.ensures in
    let are = c.bytes-bytes.ensures in
    first_and_rest (bytes_left c.args.rest) ∙ (λ i. sym (whole_field _ _ are at) i ∷ fields_left (sym (whole_rest _ _ are at) i))

pub returns-clause-field : goal.returns-clause-field
returns-clause-field c = cut_field _ _ c.bytes-bytes.ensures c.in-Some.length (sym c.in-Some.is ∙ c.first_comma.ensures)

pub returns-clause-rest : goal.returns-clause-rest
returns-clause-rest c =
    ap Some (sym (drop-drop (c.in-Some.length + 1) c.args.rest.place c.args.rest.line.now ∙ ap (λ p. drop p c.args.rest.line.now) (omega arith)))
    ∙ cut_rest _ _ c.bytes-bytes.ensures c.in-Some.length (sym c.in-Some.is ∙ c.first_comma.ensures)

pub returns-clause-fields : goal.returns-clause-fields
returns-clause-fields c =
    let at = sym c.in-Some.is ∙ c.first_comma.ensures in
    let are = c.bytes-bytes.ensures in
    first_and_rest (bytes_left c.args.rest) ∙ (λ i. sym (cut_field _ _ are c.in-Some.length at) i ∷ fields_left (sym (returns-clause-rest c) i))
