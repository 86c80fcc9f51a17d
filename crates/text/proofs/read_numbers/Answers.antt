-- Each turn reads one field more of the row.
use Rattle.std.proofs.Common.{rules, sym, ap, ◌∙◌}
use Rattle.std.specs.Option.{option_map}
use Rattle.std.proofs.lemmas.List.{length_push}
use Rattle.text.specs.Fields.{bytes_left, fields_left, fields}
use Rattle.text.proofs.Rows.{reads_more, reads_none, reads_all, part_here, parts_passed, comma_row}
use Rattle.text.proofs.read_numbers.Given as given
use Rattle.text.proofs.read_numbers.Goals as goal

pub returns-in_default-read_number : goal.returns-in_default-read_number
returns-in_default-read_number c =
    let are = ap (λ o. fields_left (option_map bytes_left o)) c.in-Some.is ∙ ap fields (sym c.bytes.ensures) in
    let cut = c.split-field-items.ensures in
    let here = part_here (given.iterator-loop-field).next_gives _ c.loop-field.yielded c.loop-field.field-iterator c.loop-field.yielded_by
    c.next.result c.next.new.self c.next.ensures.steps c.in-Some-field.field c.in-Some-field.is (λ x. x.now) _ _ are
    (comma_row _ c.bytes.result.now cut.rest cut.done cut.closure c.into_iter-field-iterator.ensures.into_iter_gives (λ x b q k. search rules)) in
    reads_none _ _ _ _ c.loop-field.invariant.2 _ here.0 here.1 (sym c.in_default-read_number.is ∙ c.read_number.ensures)

pub loop-field-preserved : goal.loop-field-preserved
loop-field-preserved c =
    let are = ap (λ o. fields_left (option_map bytes_left o)) c.in-Some.is ∙ ap fields (sym c.bytes.ensures) in
    let cut = c.split-field-items.ensures in
    let here = part_here (given.iterator-loop-field).next_gives _ c.loop-field.yielded c.loop-field.field-iterator c.loop-field.yielded_by
    c.next.result c.next.new.self c.next.ensures.steps c.in-Some-field.field c.in-Some-field.is (λ x. x.now) _ _ are
    (comma_row _ c.bytes.result.now cut.rest cut.done cut.closure c.into_iter-field-iterator.ensures.into_iter_gives (λ x b q k. search rules)) in (
      search rules,
      search rules,
      reads_more _ _ _ _ c.loop-field.invariant.2 _ here.0 here.1 _ _ _ (sym c.in-Some-read_number.is ∙ c.read_number.ensures)
          c.in_ok-push.ensures.items (length_push c.loop-field.yielded c.in-Some-field.field),
    )

pub returns : goal.returns
returns c =
    let are = ap (λ o. fields_left (option_map bytes_left o)) c.in-Some.is ∙ ap fields (sym c.bytes.ensures) in
    let cut = c.split-field-items.ensures in
    reads_all _ _ _ _ c.loop-field.invariant.2
    (parts_passed (given.iterator-loop-field).next_gives _ c.loop-field.yielded c.loop-field.field-iterator c.loop-field.yielded_by
    c.next.result c.next.new.self c.next.ensures.steps c.in-None.is (λ x. x.now) _ _ are
    (comma_row _ c.bytes.result.now cut.rest cut.done cut.closure c.into_iter-field-iterator.ensures.into_iter_gives (λ x b q k. search rules)))
