-- The numbers so far, with those in the fields that are left, are the numbers of all fields.
use Rattle.std.proofs.Common.{◌≡◌, ◌++◌, length, drop, vec_items}
use Rattle.std.specs.Option.{option_map}
use Rattle.text.specs.Fields.{bytes_left, fields_left}
use Rattle.text.specs.Numbers.{all_numbers}
use Rattle.text.proofs.read_numbers.Given as goal

abbrev pub invariant-loop-field : goal.invariant-loop-field
invariant-loop-field l = (
    (goal.iterator-loop-field).can_next l.field-iterator
    × (goal.iterator-loop-field).is_finite l.field-iterator
    × (all_numbers (fields_left (option_map bytes_left l.fn.rest)) ≡ option_map (λ more. vec_items l.numbers ++ more) (all_numbers (drop (length l.yielded) (fields_left (option_map bytes_left l.fn.rest))))))
