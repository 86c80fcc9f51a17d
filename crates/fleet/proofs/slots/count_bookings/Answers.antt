-- Each place that is taken counts once.
use Rattle.std.proofs.Common.{◌≡◌, ◌+◌, cond, List, ◌∷◌, length, count_by, is_some, Some, None, Option, refl, sym, ◌∙◌, rules}
use Rattle.std.proofs.lemmas.List.Recursion.{is_count_by}
use Rattle.orders.specs.declared.Booking.{Booking}
use Rattle.growth.specs.Positions.{compact}
use Rattle.fleet.proofs.slots.count_bookings.Goals as goal

one_place : (o : Option Booking) (os : List (Option Booking)) → length (compact (o ∷ os)) ≡ cond (is_some o) (1 + length (compact os)) (length (compact os))
one_place None os = refl
one_place (Some b) os = search rules

pub returns : goal.returns
returns c =
    let counted : c.count.result ≡ count_by is_some c.args.held = search rules in
    counted ∙ sym (is_count_by (λ os. length (compact os)) is_some refl one_place c.args.held)
