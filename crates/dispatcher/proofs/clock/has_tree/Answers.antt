-- Some place is taken where the bookings without the gaps are one or more.
use Rattle.std.proofs.Common.{◌≡◌, List, [], ◌∷◌, length, is_some, Some, None, Option, refl, ◌∙◌, rules, tests}
use Rattle.std.specs.List.{list_any}
use Rattle.std.specs.Prelude.{nat_lt}
use Rattle.std.proofs.lemmas.Iterator.{YieldsList-from_slice}
use Rattle.std.proofs.lemmas.Iterator.Search.{any_from_yields_List}
use Rattle.orders.specs.declared.Booking.{Booking}
use Rattle.growth.specs.Positions.{compact}
use Rattle.dispatcher.proofs.clock.has_tree.Goals as goal

some_taken : (os : List (Option Booking)) → list_any is_some os ≡ nat_lt 0 (length (compact os))
some_taken [] = refl
some_taken (None ∷ os) = some_taken os
some_taken (Some b ∷ os) = search rules

pub returns : goal.returns
returns c =
    let held = c.args.van.now.bookings in
    any_from_yields_List is_some _ _ c.any.result c.any.ensures.ran (YieldsList-from_slice held cc) (λ x b q k. search (rules, tests))
    ∙ some_taken held
