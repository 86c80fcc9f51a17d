-- No booking is open if each place has none.
use Rattle.std.proofs.Common.{◌≡◌, List, [], ◌∷◌, Some, None, Option, refl, ◌∙◌, rules, tests}
use Rattle.std.proofs.lemmas.Iterator.{YieldsList-from_slice}
use Rattle.std.proofs.lemmas.Iterator.Search.{all_from_yields_List}
use Rattle.std.specs.List.{list_all}
use Rattle.std.specs.Option.{is_none}
use Rattle.orders.specs.declared.Booking.{Booking}
use Rattle.growth.specs.Positions.{compact}
use Rattle.growth.specs.Surveys.{none_open}
use Rattle.growth.proofs.tally.nothing_open.Goals as goal

each_none : (bs : List (Option Booking)) → list_all is_none bs ≡ none_open (compact bs)
each_none [] = refl
each_none (None ∷ bs) = each_none bs
each_none (Some b ∷ bs) = refl

pub returns : goal.returns
returns c =
    all_from_yields_List is_none _ _ c.all.result c.all.ensures.ran (YieldsList-from_slice c.args.bookings.now cc) (λ x b q k. search (rules, tests))
    ∙ each_none c.args.bookings.now
