-- The booking of that number, if it is there, is exchanged or taken out.
use Rattle.std.proofs.Common.{◌≡◌, ℕ, List, Some, Option, sym, ap, ◌∙◌}
use Rattle.orders.specs.declared.Booking.{Booking}
use Rattle.growth.specs.Positions.{compact}
use Rattle.fleet.specs.Slots.{slots, numbered}
use Rattle.fleet.proofs.Packed.{compact_slots, served_waiting, served_aboard, served_none}
use Rattle.fleet.proofs.slots.serve_booking.Goals as goal

-- what is looked for among the bookings is looked for in their places
open_one : (n : ℕ) (held : List (Option Booking)) (bs : List Booking) → held ≡ slots bs → numbered n bs ≡ numbered n (compact held)
open_one n held bs e = ap (numbered n) (sym (ap compact e ∙ compact_slots bs))

pub returns-in-Waiting : goal.returns-in-Waiting
returns-in-Waiting c bs e h =
    c.exchange.ensures bs e h
    ∙ ap slots (sym (served_waiting c.args.driven c.args.n _ c.in-Waiting.journey bs
    (open_one c.args.n c.args.held bs e ∙ sym c.in-Some.ensures ∙ ap Some c.in-Waiting.is)))

pub returns-in-Aboard : goal.returns-in-Aboard
returns-in-Aboard c bs e h =
    c.remove_booking.ensures bs e h
    ∙ ap slots (sym (served_aboard c.args.driven c.args.n _ _ bs
    (open_one c.args.n c.args.held bs e ∙ sym c.in-Some.ensures ∙ ap Some c.in-Aboard.is)))

pub returns-in_default : goal.returns-in_default
returns-in_default c bs e h =
    e ∙ ap slots (sym (served_none c.args.driven c.args.n bs (open_one c.args.n c.args.held bs e ∙ sym c.find_booking.ensures ∙ c.in_default.is)))
