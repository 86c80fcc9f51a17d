-- From its place on the places are turned by one, and the booking takes that place.
use Rattle.std.proofs.Common.{◌≡◌, ℕ, ◌-◌, List, get_or, unwrap_or, Some, None, Option, ap, ◌∙◌, rules}
use Rattle.std.proofs.Math.ListN.{set}
use borrow.Rule.Slice.PartMut.{put_mid}
use Rattle.orders.specs.declared.Booking.{Booking}
use Rattle.orders.specs.Bookings.{number_of}
use Rattle.fleet.specs.Slots.{place_for}
use Rattle.fleet.proofs.Packed.{put_in, put_in_slots}
use Rattle.fleet.proofs.Placed.{turned_right, with_more}
use Rattle.fleet.proofs.slots.insert_booking.Goals as goal

pub returns : goal.returns
returns c bs e h =
    let found : c.unwrap_or-at.result ≡ unwrap_or (place_for (number_of c.args.booking) c.args.held) 3 = search rules in
    ap (λ (ys : List (Option Booking)). set (put_mid c.unwrap_or-at.result (4 - c.unwrap_or-at.result) c.args.held ys) c.unwrap_or-at.result (Some c.args.booking)) c.rotate_right.ensures.after
    ∙ ap (λ (at : ℕ). set (turned_right at c.args.held) at (Some c.args.booking)) found
    ∙ with_more c.args.booking c.args.held (search rules)
    ∙ ap (λ (l : List (Option Booking)). put_in c.args.booking (get_or l 0 None) (get_or l 1 None) (get_or l 2 None)) e
    ∙ put_in_slots c.args.booking bs h
