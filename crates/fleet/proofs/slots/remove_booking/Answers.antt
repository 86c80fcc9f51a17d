-- The place of the booking is emptied, and goes behind the others.
use Rattle.std.proofs.Common.{◌≡◌, ◌-◌, List, Some, None, Option, ap, ◌∙◌, rules}
use Rattle.std.proofs.Math.ListN.{set}
use borrow.Rule.Slice.PartMut.{put_mid}
use Rattle.orders.specs.declared.Booking.{Booking}
use Rattle.fleet.specs.Slots.{place_of}
use Rattle.fleet.proofs.Packed.{spread, take_out, take_out_slots}
use Rattle.fleet.proofs.Placed.{without, without_none}
use Rattle.fleet.proofs.slots.remove_booking.Goals as goal

pub returns-in-Some : goal.returns-in-Some
returns-in-Some c bs e h =
    let found : place_of c.args.n c.args.held ≡ Some c.in-Some.at = search rules in
    ap (λ (ys : List (Option Booking)). put_mid c.in-Some.at (4 - c.in-Some.at) (set c.args.held c.in-Some.at None) ys) c.rotate_left.ensures.after
    ∙ without c.args.n c.args.held (search rules) c.in-Some.at found ∙ ap (spread (take_out c.args.n)) e ∙ take_out_slots c.args.n bs h

pub returns-in_default : goal.returns-in_default
returns-in_default c bs e h =
    let missing : place_of c.args.n c.args.held ≡ None = search rules in
    without_none c.args.n c.args.held (search rules) missing ∙ ap (spread (take_out c.args.n)) e ∙ take_out_slots c.args.n bs h
