-- The booking stands at the place that was found.
use Rattle.std.proofs.Common.{◌≡◌, Some, None, ◌∙◌, rules}
use Rattle.fleet.specs.Slots.{place_of}
use Rattle.fleet.proofs.Placed.{what_stands, nothing_stands}
use Rattle.fleet.proofs.slots.find_booking.Goals as goal

pub returns-in_err-place_of : goal.returns-in_err-place_of
returns-in_err-place_of c =
    let found : place_of c.args.n c.args.held ≡ None = search rules in
    let none : c.from_residual.result ≡ None = search rules in
    none ∙ nothing_stands c.args.n c.args.held (search rules) found

pub returns : goal.returns
returns c =
    let found : place_of c.args.n c.args.held ≡ Some c.in_ok-place_of.field-0 = search rules in
    what_stands c.args.n c.args.held (search rules) c.in_ok-place_of.field-0 found
