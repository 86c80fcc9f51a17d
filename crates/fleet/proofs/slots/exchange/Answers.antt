-- The other booking takes the place that was found.
use Rattle.std.proofs.Common.{◌≡◌, Some, None, ap, ◌∙◌, rules}
use Rattle.fleet.specs.Slots.{place_of}
use Rattle.fleet.proofs.Packed.{spread, in_place, in_place_slots}
use Rattle.fleet.proofs.Placed.{with_other, without_other}
use Rattle.fleet.proofs.slots.exchange.Goals as goal

pub returns-in-Some : goal.returns-in-Some
returns-in-Some c bs e h =
    let found : place_of c.args.n c.args.held ≡ Some c.in-Some.at = search rules in
    with_other c.args.other c.args.n c.args.held (search rules) c.in-Some.at found
    ∙ ap (spread (in_place c.args.n c.args.other)) e ∙ in_place_slots c.args.n c.args.other bs h

pub returns-in_default : goal.returns-in_default
returns-in_default c bs e h =
    let missing : place_of c.args.n c.args.held ≡ None = search rules in
    without_other c.args.other c.args.n c.args.held (search rules) missing
    ∙ ap (spread (in_place c.args.n c.args.other)) e ∙ in_place_slots c.args.n c.args.other bs h
