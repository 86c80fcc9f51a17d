-- The bookings' places after service are those of the bookings then open.
use Rattle.std.proofs.Common.{◌≡◌, ◌-◌, Ok, ap, ◌∙◌, arith, rules}
use Rattle.orders.specs.Bookings.{served}
use Rattle.growth.specs.Positions.{compact}
use Rattle.fleet.specs.States.{open_bookings, on_duty}
use Rattle.fleet.proofs.Packed.{compact_slots}
use Rattle.fleet.proofs.Soundness.{sound_of, sound_at}
use Rattle.fleet.proofs.Vans.{duty_at}
use Rattle.fleet.proofs.state.State.served.Goals as goal

pub returns-in_err-require-4 : goal.returns-in_err-require-4
returns-in_err-require-4 g c =
    let s = c.args.self.now in
    let w = c.in_ok-serving.serving in
    let on : on_duty s c.args.van ≡ Ok w = search rules in
    let known = sound_of s c.requires in
    let sound = sound_at s known (c.args.van - 1) w (duty_at s c.args.van w on).1 in
    let few = sound.its.few in
    let four = known.four in
    let e = c.serve_booking-bookings.ensures (open_bookings w) sound.its.packed (omega arith) in
    let k : compact c.serve_booking-bookings.result ≡ served w.driven c.args.n (open_bookings w) = ap compact e ∙ compact_slots _ in
    search rules

pub returns : goal.returns
returns g c =
    let s = c.args.self.now in
    let w = c.in_ok-serving.serving in
    let on : on_duty s c.args.van ≡ Ok w = search rules in
    let known = sound_of s c.requires in
    let sound = sound_at s known (c.args.van - 1) w (duty_at s c.args.van w on).1 in
    let few = sound.its.few in
    let four = known.four in
    let e = c.serve_booking-bookings.ensures (open_bookings w) sound.its.packed (omega arith) in
    let k : compact c.serve_booking-bookings.result ≡ served w.driven c.args.n (open_bookings w) = ap compact e ∙ compact_slots _ in
    search rules
