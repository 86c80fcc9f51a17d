-- The van has room, and takes the booking.
use Rattle.std.proofs.Common.{◌≡◌, ◌-◌, Some, sym, ap, ◌∙◌, arith, rules}
use Rattle.std.proofs.lemmas.Bool.{cond-true, lt-ltb}
use Rattle.fleet.specs.States.{van_at, with_van, has_room, taken_by}
use Rattle.fleet.proofs.Soundness.{sound_of, sound_at}
use Rattle.fleet.proofs.state.State.take.Goals as goal

pub returns-then-open_count-self : goal.returns-then-open_count-self
returns-then-open_count-self c =
    let s = c.args.self.now in
    let w = c.in-Some.w in
    let on : van_at s c.args.van ≡ Some w = search rules in
    let known = sound_of s c.requires.sound in
    let sound = sound_at s known (c.args.van - 1) w on in
    let count = c.open_count.ensures in
    let room = c.if-open_count-self.true in
    let few = sound.its.few in
    let four = known.four in
    c.put.ensures ∙ ap (λ x. with_van s c.args.van (Some x)) (c.taking.ensures sound.its.packed (omega arith))
    ∙ sym (cond-true (has_room s w) _ _ (lt-ltb _ _ (omega arith)))
    ∙ ap (taken_by s c.args.van c.args.booking) (sym on)
