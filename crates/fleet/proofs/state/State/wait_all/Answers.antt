-- Each turn one more van has waited.
use Rattle.std.proofs.Common.{◌<◌, length, set, ap, ◌∙◌, arith, rules}
use Rattle.fleet.specs.States.{waited}
use Rattle.fleet.proofs.Vans.{with_vans, one_more, all_changed}
use Rattle.fleet.proofs.state.State.wait_all.Goals as goal

pub loop-slot-preserved : goal.loop-slot-preserved
loop-slot-preserved c =
    let there : c.loop-slot.slot-index < length c.args.self.now.vans = search rules in
    ap (set c.loop-slot.slot-items c.loop-slot.slot-index) c.wait.ensures
    ∙ one_more (waited c.args.time) c.args.self.now.vans c.loop-slot.slot-items c.loop-slot.slot-index there c.loop-slot.invariant

pub returns : goal.returns
returns c = ap (with_vans c.args.self.now) (c.loop-slot.invariant ∙ all_changed (waited c.args.time) c.args.self.now.vans c.loop-slot.slot-index (omega arith))
