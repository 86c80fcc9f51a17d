-- Each turn stows the first of the loads that are left; order and part follow from exchange.
use Rattle.std.proofs.Common.{sym, ◌∙◌}
use Rattle.stowage.proofs.Together.{turn_some, turn_none, turn_last, stows_all}
use Rattle.stowage.proofs.stow_all.Goals as goal

pub returns-in_err-hold : goal.returns-in_err-hold
returns-in_err-hold g c =
    stows_all _ (g.met.S.Stowage.exchange c.args.rule.now) _ _ _
    (c.from_residual.ensures
    ∙ turn_none _ c.loop-load.hold c.args.loads.now c.loop-load.load-index _ c.loop-load.invariant _ c.loop-load-test.true
    (sym c.stow.ensures ∙ c.in_err-hold.was))

pub loop-load-preserved : goal.loop-load-preserved
loop-load-preserved g c =
    turn_some _ c.loop-load.hold c.args.loads.now c.loop-load.load-index _ c.loop-load.invariant _ _ c.loop-load-test.true
    (sym c.stow.ensures ∙ c.in_ok-hold.was)

pub returns : goal.returns
returns g c =
    stows_all _ (g.met.S.Stowage.exchange c.args.rule.now) _ _ _
    (turn_last _ c.loop-load.hold c.args.loads.now c.loop-load.load-index _ c.loop-load.invariant c.loop-load-test.false)
