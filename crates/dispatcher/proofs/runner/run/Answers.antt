-- Call after call is a step of the run.
use Rattle.std.proofs.Common.{◌≡◌, get_or, take, drop, refl, ◌∙◌, subst, arith}
use Rattle.orders.specs.Rules.{Lawful}
use Rattle.fleet.specs.declared.call.Call.TheVariants.{Clock}
use Rattle.fleet.specs.Terms.{terms_of}
use Rattle.outcomes.specs.Runs.{Does, Machine, Run, stop}
use Rattle.outcomes.proofs.Exactly.{exact_of}
use Rattle.outcomes.proofs.Running.{step_of, run_turn, places_stay}
use Rattle.dispatcher.proofs.runner.run.Goals as goal

pub loop-i-init : goal.loop-i-init
loop-i-init g c = (c.in_ok-dispatcher.ensures.0, c.in_ok-dispatcher.ensures.1.settled, stop, refl)

pub loop-i-preserved : goal.loop-i-preserved
loop-i-preserved g c =
    let t = terms_of g.R.Roads g.S.Stowage c.args.ground in
    let lawful : Lawful t.rules = record { roads = g.met.R.Roads.lawful c.args.ground.roads.now; exchange = g.met.S.Stowage.exchange c.args.ground.rule.now } in
    let s = c.loop-i.dispatcher.state in
    let call = get_or c.args.calls.now c.loop-i.i (Clock 0) in
    let inv = c.loop-i.invariant in
    let does = subst (λ ground. Does (terms_of g.R.Roads g.S.Stowage ground) call s c.loop-i.nodes c.obey.result c.obey.new.self.state c.obey.new.nodes) inv.0 c.obey.ensures.does in
    let step = step_of t lawful call s c.loop-i.nodes c.obey.result c.obey.new.self.state c.obey.new.nodes c.loop-i.dispatcher.sound c.obey.new.self.sound inv.1 does in
    let count = c.min-count.ensures in
    let long = c.loop-i.auto.answers in
    let l = c.loop-i-test.true in (
      c.obey.ensures.ground ∙ inv.0,
      does.writes.settled inv.1,
      run_turn t _ _ _ c.args.calls.now c.loop-i.answers c.loop-i.i (Clock 0) c.obey.result (omega arith) (omega arith) inv.2 step,
      places_stay c.loop-i.answers c.args.answers.now c.loop-i.i c.obey.result inv.3,
    )

pub returns : goal.returns
returns g c =
    let t = terms_of g.R.Roads g.S.Stowage c.args.ground in
    let first : Machine = record { state = c.in_ok-dispatcher.dispatcher.state; nodes = c.new.new.nodes } in
    let last : Machine = record { state = c.loop-i.dispatcher.state; nodes = c.loop-i.nodes } in
    let inv = c.loop-i.invariant in
    let l = c.loop-i-test.false in
    let k = c.loop-i.auto.i-end in
    let e : c.loop-i.i ≡ c.min-count.result = omega arith in (
      c.min-count.ensures,
      record {
        first = first;
        last = last;
        made = c.in_ok-dispatcher.ensures.1;
        run = subst (λ n. Run t first (take n c.args.calls.now) (take n c.loop-i.answers) last) e inv.2;
        left = refl;
        exact = exact_of t.rules c.loop-i.dispatcher.state c.loop-i.dispatcher.sound c.loop-i.nodes inv.1;
      },
      subst (λ n. drop n c.loop-i.answers ≡ drop n c.args.answers.now) e inv.3,
    )
