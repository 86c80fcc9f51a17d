-- Van after van that waits is pruned.
use Rattle.std.proofs.Common.{◌≡◌, ℕ, ◌+◌, ◌<◌, ◌≤◌, List, length, take, Option, None, sym, ap, ◌∙◌, subst, arith, rules, length-take}
use Rattle.std.proofs.lemmas.List.{get_or-take}
use Rattle.orders.specs.declared.Node.{Node}
use Rattle.growth.specs.Grounds.{rules_of}
use Rattle.fleet.specs.declared.state.Van.{Van}
use Rattle.fleet.proofs.Soundness.{sound_of}
use Rattle.outcomes.specs.Settled.{PrunedTo, waits}
use Rattle.outcomes.proofs.Moved.{is_numbered_van}
use Rattle.outcomes.proofs.Clocked.{clock_keeps, pruned_none, pruned_past, pruned_more}
use Rattle.dispatcher.proofs.dispatcher.Dispatcher.prune_waiting.Goals as goal
use Rattle.dispatcher.proofs.dispatcher.Dispatcher.prune_waiting.Goals.{then-is_waiting, else-is_waiting}

-- the first n places are n at most, and as many where there are so many
within : (n i : ℕ) (vans : List (Option Van)) → i < length (take n vans) → i < n
within n i vans h = let e = length-take n vans in omega arith

all_of : (n i : ℕ) (vans : List (Option Van)) → n ≤ length vans → length (take n vans) ≤ i → i ≤ length (take n vans) → i ≡ n
all_of n i vans many past far = let e = length-take n vans in omega arith

pub shared_ref_as_front-slot-items : goal.shared_ref_as_front-slot-items
shared_ref_as_front-slot-items g c = let most = (sound_of c.args.before.now c.requires.sound).most in search rules

pub loop-i-init : goal.loop-i-init
loop-i-init g c =
    pruned_none (rules_of g.R.Roads g.S.Stowage c.args.self.now.ground) c.args.before.now c.args.self.now.state c.requires.sound c.args.time c.requires.moved c.args.nodes.now c.requires.room

pub renew-requires-clause-within : goal.renew-requires-clause-within
renew-requires-clause-within g c =
    let s = c.args.before.now in
    let s' = c.args.self.now.state in
    let kept = clock_keeps (rules_of g.R.Roads g.S.Stowage c.args.self.now.ground) s s' c.requires.sound c.args.time c.requires.moved c.args.nodes.now c.requires.room in
    let most = (sound_of s c.requires.sound).most in
    let size = kept.0 in
    let l = within s.size c.loop-i.i s.vans c.loop-i-test.true in
    is_numbered_van s' c.loop-i.i (omega arith) (omega arith)

pub loop-i-preserved : goal.loop-i-preserved
loop-i-preserved g c =
    let s = c.args.before.now in
    let s' = c.args.self.now.state in
    let rules_here = rules_of g.R.Roads g.S.Stowage c.args.self.now.ground in
    let so_far : List Node → Type 0 = PrunedTo rules_here s s' c.args.time c.args.nodes.now (c.loop-i.i + 1) in
    let l = within s.size c.loop-i.i s.vans c.loop-i-test.true in
    let told = sym (c.is_waiting.ensures ∙ ap (waits c.args.time) (get_or-take s.size s.vans c.loop-i.i None l)) in
    elim c.if-is_waiting.branch [
      | then-is_waiting w ↦ subst so_far (sym w.nodes-is)
          (pruned_more rules_here s s' c.requires.sound c.args.time c.requires.moved c.args.nodes.now c.requires.room c.loop-i.i l c.loop-i.nodes c.loop-i.invariant
          (told ∙ w.if-is_waiting.true) w.renew.new.nodes w.renew.auto.nodes w.renew.ensures)
      | else-is_waiting w ↦ subst so_far (sym w.nodes-is)
          (pruned_past rules_here s s' c.requires.sound c.args.time c.requires.moved c.args.nodes.now c.requires.room c.loop-i.i l c.loop-i.nodes c.loop-i.invariant
          (told ∙ w.if-is_waiting.false))
    ]

pub returns : goal.returns
returns g c =
    let s = c.args.before.now in
    let known = sound_of s c.requires.sound in
    let many : s.size ≤ length s.vans = search rules in
    subst (λ n. PrunedTo (rules_of g.R.Roads g.S.Stowage c.args.self.now.ground) s c.args.self.now.state c.args.time c.args.nodes.now n c.loop-i.nodes)
    (all_of s.size c.loop-i.i s.vans many c.loop-i-test.false c.loop-i.auto.i-end) c.loop-i.invariant
