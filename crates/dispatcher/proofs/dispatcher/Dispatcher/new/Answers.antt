-- A new dispatcher has a sound state, and its nodes are blank.
use Rattle.std.proofs.Common.{◌+◌, ◌*◌, sym, refl, ap, ◌∙◌, arith}
use Rattle.std.proofs.lemmas.Bool.{leb-true}
use Rattle.orders.specs.Slabs.{slab_size}
use Rattle.growth.specs.Grounds.{rules_of}
use Rattle.outcomes.proofs.Acted.{passes}
use Rattle.outcomes.proofs.Starts.{new_sound, new_made}
use Rattle.dispatcher.proofs.dispatcher.Dispatcher.new.Goals as goal

pub invariant_of-result : goal.invariant_of-result
invariant_of-result g c =
    record { sound = new_sound c.args.vans c.args.open_limit (sym c.is_van_count.ensures ∙ passes _ _ _ c.in_ok-require.ensures) c.in-Some.ensures.sound }

pub returns : goal.returns
returns g c =
    let count = c.node_count-count.ensures ∙ ap (λ n. (c.args.vans + 1) * slab_size n) c.in-Some.ensures.same in
    let room = leb-true _ _ (passes _ _ _ c.in_ok-require-2.ensures) in (
      refl,
      new_made c.args.vans c.args.open_limit (sym c.is_van_count.ensures ∙ passes _ _ _ c.in_ok-require.ensures) c.in-Some.ensures.sound
          (rules_of g.R.Roads g.S.Stowage c.args.ground) c.args.nodes.now (omega arith) _ c.clear.new.nodes count c.clear.ensures,
    )
