-- Copied, filled up with blanks, and the working slab cleared.
use Rattle.growth.proofs.Replacing.{copied_over}
use Rattle.growth.proofs.memory.Slabs.take_over.Goals as goal

pub returns : goal.returns
returns c =
    copied_over c.args.nodes.now c.args.self c.requires.laid c.args.count c.requires.fits
    c.copy_within.new.self c.clear.new.nodes c.clear-2.new.nodes c.copy_within.ensures.after c.clear.ensures c.clear-2.ensures
