-- What the hold so far becomes with the loads that are left is what the empty hold becomes with all.
use Rattle.std.proofs.Common.{◌≡◌, drop}
use Rattle.stowage.specs.Together.{stowed}
use Rattle.stowage.proofs.stow_all.Given as goal

abbrev pub invariant-loop-load : goal.invariant-loop-load
invariant-loop-load g l = stowed (g.S.Stowage.stow l.rule) l.hold (drop l.load-index l.loads) ≡ stowed (g.S.Stowage.stow l.rule) (g.S.Stowage.empty l.rule) l.loads
