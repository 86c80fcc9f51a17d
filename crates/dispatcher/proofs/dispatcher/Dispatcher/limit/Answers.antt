-- The open limit of a sound state is 1 to 4.
use Rattle.std.proofs.Common.{◌≡◌, Bool, true, false, MatchOption, IsSome, Some, None, Option, refl}
use Rattle.std.proofs.lemmas.Bool.{and_from, le-leb, both_ways}
use Rattle.fleet.proofs.Soundness.{sound_of}
use Rattle.dispatcher.proofs.dispatcher.Dispatcher.limit.Goals as goal

there : {X : Type 0} (t : Bool) (P : X → Type 0) (o : Option X) → MatchOption o (t ≡ false) P → t ≡ true → IsSome o
there t P None m e = absurd (both_ways _ m e)
there t P (Some x) m e = refl

pub unwrap-requires : goal.unwrap-requires
unwrap-requires g c =
    let known = sound_of c.args.self.now.state c.args.self.now.sound in
    there _ _ c.new.result c.new.ensures (and_from _ _ (le-leb _ _ known.some) (le-leb _ _ known.four))
