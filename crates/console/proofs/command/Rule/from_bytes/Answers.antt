-- A name that is read byte by byte is that name.
use Rattle.std.proofs.Common.{codes, sym, ap, rules}
use Rattle.std.proofs.lemmas.Slice.Eq.{text_from_reads}
use Rattle.console.specs.Lines.{rule_of}
use Rattle.console.proofs.command.Rule.from_bytes.Goals as goal

pub returns-in-passengers : goal.returns-in-passengers
returns-in-passengers c = sym (ap rule_of (text_from_reads c.args.name.now (codes "passengers") (search rules) (search rules)))

pub returns-in-parcels : goal.returns-in-parcels
returns-in-parcels c = sym (ap rule_of (text_from_reads c.args.name.now (codes "parcels") (search rules) (search rules)))
