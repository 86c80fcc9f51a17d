-- Cut at its commas, a line is parted into its fields.
use Rattle.std.proofs.Common.{◌==◌, rules}
use Rattle.std.proofs.lemmas.Iterator.Consumers.{count_from_yields_List}
use Rattle.std.proofs.lemmas.Iterator.Splits.{YieldsList-from_slice_split}
use Rattle.text.specs.Fields.{comma}
use Rattle.text.proofs.Parted.{parts_one_way}
use Rattle.text.proofs.count_fields.Goals as goal

pub returns-clause-count : goal.returns-clause-count
returns-clause-count c =
    count_from_yields_List c.split.result c.count.result c.count.ensures.ran
    (YieldsList-from_slice_split _ (λ b. b == comma) c.args.line.now c.split.ensures.rest c.split.ensures.done c.split.ensures.closure (λ x b q k. search rules))

pub returns-clause-law : goal.returns-clause-law
returns-clause-law c = parts_one_way c.args.line.now
