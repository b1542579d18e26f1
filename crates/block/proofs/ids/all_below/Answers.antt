use borrow.Author.Rules.{rules}
use Rattle.block.proofs.IdsLaws.{below_tested}
use Rattle.block.proofs.ids.all_below.Goals as goal

pub returns : goal.returns
returns c = below_tested c.args.n c.args.chosen.now c.all.result (search rules)
