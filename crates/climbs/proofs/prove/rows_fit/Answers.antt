use Rattle.std.proofs.Common.{arith}
use Rattle.std.proofs.lemmas.Grind.{common_steps}
use Rattle.climbs.specs.Proofs.{fits}
use Rattle.climbs.proofs.prove.rows_fit.Goals as goal

pub returns-then-matches : goal.returns-then-matches
unfolding fits
returns-then-matches c = grind (arith, common_steps)

pub returns-else-matches : goal.returns-else-matches
unfolding fits
returns-else-matches c = grind (arith, common_steps)
