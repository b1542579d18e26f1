use Rattle.spv.specs.Spans.{set_four}
use Rattle.spv.proofs.SpansLaws.{four-past}
use Rattle.spv.proofs.spans.set_four.Goals as goal

pub returns-then-list-i : goal.returns-then-list-i
returns-then-list-i c = four-past _ _ _ c.if-list-i.true

pub returns : goal.returns
unfolding set_four
returns c = cc
