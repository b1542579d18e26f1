use borrow.Author.Rules.{rules}
use Rattle.bundle.specs.Anchored.{put_four}
use Rattle.bundle.proofs.anchored.put_four.Goals as goal

pub returns : goal.returns
unfolding put_four
returns c = search rules
