use Rattle.hash.specs.Parts.{blocks}
use Rattle.lanes.specs.Lanes.{count}
use Rattle.lanes.proofs.SideBySide.{lane-map}
use Rattle.lanes.proofs.messages.count4.Goals as goal

pub returns : goal.returns
unfolding count
returns c = λ l. rw (c.count.ensures, c.count-2.ensures, c.count-3.ensures, c.count-4.ensures) (lane-map blocks l c.args.a.now c.args.b.now c.args.c.now c.args.d.now)
