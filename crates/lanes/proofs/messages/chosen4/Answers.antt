use Rattle.lanes.proofs.Turns.{word_in-before-end}
use Rattle.lanes.proofs.messages.chosen4.Goals as goal

pub returns : goal.returns
returns c =
    λ l. word_in-before-end l c.args.i c.chosen.result c.chosen-2.result c.chosen-3.result c.chosen-4.result c.args.n c.args.new c.args.old
    c.chosen.ensures c.chosen-2.ensures c.chosen-3.ensures c.chosen-4.ensures
