use Rattle.lanes.proofs.Turns.{lane-before-end}
use Rattle.lanes.proofs.messages.before_end.Goals as goal

pub returns : goal.returns
returns c =
    λ l. lane-before-end l c.args.i c.args.n c.args.new c.args.old (record { a = c.chosen4.result; b = c.chosen4-2.result; c = c.chosen4-3.result; d = c.chosen4-4.result; e = c.chosen4-5.result; f = c.chosen4-6.result; g = c.chosen4-7.result; h = c.chosen4-8.result })
    (c.chosen4.ensures l) (c.chosen4-2.ensures l) (c.chosen4-3.ensures l) (c.chosen4-4.ensures l) (c.chosen4-5.ensures l) (c.chosen4-6.ensures l) (c.chosen4-7.ensures l) (c.chosen4-8.ensures l)
