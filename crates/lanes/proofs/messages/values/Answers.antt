use Rattle.lanes.proofs.Turns.{lane-values}
use Rattle.lanes.proofs.messages.values.Goals as goal

pub returns : goal.returns
returns c =
    λ l. lane-values l c.args.p c.args.q c.args.x c.args.y (record { a = c.row.result; b = c.row-2.result; c = c.row-3.result; d = c.row-4.result; e = c.row-5.result; f = c.row-6.result; g = c.row-7.result; h = c.row-8.result })
    c.row.ensures c.row-2.ensures c.row-3.ensures c.row-4.ensures c.row-5.ensures c.row-6.ensures c.row-7.ensures c.row-8.ensures
