use Rattle.lanes.proofs.Turns.{one_by_one}
use Rattle.lanes.proofs.messages.one_by_one.Goals as goal

pub returns : goal.returns
returns c = λ l. rw (c.side_by_side.ensures, c.unwrap_or.ensures, c.unwrap_or-2.ensures, c.unwrap_or-3.ensures, c.unwrap_or-4.ensures, c.sha256d.ensures, c.sha256d-2.ensures, c.sha256d-3.ensures, c.sha256d-4.ensures) (one_by_one l c.args.a.now c.args.b.now c.args.c.now c.args.d.now)
