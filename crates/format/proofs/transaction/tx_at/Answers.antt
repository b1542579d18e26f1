use Rattle.format.proofs.transaction.tx_at.Goals as goal

pub returns : goal.returns
returns c = c.tx_by.ensures
