use Rattle.barrowtide.proofs.prove.barrowtide_prove_bump.Goals as goal

pub returns : goal.returns
returns c = c.give.ensures _ c.prove_bump.ensures
