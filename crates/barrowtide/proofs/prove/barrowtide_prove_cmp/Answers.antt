use Rattle.barrowtide.proofs.prove.barrowtide_prove_cmp.Goals as goal

pub returns : goal.returns
returns c = c.give.ensures _ c.prove_cmp.ensures
