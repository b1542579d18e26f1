use native.Mathlib.Omega.{arith}
use Rattle.bundle.specs.WorkMade.{group_work}
use Rattle.bundle.proofs.ids.group_work.Goals as goal

pub returns : goal.returns
unfolding group_work
returns c = (omega (arith, c.work_below-a.ensures.0, c.work_below-b.ensures.0, c.work_below-c.ensures.0, c.work_below-d.ensures.0), omega (arith, c.work_below-a.ensures.1, c.work_below-b.ensures.1, c.work_below-c.ensures.1, c.work_below-d.ensures.1))
