use native.Mathlib.Omega.{arith}
use Rattle.bundle.specs.Work.{id_work}
use Rattle.bundle.proofs.work.id_work.Goals as goal

pub returns : goal.returns
unfolding id_work
returns c = omega arith
