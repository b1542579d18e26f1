use mathlib.Core.Path.{refl}
use borrow.Author.Rules.{rules}
use native.Mathlib.Omega.{arith}
use Rattle.bundle.specs.Windows.{sum_to}
use Rattle.bundle.specs.WorkMade.{kept_joins}
use Rattle.bundle.proofs.WorkMadeLaws.{sum_one}
use Rattle.bundle.proofs.work.joins_made.Goals as goal

pub loop-k-init : goal.loop-k-init
unfolding sum_to
loop-k-init c = (omega arith, refl, omega arith)

pub loop-k-preserved : goal.loop-k-preserved
loop-k-preserved c =
    let one = sum_one (kept_joins c.args.anchors.now c.args.ends.now) c.loop-k.k in
    (search rules, omega arith, omega arith)
