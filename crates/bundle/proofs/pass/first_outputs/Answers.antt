use native.Mathlib.Omega.{arith}
use Rattle.bundle.proofs.ReachLaws.{firsts_start, firsts_on}
use Rattle.bundle.proofs.pass.first_outputs.Goals as goal

pub loop-k-init : goal.loop-k-init
loop-k-init c = firsts_start c.args.numbers.now _ c.no_firsts-firsts.result c.no_firsts-firsts.ensures

pub loop-k-preserved : goal.loop-k-preserved
loop-k-preserved c = firsts_on c.args.numbers.now _ _ c.loop-k.firsts _ (omega arith) c.requires.n_bound c.loop-k.invariant c.add_count.ensures
