use native.Mathlib.Omega.{arith}
use mathlib.Core.Path.{sym, ◌∙◌}
use lib.ListN.{length}
use Rattle.format.proofs.LevelLaws.{level-few, sum-start, sum_step, sum-refused, sum_done}
use Rattle.format.proofs.ParseLaws.{passed_on, each-fault}
use Rattle.format.proofs.level.read_levels.Goals as goal

pub loop-i-init : goal.loop-i-init
loop-i-init c = (omega arith, omega arith, sum-start _ _ _ _)

pub returns-in_err-count : goal.returns-in_err-count
returns-in_err-count c =
    passed_on _ _ c.from_residual.ensures.1 ∙ (sym (c.loop-i.invariant.2 ∙ sum-refused _ _ _ _ _ _ (omega arith) (each-fault length _ (sym c.in_err-count.ensures))))

pub overflow_add-leaves : goal.overflow_add-leaves
overflow_add-leaves c = let few = level-few _ _ _ _ _ (sym c.in_ok-count.ensures) in omega arith

pub loop-i-preserved : goal.loop-i-preserved
loop-i-preserved c =
    let told = sym c.in_ok-count.ensures in
    let few = level-few _ _ _ _ _ told in
    (omega arith, omega arith, c.loop-i.invariant.2 ∙ sum_step _ _ _ _ _ _ (omega arith) told)

pub returns : goal.returns
returns c = sym (c.loop-i.invariant.2 ∙ sum_done _ _ _ _ _ _ (omega arith))
