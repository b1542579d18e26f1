use native.Mathlib.Omega.{arith}
use mathlib.Core.Path.{sym, ◌∙◌}
use Rattle.format.proofs.ParseLaws.{passed_on, count-start, count-step, count-refused, count-all}
use Rattle.format.proofs.tsc.read_nodes.Goals as goal

pub loop-init : goal.loop-init
loop-init c = (omega arith, count-start _ _ _ _ _ _)

pub returns-in_err-after : goal.returns-in_err-after
returns-in_err-after c =
    passed_on _ _ c.from_residual.ensures.1 ∙ (sym (c.loop.invariant.1 ∙ count-refused _ _ _ _ _ _ _ (omega arith) (sym c.in_err-after.ensures)))

pub loop-preserved : goal.loop-preserved
loop-preserved c = (omega arith, c.loop.invariant.1 ∙ count-step _ _ _ _ _ _ _ (omega arith) (sym c.in_ok-after.ensures))

pub returns : goal.returns
returns c = sym (c.loop.invariant.1 ∙ count-all _ _ _ _ _ _ _ (omega arith))
