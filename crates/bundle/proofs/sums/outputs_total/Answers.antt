use mathlib.Core.Path.{refl, sym, ◌∙◌}
use native.Mathlib.Omega.{arith}
use Rattle.format.proofs.TransactionLaws.{output-told, taken-total}
use Rattle.bundle.proofs.BundleHeadLaws.{total-refused, total_on, total-end}
use Rattle.bundle.proofs.sums.outputs_total.Goals as goal

pub returns-in_default : goal.returns-in_default
returns-in_default c = sym (sym c.loop.invariant.1 ∙ total-refused _ _ _ _ _ (omega arith) (sym c.in_default.ensures))

pub overflow_add-total : goal.overflow_add-total
overflow_add-total c =
    let told = (output-told _ _ _ (sym c.in-Ok.ensures)).0 in
    let fits = taken-total _ _ _ refl told in
    record { fits = omega arith }

pub loop-preserved : goal.loop-preserved
loop-preserved c = (omega arith, sym (total_on _ _ _ _ _ (omega arith) (sym c.in-Ok.ensures)) ∙ c.loop.invariant.1)

pub returns : goal.returns
returns c = sym (sym c.loop.invariant.1 ∙ total-end _ _ _ _ _ (omega arith))
