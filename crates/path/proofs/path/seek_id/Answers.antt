use native.Mathlib.Omega.{arith}
use native.Mathlib.Nat.{sub-zero}
use mathlib.Core.Path.{sym, ◌∙◌}
use Rattle.std.specs.Prelude.{Some, None}
use Rattle.path.specs.Steps.{Carried}
use Rattle.path.proofs.SearchLaws.{least-end, least-stop}
use Rattle.path.proofs.StepLaws.{least-hash, least_other, least-copy}
use Rattle.path.proofs.path.seek_id.Goals as goal
use Rattle.path.proofs.path.seek_id.Goals.{then-same_bytes, else-same_bytes}

pub loop-init : goal.loop-init
loop-init c = (omega arith, simp sub-zero)

pub returns-in_default : goal.returns-in_default
returns-in_default c = sym (c.loop.invariant.1 ∙ least-stop _ _ _ _ _ _ (omega arith) c.in_default.ensures)

pub loop-preserved-in_default-place : goal.loop-preserved-in_default-place
loop-preserved-in_default-place c =
    let t = c.in-Ok.ensures in
    let carried : Carried None t.0 = rw c.in_default-place.is at t.2 in
    (omega arith, c.loop.invariant.1 ∙ least-copy c.args.layout c.args.id c.args.s.now _ _ _ _ (omega arith) t.0 t.1 carried)

pub loop-preserved : goal.loop-preserved
loop-preserved c =
    let t = c.in-Ok.ensures in
    let carried : Carried (Some c.in-Some.place) t.0 = rw c.in-Some.is at t.2 in
    let tested = rw c.hash_at.ensures at c.same_bytes.ensures in (
      omega arith,
      c.loop.invariant.1
          ∙ elim c.if-same_bytes.branch [
            | then-same_bytes w ↦ least-hash c.args.layout c.args.id c.args.s.now _ _ _ _ (omega arith) t.0 t.1 _ c.in-Some.place carried (sym tested ∙ w.if-same_bytes.true) (w.best-is ∙ w.lesser_of-best.ensures)
            | else-same_bytes w ↦ rw w.best-is (least_other c.args.layout c.args.id c.args.s.now _ _ _ _ (omega arith) t.0 t.1 c.in-Some.place carried (sym tested ∙ w.if-same_bytes.false))
          ],
    )

pub returns : goal.returns
returns c = sym (c.loop.invariant.1 ∙ least-end _ _ _ _ _ _ (omega arith))
