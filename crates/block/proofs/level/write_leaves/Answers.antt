use native.Mathlib.Omega.{arith}
use mathlib.Core.Path.{◌∙◌, ap, sym, refl}
use Rattle.encoding.specs.Buffer.{write_on}
use Rattle.block.specs.Leaves.{leaves_text, text_at}
use Rattle.block.proofs.LeavesLaws.{text-start, text_on, text_over, text-end}
use Rattle.block.proofs.level.write_leaves.Goals as goal
use Rattle.block.proofs.level.write_leaves.Goals.{in-Some, in_default}

pub loop-o-init : goal.loop-o-init
loop-o-init c = (text-start _ _ _, omega arith, refl)

pub loop-o-preserved : goal.loop-o-preserved
unfolding text_at
loop-o-preserved c =
    elim c.match-asked_at.branch [
      | in-Some w ↦
          rw (w.next-is, w.out-is) (c.loop-o.invariant.0 ∙ text_on _ _ _ _ (omega arith) (w.write_leaf-next.ensures ∙ ap (write_on _) (ap (text_at _ _ _ _ _) w.in-Some.ensures)), omega arith, w.write_leaf-next.auto.out ∙ c.loop-o.invariant.2)
      | in_default w ↦
          rw (w.next-is, w.out-is) (c.loop-o.invariant.0 ∙ text_over _ _ _ _ (omega arith) (ap (text_at _ _ _ _ _) w.in_default.ensures), omega arith, c.loop-o.invariant.2)
    ]

pub shape_of-out : goal.shape_of-out
shape_of-out c = c.loop-o.invariant.2

pub returns : goal.returns
unfolding leaves_text
returns c = sym (c.loop-o.invariant.0 ∙ text-end _ _ _ _ (omega arith))
