use native.Mathlib.Omega.{arith}
use mathlib.Core.Path.{◌∙◌, ap}
use Rattle.block.specs.Leaves.{level_leaves, level_size, leaf_count, bytes_at}
use Rattle.block.proofs.LeavesLaws.{sum-start, sum_on, sum_over, sum-end, bytes-few}
use Rattle.block.proofs.level.level_tally.Goals as goal
use Rattle.block.proofs.level.level_tally.Goals.{in-Some, in_default}

pub loop-o-init : goal.loop-o-init
loop-o-init c = (sum-start _ _, sum-start _ _, omega arith, omega arith, omega arith)

pub overflow_add-bytes : goal.overflow_add-bytes
overflow_add-bytes c = omega (arith, bytes-few c.loop-o.o c.in-Some.leaf)

pub loop-o-preserved : goal.loop-o-preserved
unfolding leaf_count bytes_at
loop-o-preserved c =
    elim c.match-asked_at.branch [
      | in-Some w ↦
          rw (w.leaves-is, w.bytes-is) (
            sum_on _ _ _ _ _ (omega arith) (ap leaf_count w.in-Some.ensures) ∙ c.loop-o.invariant.0,
            sum_on _ _ _ _ _ (omega arith) (w.leaf_bytes-bytes.ensures ∙ ap (bytes_at c.loop-o.o) w.in-Some.ensures) ∙ c.loop-o.invariant.1,
            omega arith,
            omega arith,
            omega (arith, bytes-few c.loop-o.o w.in-Some.leaf),
          )
      | in_default w ↦
          rw (w.leaves-is, w.bytes-is) (sum_over _ _ _ _ (omega arith) (ap leaf_count w.in_default.ensures) ∙ c.loop-o.invariant.0, sum_over _ _ _ _ (omega arith) (ap (bytes_at c.loop-o.o) w.in_default.ensures) ∙ c.loop-o.invariant.1, omega arith, omega arith, omega arith)
    ]

pub returns : goal.returns
unfolding level_leaves level_size
returns c = (sum-end _ _ _ _ (omega arith) c.loop-o.invariant.0, sum-end _ _ _ _ (omega arith) c.loop-o.invariant.1, omega arith, omega arith)
