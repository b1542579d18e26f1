use native.Mathlib.Omega.{arith}
use mathlib.Core.Path.{◌≡◌}
use Prim.Native.Nat.{◌+◌, ◌*◌, ◌/◌}
use Rattle.block.proofs.HeapLaws.{raising_start, raising_on, raising_four, raising_end}
use Rattle.block.proofs.tree.raise.Goals as goal

pub loop-k-init : goal.loop-k-init
loop-k-init c = raising_start _ _ _ _ _

pub loop-k-preserved : goal.loop-k-preserved
loop-k-preserved c =
    let n : 4 * c.loop-k.k + 4 ≡ 4 * (c.loop-k.k + 1) = omega arith in
    rw (← n) (raising_four _ _ _ _ _ _ _ c.loop-k.invariant (omega arith) (omega arith) (omega arith) (omega arith) (omega arith) _ _ c.parents-four.ensures c.set_four.ensures)

pub loop-j-init : goal.loop-j-init
loop-j-init c = λ first r. r

pub loop-j-preserved : goal.loop-j-preserved
loop-j-preserved c =
    λ first r.
    let x = c.loop-j.invariant first r in
    let xl = x.long in
    let e : c.loop-k.k ≡ (c.args.count + 1) / 2 / 4 = omega arith in
    let yl = (c.loop-j.invariant _ (rw e at c.loop-k.invariant)).long in
    raising_on _ _ _ _ _ _ _ x (omega arith) (omega arith) (omega arith) (omega arith) (omega arith) _ _ _ _ c.node_at-left.ensures c.right_of-right.ensures c.join.ensures c.set_hash.ensures

pub returns : goal.returns
returns c =
    let e : c.loop-k.k ≡ (c.args.count + 1) / 2 / 4 = omega arith in
    let r = c.loop-j.invariant _ (rw e at c.loop-k.invariant) in
    record { rises = raising_end _ _ _ _ _ _ _ r (omega arith); keeps = r.kept }
