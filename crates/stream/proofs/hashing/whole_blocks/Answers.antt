use lib.ListN.{length}
use Rattle.stream.proofs.Blocks.{block-turn, there-length}
use native.Mathlib.Omega.{arith}
use mathlib.Core.Path.{◌≡◌, refl, ◌∙◌, ap}
use Rattle.stream.specs.HashState.{blocks_from}
use Prim.Native.Nat.{◌-◌, ◌/◌, ℕ, ◌*◌, ◌+◌}
use Rattle.stream.proofs.hashing.whole_blocks.Goals as goal

pub loop-i-init : goal.loop-i-init
unfolding blocks_from
loop-i-init c = (omega arith, refl)

pub block-requires : goal.block-requires
block-requires c = there-length c.args.s.now c.loop-i.i (64 * c.loop-i.i + 64 - 64 * c.loop-i.i) (omega arith) (omega arith)

pub loop-i-preserved : goal.loop-i-preserved
loop-i-preserved c = (omega arith, block-turn c.args.h c.args.s.now c.loop-i.i (64 * c.loop-i.i + 64 - 64 * c.loop-i.i) (omega arith) c.loop-i.invariant.1 c.block.ensures c.compressed-r.ensures)

pub returns : goal.returns
returns c =
    let e : c.loop-i.i ≡ length c.args.s.now / 64 = omega arith in
    c.loop-i.invariant.1 ∙ ap (λ (k : ℕ). blocks_from c.args.h c.args.s.now k) e
