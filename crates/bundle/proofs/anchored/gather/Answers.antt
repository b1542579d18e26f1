use mathlib.Core.Path.{refl, ap, ◌∙◌}
use native.Mathlib.Omega.{arith}
use borrow.Author.Rules.{rules}
use lib.ListN.{length, length-set}
use Rattle.format.proofs.BytesLaws.{hash-at-length}
use Rattle.bundle.proofs.AnchoredLaws.{gathered_none, gathered_one}
use Rattle.bundle.proofs.anchored.gather.Goals as goal

pub loop-i-init : goal.loop-i-init
loop-i-init c = (search rules, search rules, refl, refl, gathered_none _ _ _ _ _)

pub loop-i-preserved : goal.loop-i-preserved
loop-i-preserved c = (
  search rules,
  search rules,
  simp length-set c.loop-i.invariant.2,
  c.set_hash.auto.list ∙ c.loop-i.invariant.3,
  gathered_one _ _ _ c.loop-i.invariant.4 c.if-anchors-i.false (omega arith) (omega arith) c.hash_at-id.ensures (ap length c.hash_at-id.ensures ∙ hash-at-length _ _) c.set_hash.ensures,
)
