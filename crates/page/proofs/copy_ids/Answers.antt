use mathlib.Core.Path.{refl, ◌∙◌}
use native.Mathlib.Omega.{arith}
use Rattle.format.proofs.BytesLaws.{hash-at-length}
use Rattle.page.proofs.FlatLaws.{copied_none, copied_on, copied_all}
use Rattle.page.proofs.copy_ids.Goals as goal

pub loop-row-init : goal.loop-row-init
loop-row-init c = (refl, copied_none _ _)

pub loop-row-preserved : goal.loop-row-preserved
loop-row-preserved c = (
  c.set_hash.auto.list ∙ c.loop-row.invariant.0,
  rw (c.set_hash.ensures, c.hash_at.ensures) (copied_on _ _ _ (omega arith) (omega arith) (hash-at-length _ _) c.loop-row.invariant.1),
)

pub returns : goal.returns
returns c = copied_all _ _ _ _ (omega arith) c.loop-row.invariant.1
