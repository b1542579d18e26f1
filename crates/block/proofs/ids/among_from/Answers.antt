use native.Mathlib.Omega.{arith}
use mathlib.Core.Path.{sym, ◌∙◌}
use Rattle.spv.proofs.HashesLaws.{search-end}
use Rattle.block.proofs.IdsLaws.{found_here, not-here}
use Rattle.block.proofs.ids.among_from.Goals as goal

pub returns-then-same_bytes : goal.returns-then-same_bytes
returns-then-same_bytes c = sym (sym c.loop-i.invariant ∙ found_here _ _ _ (omega arith) c.hash_at.ensures c.same_bytes.ensures c.if-same_bytes.true)

pub loop-i-preserved : goal.loop-i-preserved
loop-i-preserved c = sym (not-here _ _ _ (omega arith) c.hash_at.ensures c.same_bytes.ensures c.if-same_bytes.false) ∙ c.loop-i.invariant

pub returns : goal.returns
returns c = sym (sym c.loop-i.invariant ∙ search-end _ _ _ (omega arith))
