use Prim.Native.Nat.{ℕ}
use lib.ListN.{length-replicate}
use Rattle.spv.proofs.MarksLaws.{filling-start, no_marks}
use Rattle.spv.proofs.values.join_at.Goals as goal

pub loop-y-init : goal.loop-y-init
loop-y-init c = filling-start _ _ _ _ (length-replicate {A = ℕ} 1024 0) (no_marks 1024)
