use Prim.Native.Nat.{ℕ}
use lib.ListN.{length-replicate}
use Rattle.bumplist.proofs.output.Goals as goal

pub returns : goal.returns
returns c = length-replicate {A = ℕ} 1114112 0
