use native.Mathlib.Omega.{arith}
use lib.Seq.{length-take-le}
use Rattle.bundle.proofs.AnchoredLaws.{risen_settled}
use Rattle.bundle.proofs.anchored.climb_named.Goals as goal

pub returns : goal.returns
returns c =
    let long = length-take-le c.gather-count.result c.args.starts.now (omega arith) in
    risen_settled _ _ _ _ _ _ _ _ c.gather-count.ensures _ _ long c.climb_rows.ensures
