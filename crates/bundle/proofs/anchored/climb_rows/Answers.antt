use native.Mathlib.Omega.{arith}
use Rattle.bundle.proofs.AnchoredLaws.{rows_settled}
use Rattle.bundle.proofs.anchored.climb_rows.Goals as goal

pub returns : goal.returns
returns c = rows_settled _ _ _ _ _ _ _ _ _ _ _ _ c.requires.starts_len_bound (omega arith) (omega arith) c.requires.hold_ids (omega arith) c.bump_path-path.ensures c.prove_all.ensures.0 c.prove_all.ensures.1 c.prove_all.ensures.2 c.prove_all.ensures.3 c.prove_all.auto.starts c.settle_rows.ensures
