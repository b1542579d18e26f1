use native.Mathlib.Omega.{arith}
use Rattle.bundle.proofs.BundleAnswerLaws.{row_told}
use Rattle.bundle.proofs.table.judge_row.Goals as goal

pub returns : goal.returns
returns c =
    rw (c.record_at-record.ensures, c.count_of.ensures)
    (row_told _ _ (omega arith) (omega arith) _ _ _ _ _ _ c.judge_flat-judged.ensures.0)
