use Rattle.std.proofs.Common.{arith}
use Rattle.bundle.proofs.BundleAnswerLaws.{flat-told}
use Rattle.bundle.proofs.table.judge_beef.Goals as goal

pub returns : goal.returns
returns c =
    let e = c.judge_flat-judged.ensures in
    let t = flat-told _ _ (omega arith) (omega arith) _ _ _ _ _ e.0 in
    (t.0, e.1, rw (c.fill.ensures, c.count_of.ensures) t.1)
