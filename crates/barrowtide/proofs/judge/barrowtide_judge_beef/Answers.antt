use mathlib.Core.Path.{◌∙◌}
use lib.ListN.{length}
use Rattle.barrowtide.proofs.InterfaceLaws.{told_number, told_blame, told_value}
use Rattle.barrowtide.proofs.judge.barrowtide_judge_beef.Goals as goal

pub returns : goal.returns
returns c =
    let e = c.judge_beef-judged.ensures.0 in
    (c.tell.ensures.1 ∙ told_number length _ e, c.judge_beef-judged.ensures.2, c.tell.ensures.2 ∙ told_blame length _ e _, c.tell.ensures.3 ∙ told_value length _ e (λ n. n) _, c.tell.ensures.0 ∙ c.judge_beef-judged.ensures.1)
