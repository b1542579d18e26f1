use mathlib.Core.Path.{◌∙◌}
use lib.ListN.{length}
use Rattle.barrowtide.proofs.InterfaceLaws.{told_number, told_blame, told_value}
use Rattle.barrowtide.proofs.differences.barrowtide_differences.Goals as goal

pub returns : goal.returns
returns c =
    let e = c.list_differences-answer.ensures.value in
    (c.tell_count.ensures.0 ∙ told_number length _ e, c.list_differences-answer.ensures.out_after, c.tell_count.ensures.1 ∙ told_blame length _ e _, c.tell_count.ensures.2 ∙ told_value length _ e (λ n. n) _)
