use mathlib.Core.Path.{◌∙◌}
use lib.ListN.{length}
use Rattle.barrowtide.proofs.InterfaceLaws.{told_number, told_blame, told_value}
use Rattle.barrowtide.proofs.convert.barrowtide_tsc_to_bump.Goals as goal

pub returns : goal.returns
returns c =
    let e = c.tsc_to_bump-answer.ensures.0 in
    (c.tell_count.ensures.0 ∙ told_number length _ e, c.tsc_to_bump-answer.ensures.1, c.tell_count.ensures.1 ∙ told_blame length _ e _, c.tell_count.ensures.2 ∙ told_value length _ e (λ n. n) _)
