use mathlib.Core.Path.{◌∙◌}
use Rattle.merging.specs.Merging.{sizes_of}
use Rattle.barrowtide.specs.Leaves.{bytes_of, leaves_of}
use Rattle.barrowtide.proofs.InterfaceLaws.{told_number, told_blame, told_value}
use Rattle.barrowtide.proofs.leaves.barrowtide_merge.Goals as goal

pub returns : goal.returns
unfolding bytes_of leaves_of
returns c =
    let e = c.merge-answer.ensures.value in
    (c.tell_merged.ensures.0 ∙ told_number sizes_of _ e, c.merge-answer.ensures.bytes_after, c.merge-answer.ensures.list_after, c.tell_merged.ensures.1 ∙ told_blame sizes_of _ e _, c.tell_merged.ensures.2 ∙ told_value sizes_of _ e (λ m. m.bytes) _, c.tell_merged.ensures.3 ∙ told_value sizes_of _ e (λ m. m.leaves) _)
