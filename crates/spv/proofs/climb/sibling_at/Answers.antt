use mathlib.Core.Path.{sym, ◌∙◌}
use Rattle.spv.proofs.SiblingsLaws.{path_here, path_missing}
use Rattle.spv.proofs.climb.sibling_at.Goals as goal

pub returns-in-Some : goal.returns-in-Some
returns-in-Some c = c.written_node.ensures ∙ sym (path_here _ _ _ _ _ (sym c.in-Some.ensures))

pub returns-in-None : goal.returns-in-None
returns-in-None c = c.join_in.ensures ∙ sym (path_missing _ _ _ _ (sym c.in-None.ensures))
