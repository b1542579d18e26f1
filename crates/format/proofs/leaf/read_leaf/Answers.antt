use mathlib.Core.Path.{sym, ◌∙◌}
use Rattle.format.proofs.ParseLaws.{passed_on}
use Rattle.format.proofs.SeenLaws.{leaf-refused, leaf-carried}
use Rattle.format.proofs.leaf.read_leaf.Goals as goal

pub read_offset-requires : goal.read_offset-requires
read_offset-requires c = c.requires

pub returns-in_err-offset : goal.returns-in_err-offset
returns-in_err-offset c = passed_on _ _ c.from_residual.ensures.1 ∙ (sym (leaf-refused _ _ _ _ _ _ (sym c.in_err-offset.ensures)))

pub returns : goal.returns
returns c = c.read_carried.ensures ∙ sym (leaf-carried _ _ _ _ _ _ (sym c.in_ok-offset.ensures))
