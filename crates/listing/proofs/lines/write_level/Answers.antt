use mathlib.Core.Path.{sym, ◌∙◌}
use Rattle.listing.specs.Listing.{level_line}
use Rattle.listing.proofs.WalkLaws.{level-refused, level-counted}
use Rattle.listing.proofs.lines.write_level.Goals as goal

pub returns-in_default : goal.returns-in_default
returns-in_default c = sym (level-refused _ _ _ _ (sym c.in_default.ensures))

pub returns : goal.returns
unfolding level_line
returns c = c.write_leaves.ensures ∙ sym (level-counted _ _ _ _ (sym c.in-Ok.ensures) c.pair_line-after.ensures)
