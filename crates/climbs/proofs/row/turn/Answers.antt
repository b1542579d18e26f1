use Rattle.std.proofs.Common.{List, ℕ, ap, ◌∙◌}
use Rattle.spv.specs.Climb.{step}
use Rattle.spv.specs.Shapes.{sibling_of}
use Rattle.climbs.proofs.row.turn.Goals as goal

pub returns : goal.returns
returns c = c.fold.ensures ∙ ap (λ (h : List ℕ). step (sibling_of c.args.node) c.args.odd h) c.hash_at.ensures
