use Rattle.bundle.specs.Ahead.{set_anchors}
use Rattle.bundle.proofs.ids.set_anchors.Goals as goal

pub returns : goal.returns
unfolding set_anchors
returns c = cc
