use native.Mathlib.Omega.{arith}
use mathlib.Core.Path.{sym, ◌∙◌}
use Rattle.format.proofs.Gather.{gather-start, gather-step, gather-refused, gather-done, each_same}
use Rattle.path.proofs.TscPathLaws.{places-kept, places-refused}
use Rattle.path.proofs.path.node_places.Goals as goal

pub loop-i-init : goal.loop-i-init
loop-i-init c = gather-start _ _ _ _ _ _ _

pub returns-in_default : goal.returns-in_default
returns-in_default c =
    places-refused _ _ _ (gather-refused _ _ _ _ _ _ _ c.loop-i.invariant (omega arith)
    (each_same _ ∙ sym c.in_default.ensures))

pub loop-i-preserved : goal.loop-i-preserved
loop-i-preserved c =
    gather-step _ _ _ _ _ _ _ c.requires c.loop-i.invariant (omega arith)
    (each_same _ ∙ sym c.in-Ok.ensures)

pub returns : goal.returns
returns c =
    let d = gather-done _ _ _ _ _ _ _ c.requires c.loop-i.invariant (omega arith) in
    places-kept _ _ _ d.0 d.2
