use Rattle.std.proofs.Common.{sym, ◌∙◌, arith}
use Rattle.path.proofs.SearchLaws.{seek-end, seek_stop, seek-here, seek_on}
use Rattle.spv.proofs.MarksLaws.{rises_lower, rises_next, past-rising}
use Rattle.spv.proofs.marks.seek_rising.Goals as goal

pub returns-in_default : goal.returns-in_default
returns-in_default c = sym (c.loop.invariant.0 ∙ seek_stop _ _ _ _ _ (omega arith) (sym c.in_default.ensures))

pub returns-then-leaf-position : goal.returns-then-leaf-position
returns-then-leaf-position c = sym (c.loop.invariant.0 ∙ seek-here _ _ _ _ _ (omega arith) (sym c.in-Ok.ensures) c.if-leaf-position.true)

pub returns-then-position-leaf : goal.returns-then-position-leaf
returns-then-position-leaf c = sym (c.loop.invariant.0 ∙ past-rising _ _ _ _ _ (omega arith) (sym c.in-Ok.ensures) c.if-position-leaf.true c.loop.invariant.1)

pub loop-preserved : goal.loop-preserved
loop-preserved c = (
  c.loop.invariant.0 ∙ seek_on _ _ _ _ _ _ (omega arith) (sym c.in-Ok.ensures) c.if-leaf-position.false,
  rises_lower _ _ _ _ _ _ (omega arith) (rises_next _ _ _ _ _ _ (omega arith) (sym c.in-Ok.ensures) c.loop.invariant.1),
)

pub returns : goal.returns
returns c = sym (c.loop.invariant.0 ∙ seek-end _ _ _ _ _ (omega arith))
