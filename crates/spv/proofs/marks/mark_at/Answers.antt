use Rattle.std.proofs.Common.{sym, subst}
use Rattle.spv.specs.Marks.{IsMark}
use Rattle.spv.proofs.MarksLaws.{mark-first, mark-next, mark-narrowed}
use Rattle.spv.proofs.marks.mark_at.Goals as goal

pub returns-then-rises_from : goal.returns-then-rises_from
returns-then-rises_from c =
    subst (IsMark c.args.layout c.args.s.now c.args.places.now c.args.y) (sym c.narrow.ensures)
    (mark-narrowed _ _ _ _ _ (mark-first _ _ _ _ _ _ c.if-i-eq0.true (sym c.in-Ok.ensures) (c.rises_from.ensures c.if-rises_from.true)))

pub returns : goal.returns
returns c =
    subst (IsMark c.args.layout c.args.s.now c.args.places.now c.args.y) (sym c.narrow-2.ensures)
    (mark-narrowed _ _ _ _ _ (mark-next _ _ _ _ _ _ _ c.if-i-eq0.false (c.requires.1 c.if-i-eq0.false) c.if-before-eq0.false (sym c.in-Ok.ensures) c.if-count-i.false _ c.place_after.ensures))
