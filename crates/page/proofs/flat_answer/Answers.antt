use mathlib.Core.Path.{sym, ◌∙◌}
use Rattle.page.proofs.FlatLaws.{flat-past, flat_over, flat-here, flat-row}
use Rattle.page.proofs.flat_answer.Goals as goal

pub returns-then-count-row : goal.returns-then-count-row
returns-then-count-row c = c.blank.ensures ∙ sym (flat-past c.args.roots.now c.args.numbers.now c.args.count c.args.row c.if-count-row.true)

pub returns-then-row-ge-MAX_PAGE : goal.returns-then-row-ge-MAX_PAGE
returns-then-row-ge-MAX_PAGE c = c.blank-then-row-ge-MAX_PAGE.ensures ∙ sym (flat_over c.args.roots.now c.args.numbers.now c.args.count c.args.row c.if-count-row.false c.if-row-ge-MAX_PAGE.true)

pub returns : goal.returns
returns c = flat-row c.args.roots.now c.args.numbers.now c.args.row _ c.hash_at-root.ensures c.proved_at-proved.ensures c.answer_of.ensures ∙ sym (flat-here c.args.roots.now c.args.numbers.now c.args.count c.args.row c.if-count-row.false c.if-row-ge-MAX_PAGE.false)
