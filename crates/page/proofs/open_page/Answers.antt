use mathlib.Core.Path.{sym, ap, ◌∙◌}
use Rattle.std.specs.Prelude.{Err}
use Rattle.page.specs.Opening.{opening_of}
use Rattle.page.proofs.PageLaws.{page-part, page_over, page_short, page-asked}
use Rattle.page.proofs.open_page.Goals as goal

pub returns-then-ids-ne0 : goal.returns-then-ids-ne0
returns-then-ids-ne0 c = ap Err c.reject_for.ensures ∙ ap (opening_of c.args.s.now) (sym (page-part c.args.s.now c.args.ids.now c.args.room c.if-ids-ne0.true))

pub returns-then-count-gt-MAX_PAGE : goal.returns-then-count-gt-MAX_PAGE
returns-then-count-gt-MAX_PAGE c = ap Err c.reject_for-then-count-gt-MAX_PAGE.ensures ∙ ap (opening_of c.args.s.now) (sym (page_over c.args.s.now c.args.ids.now c.args.room c.if-ids-ne0.false c.if-count-gt-MAX_PAGE.true))

pub returns-then-room-count : goal.returns-then-room-count
returns-then-room-count c = ap Err c.reject_for-then-room-count.ensures ∙ ap (opening_of c.args.s.now) (sym (page_short c.args.s.now c.args.ids.now c.args.room c.if-ids-ne0.false c.if-count-gt-MAX_PAGE.false c.if-room-count.true))

pub returns : goal.returns
returns c = c.read_page.ensures ∙ ap (opening_of c.args.s.now) (sym (page-asked c.args.s.now c.args.ids.now c.args.room c.if-ids-ne0.false c.if-count-gt-MAX_PAGE.false c.if-room-count.false))
