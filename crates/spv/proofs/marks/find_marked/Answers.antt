use Rattle.std.proofs.Common.{arith, sym, ◌∙◌}
use Rattle.spv.proofs.MarksLaws.{marked-at, mark-within, mark-rises, mark_finds}
use Rattle.spv.proofs.marks.find_marked.Goals as goal

pub overflow_sub-left : goal.overflow_sub-left
overflow_sub-left c =
    let m = marked-at _ _ _ _ c.requires.0 _ _ c.last_mark-i.ensures.0 c.last_mark-i.ensures.1 in
    omega (arith, mark-within _ _ _ _ _ m _ _ (sym c.in-Ok.ensures))

pub seek_rising-requires : goal.seek_rising-requires
seek_rising-requires c =
    let m = marked-at _ _ _ _ c.requires.0 _ _ c.last_mark-i.ensures.0 c.last_mark-i.ensures.1 in
    mark-rises _ _ _ _ _ m _ _ (sym c.in-Ok.ensures)

pub returns : goal.returns
returns c =
    let m = marked-at _ _ _ _ c.requires.0 _ _ c.last_mark-i.ensures.0 c.last_mark-i.ensures.1 in
    c.seek_rising.ensures ∙ sym (mark_finds _ _ _ _ _ m _ _ (sym c.in-Ok.ensures) c.args.position c.last_mark-i.ensures.2)
