use mathlib.Core.Path.{sym, ◌∙◌}
use native.Mathlib.Omega.{arith}
use Rattle.bundle.proofs.WorkMadeLaws.{id-low, span-before, span-past, span-counted}
use Rattle.bundle.proofs.ids.span_work.Goals as goal

pub returns-then-x : goal.returns-then-x
returns-then-x c = (sym (span-before _ c.if-x.true), omega arith)

pub returns-then-length-gt-MAX_INPUT : goal.returns-then-length-gt-MAX_INPUT
returns-then-length-gt-MAX_INPUT c = (sym (span-past _ c.if-x.false c.if-length-gt-MAX_INPUT.true), omega arith)

pub returns : goal.returns
returns c =
    let low = id-low _ c.if-length-gt-MAX_INPUT.false in
    (c.id_work.ensures ∙ sym (span-counted _ c.if-x.false c.if-length-gt-MAX_INPUT.false), omega arith)
