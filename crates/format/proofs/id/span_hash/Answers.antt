use mathlib.Core.Path.{sym}
use Rattle.format.proofs.IdLaws.{span_backward, span_outside, span-inside}
use Rattle.format.proofs.id.span_hash.Goals as goal

pub returns-then-end-start : goal.returns-then-end-start
returns-then-end-start c = sym (span_backward _ _ _ c.if-end-start.true)

pub returns-then-s-end : goal.returns-then-s-end
returns-then-s-end c = sym (span_outside _ _ _ c.if-end-start.false c.if-s-end.true)

pub returns : goal.returns
returns c = rw (c.unwrap_or.ensures, c.sha256d.ensures) (sym (span-inside _ _ _ c.if-end-start.false c.if-s-end.false))
