use mathlib.Core.Path.{sym}
use Rattle.encoding.proofs.BufferLaws.{put_stored, put_dropped}
use Rattle.encoding.proofs.buffer.put.Goals as goal

pub returns-then-at-out : goal.returns-then-at-out
returns-then-at-out c = sym (put_stored _ _ _ c.if-at-out.true)

pub returns : goal.returns
returns c = sym (put_dropped _ _ _ c.if-at-out.false)
