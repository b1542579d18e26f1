use Rattle.difference.proofs.FillingLaws.{put_full, put-counted, put_written}
use Rattle.difference.specs.Filling.{store}
use mathlib.Core.Path.{sym}
use Rattle.difference.proofs.listing.put.Goals as goal

pub returns-then-room-at : goal.returns-then-room-at
returns-then-room-at c = sym (put_full _ _ _ _ _ _ c.if-room-at.true)

pub returns-then-not-write : goal.returns-then-not-write
returns-then-not-write c = sym (put-counted _ _ _ _ _ _ c.if-room-at.false c.if-not-write.true)

pub returns : goal.returns
unfolding store
returns c = rw c.word.ensures (sym (put_written _ _ _ _ _ _ c.if-room-at.false c.if-not-write.false))
