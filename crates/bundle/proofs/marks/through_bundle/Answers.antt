use native.Mathlib.Omega.{arith}
use Rattle.bundle.proofs.FlatLaws.{through-past, through-at}
use Rattle.bundle.proofs.marks.through_bundle.Goals as goal

pub returns-then-p-ge-FIRSTS_ROOM : goal.returns-then-p-ge-FIRSTS_ROOM
returns-then-p-ge-FIRSTS_ROOM c = through-past _ _ _ (omega arith)

pub returns : goal.returns
returns c = through-at _ _ _
