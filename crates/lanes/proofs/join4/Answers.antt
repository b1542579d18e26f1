-- In each lane two digests are one block, and their padding is the next.
use Rattle.std.proofs.Common.{◌≡◌, ℕ, List, length, ◌∙◌, rules}
use Rattle.lanes.specs.Lanes.{node, lane, lanes}
use Rattle.lanes.proofs.SideBySide.{lane-all, lane-joined}
use Rattle.lanes.proofs.join4.Goals as goal

pub returns : goal.returns
unfolding node
returns c i =
    let left : length (node i c.args.left) ≡ 32 = lane-all (λ (l : List ℕ). length l ≡ 32) i (search rules) (search rules) (search rules) (search rules) in
    let right : length (node i c.args.right) ≡ 32 = lane-all (λ (l : List ℕ). length l ≡ 32) i (search rules) (search rules) (search rules) (search rules) in
    let e = c.initial.ensures i in
    let f = c.initial-2.ensures i in
    c.digests.ensures i
    ∙ lane-joined (node i c.args.left) (node i c.args.right) (lanes i c.children.result) (lane i c.compress4-first.result) (lane i c.compress_padding4-inner.result) (lane i c.compress4.result) left right (c.children.ensures i)
    (rw e at (c.compress4-first.ensures i)) (c.compress_padding4-inner.ensures i) (rw (f, c.digest_block.ensures i) at (c.compress4.ensures i))
