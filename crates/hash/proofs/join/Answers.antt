-- Two digests are one block, and their padding is the next.
use Rattle.std.proofs.Common.{◌≡◌, length, ◌∙◌, rules, ◌++◌, length-append}
use Rattle.hash.proofs.Digests.{joined_whole}
use Rattle.hash.proofs.join.Goals as goal

pub returns : goal.returns
returns c =
    let size : length (c.args.left ++ c.args.right) ≡ 64 = search (rules, length-append) in
    c.hash_digest.ensures
    ∙ rw (c.compress_padding.ensures, c.compress.ensures, c.initial.ensures, c.words_at.ensures, c.both-children.ensures)
    (joined_whole (c.args.left ++ c.args.right) size)
