-- A block that lies within the message has the padded message's bytes.
use Rattle.std.proofs.Common.{◌*◌, ◌∙◌, arith}
use Rattle.hash.proofs.Padding.{block-whole}
use Rattle.hash.proofs.block.Goals as goal

pub returns-then-at-s : goal.returns-then-at-s
returns-then-at-s c = c.words_at.ensures ∙ block-whole c.args.s.now (64 * c.args.i) (omega arith)
