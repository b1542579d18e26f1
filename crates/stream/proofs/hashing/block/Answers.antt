use Rattle.stream.proofs.Blocks.{block-is}
use lib.ListN.{length}
use mathlib.Core.Path.{◌∙◌, ◌≡◌}
use borrow.Author.Rules.{rules}
use Rattle.stream.proofs.hashing.block.Goals as goal

pub returns : goal.returns
returns c = let h : length c.args.s.now ≡ 64 = search rules in c.block_of.ensures ∙ block-is c.args.s.now h
