use Rattle.block.proofs.CallLaws.{sized-block, sized-whole, sized-few, sized-many}
use Rattle.block.proofs.block.within_sizes.Goals as goal

pub returns-then-block-gt-MAX_BLOCK : goal.returns-then-block-gt-MAX_BLOCK
returns-then-block-gt-MAX_BLOCK c = sized-block _ _ c.if-block-gt-MAX_BLOCK.true

pub returns-then-ids-ne0 : goal.returns-then-ids-ne0
returns-then-ids-ne0 c = sized-whole _ _ c.if-block-gt-MAX_BLOCK.false c.if-ids-ne0.true

pub returns-then-n-lt2 : goal.returns-then-n-lt2
returns-then-n-lt2 c = sized-few _ _ c.if-block-gt-MAX_BLOCK.false c.if-ids-ne0.false c.if-n-lt2.true

pub returns : goal.returns
returns c = sized-many _ _ c.if-block-gt-MAX_BLOCK.false c.if-ids-ne0.false c.if-n-lt2.false
