use Rattle.std.proofs.Common.{refl}
use Rattle.difference.proofs.MergeLaws.{walked}
use Rattle.difference.proofs.listing.tell_all.Goals as goal

pub returns : goal.returns
returns c = walked _ _ _ _ _ _ _ _ refl refl c.put_unless-block.ensures c.put_unless-height.ensures c.tell_levels.ensures
