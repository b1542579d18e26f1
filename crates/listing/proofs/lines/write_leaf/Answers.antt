use Rattle.encoding.proofs.BufferLaws.{wrote_then}
use Rattle.listing.specs.Listing.{leaf_line}
use Rattle.listing.proofs.lines.write_leaf.Goals as goal

pub returns : goal.returns
unfolding leaf_line
returns c = wrote_then _ _ _ (wrote_then _ _ _ (wrote_then _ _ _ c.write-next.ensures c.write_decimal-next.ensures) c.write_kind-next.ensures) c.write.ensures
