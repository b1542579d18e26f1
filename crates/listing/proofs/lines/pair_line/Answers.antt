use Rattle.encoding.proofs.BufferLaws.{wrote_then}
use Rattle.listing.proofs.lines.pair_line.Goals as goal

pub returns : goal.returns
returns c = wrote_then _ _ _ (wrote_then _ _ _ (wrote_then _ _ _ (wrote_then _ _ _ c.write-next.ensures c.write_decimal-next.ensures) c.write-next-2.ensures) c.write_decimal-next-2.ensures) c.write.ensures
