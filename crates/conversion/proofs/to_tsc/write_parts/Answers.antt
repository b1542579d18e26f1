use mathlib.Core.Path.{sym}
use lib.Seq.{length-take-le}
use Rattle.conversion.proofs.ConvertLaws.{wrote_tsc}
use Rattle.conversion.proofs.to_tsc.write_parts.Goals as goal

pub slice_bounds-write-end-3 : goal.slice_bounds-write-end-3
slice_bounds-write-end-3 c = sym (length-take-le _ _ c.requires)

pub returns : goal.returns
returns c = wrote_tsc _ _ _ _ _ _ c.put-next.ensures c.write_varint-next.ensures c.write-next.ensures c.write-next-2.ensures c.write_varint-next-2.ensures c.write.ensures
