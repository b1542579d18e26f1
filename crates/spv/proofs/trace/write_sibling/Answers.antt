use Rattle.std.proofs.Common.{ap}
use Rattle.encoding.proofs.BufferLaws.{wrote_byte, wrote_cons}
use Rattle.encoding.specs.BumpBytes.{carried_bytes}
use Rattle.spv.specs.Shapes.{sibling_of}
use Rattle.spv.specs.Trace.{as_carried}
use Rattle.spv.proofs.trace.write_sibling.Goals as goal

pub returns-in-Value : goal.returns-in-Value
unfolding carried_bytes as_carried
returns-in-Value c = wrote_cons _ 0 _ (ap (λ n. carried_bytes (as_carried (sibling_of n))) c.in-Value.is) c.put-next.ensures c.write.ensures

pub returns-in-Copied : goal.returns-in-Copied
unfolding carried_bytes as_carried
returns-in-Copied c = wrote_byte _ 1 (ap (λ n. carried_bytes (as_carried (sibling_of n))) c.in-Copied.is) c.put.ensures

pub returns-in-Absent : goal.returns-in-Absent
unfolding carried_bytes as_carried
returns-in-Absent c = wrote_byte _ 1 (ap (λ n. carried_bytes (as_carried (sibling_of n))) c.in-Absent.is) c.put-in-Absent.ensures
