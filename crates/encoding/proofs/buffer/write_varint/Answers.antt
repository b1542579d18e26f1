use mathlib.Core.Path.{ap, ◌∙◌}
use native.Mathlib.Omega.{arith}
use Rattle.encoding.specs.Buffer.{write_on}
use Rattle.encoding.proofs.BufferLaws.{wrote_byte, wrote_cons}
use Rattle.encoding.proofs.DigitsLaws.{little-bytes}
use Rattle.encoding.proofs.VarintEncoding.{varint-one, varint-two, varint-four, varint-eight}
use Rattle.encoding.proofs.buffer.write_varint.Goals as goal

pub returns-then-n-lt253 : goal.returns-then-n-lt253
returns-then-n-lt253 c = wrote_byte _ _ (varint-one _ (omega arith)) c.put.ensures

pub returns-then-n-lt65536 : goal.returns-then-n-lt65536
returns-then-n-lt65536 c = wrote_cons _ _ _ (varint-two _ (omega arith) (omega arith)) c.put-next.ensures (c.write.ensures ∙ ap (write_on _) (c.to_le_bytes.ensures ∙ little-bytes 2 _))

pub returns-then-n-lt4294967296 : goal.returns-then-n-lt4294967296
returns-then-n-lt4294967296 c =
    wrote_cons _ _ _ (varint-four _ (omega arith) (omega arith)) c.put-next-then-n-lt4294967296.ensures
    (c.write-then-n-lt4294967296.ensures ∙ ap (write_on _) (c.to_le_bytes-then-n-lt4294967296.ensures ∙ little-bytes 4 _))

pub returns : goal.returns
returns c = wrote_cons _ _ _ (varint-eight _ (omega arith)) c.put-next-2.ensures (c.write-2.ensures ∙ ap (write_on _) (c.to_le_bytes-2.ensures ∙ little-bytes 8 _))
