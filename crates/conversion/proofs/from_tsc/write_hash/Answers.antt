use mathlib.Core.Path.{ap, ◌∙◌}
use Rattle.encoding.specs.Buffer.{write_on}
use Rattle.encoding.proofs.BufferLaws.{write_cons}
use Rattle.conversion.proofs.from_tsc.write_hash.Goals as goal

pub returns : goal.returns
returns c = write_cons _ 0 _ c.put-next.ensures (c.write.ensures ∙ ap (write_on _) c.hash_at-hash.ensures)
