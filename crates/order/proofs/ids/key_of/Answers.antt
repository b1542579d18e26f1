use mathlib.Core.Path.{◌∙◌}
use native.Mathlib.Omega.{arith}
use Rattle.order.specs.Ids.{key_of}
use Rattle.order.proofs.ids.key_of.Goals as goal

pub returns : goal.returns
returns c = unfold key_of in (c.from_le_bytes.ensures ∙ omega arith)
