use Rattle.std.proofs.Common.{Option, sym, ap}
use Rattle.spv.specs.Values.{has_value}
use Rattle.climbs.specs.Pass.{known_sibling}
use Rattle.climbs.specs.declared.pass.Known.{Known}
use Rattle.climbs.proofs.pass.is_valued.Goals as goal

pub returns-in-None : goal.returns-in-None
unfolding has_value
returns-in-None c = sym (ap (λ (x : Option Known). has_value (known_sibling x)) c.in-None.is)
