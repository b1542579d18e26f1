use native.Mathlib.Omega.{arith}
use Rattle.conversion.proofs.ConvertLaws.{wrote_odd, wrote_even}
use Rattle.conversion.proofs.from_tsc.write_client_level.Goals as goal

pub returns-then-i-eq1 : goal.returns-then-i-eq1
returns-then-i-eq1 c = wrote_odd _ _ _ _ c.put-next.ensures c.if-i-eq1.true c.write_sibling-next.ensures c.write_client.ensures

-- That i is even is found without the test's name, so that a wrong test is refused for that.
pub returns : goal.returns
returns c = wrote_even _ _ _ _ c.put-next.ensures (omega arith) c.write_client-next.ensures c.write_sibling.ensures
