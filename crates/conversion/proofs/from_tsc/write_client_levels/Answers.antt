use mathlib.Core.Path.{sym}
use Rattle.conversion.proofs.ConvertLaws.{client_short_wrote, client_wrote}
use Rattle.conversion.proofs.from_tsc.write_client_levels.Goals as goal

pub returns-in_default : goal.returns-in_default
returns-in_default c = client_short_wrote _ _ _ _ _ (sym c.in_default.ensures) _

pub returns : goal.returns
returns c = client_wrote _ _ _ _ _ c.requires (sym c.in-Ok.ensures) _ c.write_client_level-next.ensures c.write_levels.ensures
